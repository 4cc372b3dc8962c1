-- The printed text of profiles gives them again.
use Rattle.std.proofs.Common.{◌≡◌, ℕ, ◌<◌, ◌^◌, ◌==◌, true, not, List, [], ◌∷◌, ◌++◌, length, Some, Ok, refl, sym, ap, subst, ◌∙◌}
use Rattle.std.specs.Prelude.{Option, codes, map}
use Rattle.std.specs.List.{list_all, flat_map}
use Rattle.std.specs.Option.{option_and_then}
use Rattle.std.specs.Fmt.{decimal}
use Rattle.std.proofs.lemmas.List.{append_assoc, append-nil}
use Rattle.std.proofs.lemmas.Grind.{flat_map-append}
use Rattle.tm_word.specs.Prelude.{Text, is_solid, is_word, joined, lines_of, words_of}
use Rattle.tm_rules.specs.Types.{Config, Namespace, Profile, ProfileEffect, SlotName}
use Rattle.tm_rules.specs.Prelude.{profile_line}
use Rattle.tm_rules.proofs.EqualityLaws.{both}
use Rattle.tm_line.proofs.NameLaws.{texts_same}
use Rattle.tm_line.specs.Lines.{spaced}
use Rattle.tm_line.proofs.JoinLaws.{joined_is}
use Rattle.tm_profile.specs.Slots.{slot_text}
use Rattle.tm_line.proofs.NamespaceLaws.{named as named_at}
use Rattle.tm_profile.specs.Reading.{effect_at, line, line_of}
use Rattle.tm_line.specs.Namespaces.{line_text}
use Rattle.tm_profile.specs.Printing.{headed, comment_words, preference_words, config_words, slot_line, profile_text, profiles_text}
use Rattle.tm_profile.specs.Texts.{IsNamespaceWord, IsComment, IsProfile, AreProfiles, IsWritten, line_done, words_into, lines_into}
use Rattle.tm_line.proofs.LineLaws.{words_again, line_first}
use Rattle.tm_profile.proofs.EffectLaws.{applied, setting_of, slot_effect, effects_of, with_profiles, SlotsRise, profiles_made}
use Rattle.tm_profile.proofs.WordLaws.{headed_word, audit_word, learning_word, version_again, comment_again, preference_again, setting_proper, config_again, slot_again, slot_proper}

-- the words of a line of this namespace give this effect
abbrev pub Reads : List (List Text) → List ProfileEffect → Type 0
Reads [] [] = Unit {0}
Reads [] (e ∷ es) = ⊥
Reads (ws ∷ wss) [] = ⊥
Reads (ws ∷ wss) (e ∷ es) = (list_all is_word ws ≡ true) × (effect_at ws ≡ Ok e) × Reads wss es

reads_append : (wss : List (List Text)) (es : List ProfileEffect) (vss : List (List Text)) (fs : List ProfileEffect) → Reads wss es → Reads vss fs → Reads (wss ++ vss) (es ++ fs)
reads_append [] [] vss fs h k = k
reads_append [] (e ∷ es) vss fs h k = absurd h
reads_append (ws ∷ wss) [] vss fs h k = absurd h
reads_append (ws ∷ wss) (e ∷ es) vss fs h k = (h.0, h.1, reads_append wss es vss fs h.2 k)

-- a text of such lines
abbrev Written : Text → Text → List ProfileEffect → Type 0
Written name text es = (wss : List (List Text)) × (text ≡ flat_map (line_text name) wss) × Reads wss es

none_written : (name : Text) → Written name [] []
none_written name = ([], refl, tt)

one_written : (name : Text) (ws : List Text) (e : ProfileEffect) → list_all is_word ws ≡ true → effect_at ws ≡ Ok e → Written name (line_text name ws) (e ∷ [])
one_written name ws e h k = (ws ∷ [], sym (append-nil (line_text name ws)), (h, k, tt))

both_written : (name x y : Text) (es fs : List ProfileEffect) → Written name x es → Written name y fs → Written name (x ++ y) (es ++ fs)
both_written name x y es fs a b =
    (a.0 ++ b.0, ap (λ (t : Text). t ++ y) a.1 ∙ ap (λ (t : Text). flat_map (line_text name) a.0 ++ t) b.1 ∙ sym (flat_map-append (line_text name) a.0 b.0), reads_append a.0 es b.0 fs a.2 b.2)

-- The lines of a profile

moved : (n : ℕ) (w rest : Text) → spaced (headed n (codes "COMMENT=" ++ (w ++ rest)) ∷ []) ≡ 32 ∷ (headed n (codes "COMMENT=" ++ w) ++ rest)
moved n w rest = ap (λ (t : Text). 32 ∷ t) (append-nil (headed n (codes "COMMENT=" ++ (w ++ rest))) ∙ sym (append_assoc (decimal n) (45 ∷ (codes "COMMENT=" ++ w)) rest))

-- a comment of no word, and one that begins with a word
comment_words_written : (name : Text) (n : ℕ) (words : List Text) → n < 256 → list_all is_word words ≡ true
    → Written name (line_text name (comment_words n (joined words))) (ProfileEffect.Comment n (joined words) ∷ [])
comment_words_written name n [] h k = one_written name (headed n (codes "COMMENT=") ∷ []) (ProfileEffect.Comment n []) (rw (headed_word n (codes "COMMENT=") h refl) refl) (comment_again n [] [] h)
comment_words_written name n ([] ∷ ws) h k = absurd cc
comment_words_written name n ((b ∷ w) ∷ ws) h k =
    let t = both (is_word (b ∷ w)) (list_all is_word ws) k in
    let p = both (not (length (b ∷ w) == 0)) (is_solid (b ∷ w)) t.0 in
    let head = headed n (codes "COMMENT=" ++ (b ∷ w)) in
    let word : list_all is_word (head ∷ ws) ≡ true = rw (headed_word n (codes "COMMENT=" ++ (b ∷ w)) h p.1) t.1 in
    let text : line_text name (comment_words n (joined ((b ∷ w) ∷ ws))) ≡ line_text name (head ∷ ws) =
    ap (λ (c : Text). line_text name (comment_words n c)) (joined_is (b ∷ w) ws) ∙ ap (λ (c : Text). name ++ (c ++ 10 ∷ [])) (moved n (b ∷ w) (spaced ws)) in
    let one = one_written name (head ∷ ws) (ProfileEffect.Comment n (joined ((b ∷ w) ∷ ws))) word (comment_again n (b ∷ w) ws h) in
    subst (λ (x : Text). Written name x (ProfileEffect.Comment n (joined ((b ∷ w) ∷ ws)) ∷ [])) (sym text) one

comment_written : (name : Text) (n : ℕ) (comment : Text) → n < 256 → IsComment comment → Written name (line_text name (comment_words n comment)) (ProfileEffect.Comment n comment ∷ [])
comment_written name n comment h k =
    subst (λ (c : Text). Written name (line_text name (comment_words n c)) (ProfileEffect.Comment n c ∷ [])) (sym k.2) (comment_words_written name n k.0 h k.1)

preference_written : (name : Text) (n a l : ℕ) → n < 256 → a < 2 ^ 32 → l < 2 ^ 32
    → Written name (line_text name (preference_words n a l)) (ProfileEffect.Preference n (Some a) (Some l) ∷ [])
preference_written name n a l h i k =
    one_written name (preference_words n a l) (ProfileEffect.Preference n (Some a) (Some l))
    (rw (headed_word n (codes "PREFERENCE={") h refl, audit_word a i, learning_word l k) refl)
    (preference_again n a l h i k)

config_written : (name : Text) (n : ℕ) (c : Config) → n < 256 → Written name (line_text name (config_words n (codes "CONFIG") c)) (ProfileEffect.Config n (setting_of c) ∷ [])
config_written name n c h =
    one_written name (config_words n (codes "CONFIG") c) (ProfileEffect.Config n (setting_of c))
    (rw (headed_word n (codes "CONFIG" ++ codes "={") h refl) (setting_proper c))
    (config_again n c h)

slot_written : (name : Text) (n : ℕ) (slot : SlotName × Config) → n < 256 → Written name (slot_line name n slot) (slot_effect n slot ∷ [])
slot_written name n slot h =
    one_written name (config_words n (slot_text slot.0) slot.1) (slot_effect n slot)
    (rw (headed_word n (slot_text slot.0 ++ codes "={") h (slot_proper slot.0)) (setting_proper slot.1))
    (slot_again n slot.0 slot.1 h)

slots_written : (name : Text) (n : ℕ) (slots : List (SlotName × Config)) → n < 256 → Written name (flat_map (slot_line name n) slots) (map (slot_effect n) slots)
slots_written name n [] h = none_written name
slots_written name n (slot ∷ slots) h =
    both_written name (slot_line name n slot) (flat_map (slot_line name n) slots) (slot_effect n slot ∷ []) (map (slot_effect n) slots) (slot_written name n slot h) (slots_written name n slots h)

profile_written : (name : Text) (e : ℕ × Profile) → IsProfile e → Written name (profile_text name e) (effects_of e)
unfolding profile_text
profile_written name e h =
    let n = e.0 in
    let p = e.1 in
    let comment = comment_written name n p.comment h.0 h.3 in
    let preference = preference_written name n p.max_audit_log p.max_learning_entry h.0 h.1 h.2 in
    let config = config_written name n p.config h.0 in
    let slots = slots_written name n p.slots h.0 in
    let from_config = both_written name _ _ _ _ config slots in
    let from_preference = both_written name _ _ _ _ preference from_config in
    both_written name _ _ _ _ comment from_preference

profiles_written : (name : Text) (es : List (ℕ × Profile)) → AreProfiles es → Written name (flat_map (profile_text name) es) (flat_map effects_of es)
profiles_written name [] h = none_written name
profiles_written name (e ∷ es) h =
    both_written name (profile_text name e) (flat_map (profile_text name) es) (effects_of e) (flat_map effects_of es) (profile_written name e h.0) (profiles_written name es h.1)

-- Lines that are read one by one

-- a line that begins with its namespace word
pub named : (name : Text) (ws : List Text) (e : ProfileEffect) → IsNamespaceWord name → effect_at ws ≡ Ok e → line_of (name ∷ ws) ≡ Ok (line name e)
unfolding line_of
named name ws e h k = rw (named_at name ws h.1, k) refl

pub same_name : (e : ProfileEffect) (ns : Namespace) → (profile_line e ns).name ≡ ns.name
unfolding profile_line
same_name ProfileEffect.Version ns = refl
same_name (ProfileEffect.Comment n text) ns = refl
same_name (ProfileEffect.Preference n audit learning) ns = refl
same_name (ProfileEffect.Config n setting) ns = refl
same_name (ProfileEffect.Slot n slot setting) ns = refl

one_line : (ns : Namespace) (ws : List Text) (e : ProfileEffect) → IsNamespaceWord ns.name → list_all is_word ws ≡ true → effect_at ws ≡ Ok e
    → words_into (words_of (ns.name ++ spaced ws)) ns ≡ Some (profile_line e ns)
one_line ns ws e h k found =
    ap (λ (words : List Text). words_into words ns) (words_again ns.name ws h.0 k)
    ∙ ap (λ r. line_done r ns) (named ns.name ws e h found)
    ∙ rw (texts_same ns.name ns.name refl) refl

pub lines_read : (wss : List (List Text)) (es : List ProfileEffect) (ns : Namespace) → IsNamespaceWord ns.name → Reads wss es
    → lines_into (lines_of (flat_map (line_text ns.name) wss)) ns ≡ Some (applied es ns)
unfolding words_of
lines_read [] [] ns h k = refl
lines_read [] (e ∷ es) ns h k = absurd k
lines_read (ws ∷ wss) [] ns h k = absurd k
lines_read (ws ∷ wss) (e ∷ es) ns h k =
    let next = profile_line e ns in
    let same = same_name e ns in
    let rest = flat_map (line_text ns.name) wss in
    let again : lines_into (lines_of rest) next ≡ Some (applied es next) =
    ap (λ (name : Text). lines_into (lines_of (flat_map (line_text name) wss)) next) (sym same) ∙ lines_read wss es next (subst IsNamespaceWord (sym same) h) k.2 in
    ap (λ (lines : List Text). lines_into lines ns) (line_first ns.name ws rest h.0 k.0)
    ∙ ap (λ (o : Option Namespace). option_and_then (λ after. lines_into (lines_of rest) after) o) (one_line ns ws e h k.0 k.1)
    ∙ again

slots_rise : (es : List (ℕ × Profile)) → AreProfiles es → SlotsRise es
slots_rise [] h = tt
slots_rise (e ∷ es) h = (h.0.4, slots_rise es h.1)

all_made : (ns : Namespace) (all : List (ℕ × Profile)) → ns.profiles ≡ [] → IsWritten all → applied (ProfileEffect.Version ∷ flat_map effects_of all) ns ≡ with_profiles ns all
unfolding profile_line
all_made ns all none k = ap (λ (ps : List (ℕ × Profile)). applied (flat_map effects_of all) (with_profiles ns ps)) none ∙ profiles_made ns [] all k.0 (slots_rise all k.1)

-- the words of the printed lines of profiles, and what they say, which makes these profiles of none
pub record AreLines (ns : Namespace) (profiles : List (ℕ × Profile)) : Type 0 where
  pub lines : List (List Text)
  pub effects : List ProfileEffect
  pub text : profiles_text ns.name profiles ≡ flat_map (line_text ns.name) lines
  pub reads : Reads lines effects
  pub made : applied effects ns ≡ with_profiles ns profiles

pub profile_lines : (ns : Namespace) (profiles : List (ℕ × Profile)) → ns.profiles ≡ [] → IsWritten profiles → AreLines ns profiles
unfolding profiles_text
profile_lines ns [] none k = record { lines = []; effects = []; text = refl; reads = tt; made = ap (λ (ps : List (ℕ × Profile)). with_profiles ns ps) none }
profile_lines ns (p ∷ ps) none k =
    let all = p ∷ ps in
    let version = one_written ns.name (codes "PROFILE_VERSION=20150505" ∷ []) ProfileEffect.Version refl version_again in
    let text = both_written ns.name _ _ _ _ version (profiles_written ns.name all k.1) in
    record { lines = text.0; effects = ProfileEffect.Version ∷ flat_map effects_of all; text = text.1; reads = text.2; made = all_made ns all none k }

-- what was printed is read again, into a namespace without profiles
pub profiles_again : (ns : Namespace) (profiles : List (ℕ × Profile)) → IsNamespaceWord ns.name → ns.profiles ≡ [] → IsWritten profiles
    → lines_into (lines_of (profiles_text ns.name profiles)) ns ≡ Some (record ns { profiles = profiles })
profiles_again ns profiles h none k =
    let are = profile_lines ns profiles none k in
    ap (λ (t : Text). lines_into (lines_of t) ns) are.text ∙ lines_read are.lines are.effects ns h are.reads ∙ ap Some are.made
