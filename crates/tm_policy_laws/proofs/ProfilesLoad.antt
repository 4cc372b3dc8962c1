-- The printed profiles of each namespace are loaded into it.
use Rattle.std.proofs.Common.{◌≡◌, true, List, [], ◌∷◌, Ok, refl, sym, subst}
use Rattle.std.specs.List.{list_all, flat_map}
use Rattle.tm_word.specs.Prelude.{Text, is_word}
use Rattle.tm_rules.specs.Types.{FileKind, Namespace, Policy, PolicyLine, ProfileEffect}
use Rattle.tm_rules.specs.Prelude.{Cursor, apply_read, profile_line}
use Rattle.tm_line.specs.Namespaces.{line_text}
use Rattle.tm_line.proofs.Steps.{all}
use Rattle.tm_profile.specs.Reading.{effect_at, line}
use Rattle.tm_profile.specs.Printing.{profiles_text}
use Rattle.tm_profile.specs.Texts.{IsNamespaceWord}
use Rattle.tm_profile.specs.Texts.{IsWritten as AreProfiles}
use Rattle.tm_profile.proofs.EffectLaws.{applied}
use Rattle.tm_profile.proofs.TextLaws.{Reads, AreLines, profile_lines}
use Rattle.tm_profile.proofs.TextLaws.{named as line_again, same_name as profile_name}
use Rattle.tm_text.specs.ProfileText.{namespace_text}
use Rattle.tm_policy_line.proofs.ExceptionAgain.{profile_line_read}
use Rattle.tm_policy_line.proofs.TextLines.{named_joined}
use Rattle.tm_policy_laws.proofs.Spaces.{named, named_name, Turns, Changes, changes_none, changes_both, changes_line}

module _ (base : Policy) (c : Cursor) (name : Text) (word : IsNamespaceWord name) where
  line_changes
      : (ws : List Text) (e : ProfileEffect) (old : Namespace) → list_all is_word ws ≡ true → effect_at ws ≡ Ok e
      → Changes FileKind.Profile base c (line_text name ws) name old (profile_line e old)
  unfolding apply_read
  line_changes ws e old are read =
      subst (λ (t : Text). Changes FileKind.Profile base c t name old (profile_line e old)) (sym (named_joined name ws))
      (changes_line FileKind.Profile base c (name ∷ ws) (PolicyLine.Profile (line name e)) name (profile_line e) old
      (all (is_word name) (list_all is_word ws) word.0 are)
      (profile_line_read (name ∷ ws) (line name e) (line_again name ws e word read))
      (λ ns. profile_name e ns)
      (λ p. refl))

  lines_change : (wss : List (List Text)) (es : List ProfileEffect) (old : Namespace) → Reads wss es → Changes FileKind.Profile base c (flat_map (line_text name) wss) name old (applied es old)
  lines_change [] [] old h = changes_none FileKind.Profile base c
  lines_change [] (e ∷ es) old h = absurd h
  lines_change (ws ∷ wss) [] old h = absurd h
  lines_change (ws ∷ wss) (e ∷ es) old h =
      changes_both FileKind.Profile base c (line_changes ws e old h.0 h.1) (lines_change wss es (profile_line e old) h.2)

-- a namespace with these profiles
abbrev pub with_profiles : Namespace → Namespace → Namespace
with_profiles ns old = record old { profiles = ns.profiles }

-- the printed profiles of a namespace that has none yet
pub profiles_turn
    : (base : Policy) (c : Cursor) (ns : Namespace) (spaces : List Namespace) → IsNamespaceWord ns.name → AreProfiles ns.profiles → (named spaces ns.name).profiles ≡ []
    → Turns FileKind.Profile base c (namespace_text ns) ns.name spaces (with_profiles ns (named spaces ns.name))
profiles_turn base c ns spaces word written none =
    let old : Namespace = named spaces ns.name in
    let are : AreLines old ns.profiles = profile_lines old ns.profiles none written in
    let name : old.name ≡ ns.name = named_name spaces ns.name in
    let text : namespace_text ns ≡ flat_map (line_text ns.name) are.lines = subst (λ (n : Text). profiles_text n ns.profiles ≡ flat_map (line_text n) are.lines) name are.text in
    subst (λ (t : Text). Turns FileKind.Profile base c t ns.name spaces (with_profiles ns old)) (sym text)
    (subst (λ (new : Namespace). Turns FileKind.Profile base c (flat_map (line_text ns.name) are.lines) ns.name spaces new) are.made
    ((lines_change base c ns.name word are.lines are.effects old are.reads).turns spaces refl))
