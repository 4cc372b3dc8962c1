-- What is read from words fits a profile.
use Rattle.std.proofs.Common.{◌≡◌, ℕ, zero, suc, ◌+◌, ◌<◌, ◌^◌, ◌==◌, Bool, true, false, ◌||◌, not, List, [], ◌∷◌, length, take, drop, Some, None, Result, Ok, Err, refl, arith}
use Rattle.std.specs.Prelude.{Option, codes, if◌then◌else◌}
use Rattle.std.specs.List.{list_all, position}
use Rattle.std.proofs.lemmas.Bool.{ne_eqb}
use Rattle.tm_word.specs.Prelude.{Text, after, is_separator, is_solid, is_word, texts_equal}
use Rattle.tm_number.specs.Numbers.{plain_of}
use Rattle.tm_number.proofs.NumberLaws.{plain_small}
use Rattle.tm_rules.specs.Types.{LineKind, ProfileEffect, ProfileLine, SlotName}
use Rattle.tm_rules.proofs.EqualityLaws.{both}
use Rattle.tm_line.specs.Lines.{or_kind, is_last}
use Rattle.tm_line.specs.Namespaces.{opens, namespace_of, namespace_at}
use Rattle.tm_line.proofs.OkSteps.{OkIs, then_ok, then_any, if_ok, ok_of}
use Rattle.tm_profile.specs.declared.reading.Limits.{Limits}
use Rattle.tm_profile.specs.Reading.{at_end, comment_of, unseen, setting_after, unlimited, limit_of, once, learning_by, limits_by, limits_with, limits_after, preference, slot_of, slot_by, comment_by, numbered, numbered_by, version_by, effect_by, effect_at, line_of}
use Rattle.tm_profile.specs.Texts.{IsComment, IsLimit, IsEffect}

abbrev SomeIs : {A : Type 0} → (A → Type 0) → Option A → Type 0
SomeIs P (Some x) = P x
SomeIs P None = Unit {0}

end_ok : {A : Type 0} (P : A → Type 0) (x : A) (words : List Text) → P x → OkIs P (at_end x words)
end_ok P x [] h = h
end_ok P x (word ∷ words) h = tt

-- Numbers

number_ok : (limit : ℕ) (o : Option ℕ) → ((n : ℕ) → o ≡ Some n → n < limit) → OkIs (λ k. k < limit) (or_kind LineKind.Profile o)
number_ok limit (Some n) h = h n refl
number_ok limit None h = tt

plain_ok : (limit : ℕ) (text : Text) → OkIs (λ k. k < limit) (or_kind LineKind.Profile (plain_of limit text))
plain_ok limit text = number_ok limit (plain_of limit text) (λ n e. plain_small limit n text e)

-- Parts of words

after_proper : (front word : Text) → is_solid word ≡ true → SomeIs (λ rest. is_solid rest ≡ true) (after front word)
after_proper [] word h = h
after_proper (a ∷ front) [] h = tt
after_proper (a ∷ front) (b ∷ word) h = by_test (a == b) (after front word) (after_proper front word (both (not (is_separator b)) (is_solid word) h).1)
  where
    by_test : (b : Bool) (o : Option Text) → SomeIs (λ rest. is_solid rest ≡ true) o → SomeIs (λ rest. is_solid rest ≡ true) (if b then o else None)
    by_test true o h = h
    by_test false o h = tt

drop_proper : (k : ℕ) (word : Text) → is_solid word ≡ true → is_solid (drop k word) ≡ true
drop_proper zero word h = h
drop_proper (suc k) [] h = refl
drop_proper (suc k) (b ∷ word) h = drop_proper k word (both (not (is_separator b)) (is_solid word) h).1

comment_is : (first : Text) (words : List Text) → is_solid first ≡ true → list_all is_word words ≡ true → IsComment (comment_of first words)
comment_is [] words h k = (words, k, refl)
comment_is (b ∷ first) words h k = ((b ∷ first) ∷ words, all (length_is b first) h k, refl)
  where
    length_is : (b : ℕ) (first : Text) → not (length (b ∷ first) == 0) ≡ true
    length_is b first = let no : (length (b ∷ first) == 0) ≡ false = ne_eqb _ _ (λ e. absurd (omega (arith, e))) in rw no refl

    all : not (length (b ∷ first) == 0) ≡ true → is_solid (b ∷ first) ≡ true → list_all is_word words ≡ true → list_all is_word ((b ∷ first) ∷ words) ≡ true
    all l h k = rw (l, h) k

-- Limits

abbrev AreLimits : Limits → Type 0
AreLimits limits = IsLimit limits.audit × IsLimit limits.learning

once_ok : {A : Type 0} (P : A → Type 0) (o : Option ℕ) (r : Result A LineKind) → OkIs P r → OkIs P (once o r)
once_ok P None r h = h
once_ok P (Some n) r h = tt

limit_ok : (text : Text) (last : Bool) → OkIs (λ k. k < 2 ^ 32) (limit_of text last)
limit_ok [] last = tt
limit_ok (b ∷ text) last = plain_ok (2 ^ 32) (b ∷ text)

learning_ok : (o : Option Text) (limits : Limits) (word : Text) (last : Bool) → AreLimits limits → OkIs AreLimits (learning_by o limits word last)
learning_ok (Some text) limits word last h =
    once_ok AreLimits limits.learning _ (then_ok (λ k. k < 2 ^ 32) AreLimits (limit_of text last) _ (limit_ok text last) (λ n less. (h.0, less)))
learning_ok None limits word last h = tt

audit_ok : (o : Option Text) (limits : Limits) (word : Text) (last : Bool) → AreLimits limits → OkIs AreLimits (limits_by o limits word last)
audit_ok (Some text) limits word last h =
    once_ok AreLimits limits.audit _ (then_ok (λ k. k < 2 ^ 32) AreLimits (limit_of text last) _ (limit_ok text last) (λ n less. (less, h.1)))
audit_ok None limits word last h = learning_ok (after (codes "max_learning_entry=") word) limits word last h

with_ok : (limits : Limits) (word : Text) (last : Bool) → AreLimits limits → OkIs AreLimits (limits_with limits word last)
unfolding limits_with
with_ok limits word last h = audit_ok (after (codes "max_audit_log=") word) limits word last h

limits_ok : (limits : Limits) (words : List Text) → AreLimits limits → OkIs AreLimits (limits_after limits words)
unfolding limits_after
limits_ok limits [] h = tt
limits_ok limits (word ∷ words) h =
    if_ok AreLimits (texts_equal word (codes "}")) _ _ (end_ok AreLimits limits words h)
    (then_ok AreLimits AreLimits (limits_with limits word (is_last words)) _ (with_ok limits word (is_last words) h) (λ more k. limits_ok more words k))

-- Lines

preference_ok : (n : ℕ) (words : List Text) → n < 256 → OkIs IsEffect (preference n words)
preference_ok n words h = then_ok AreLimits IsEffect (limits_after unlimited words) _ (limits_ok unlimited words (tt, tt)) (λ limits k. (h, k.0, k.1))

slot_ok : (n : ℕ) (o : Option (SlotName × Bool)) (word : Text) (words : List Text) → n < 256 → OkIs IsEffect (slot_by n o word words)
slot_ok n (Some (slot, true)) word words h = then_any IsEffect (setting_after unseen words) _ (λ setting. h)
slot_ok n (Some (slot, false)) word words h = end_ok IsEffect (ProfileEffect.Slot n slot None) words h
slot_ok n None word words h = tt

comment_ok : (n : ℕ) (o : Option Text) (word : Text) (words : List Text) → n < 256 → SomeIs (λ rest. is_solid rest ≡ true) o → list_all is_word words ≡ true → OkIs IsEffect (comment_by n o word words)
comment_ok n (Some first) word words h k all = (h, comment_is first words k all)
comment_ok n None word words h k all =
    if_ok IsEffect (texts_equal word (codes "PREFERENCE={")) _ _ (preference_ok n words h)
    (if_ok IsEffect (texts_equal word (codes "CONFIG={")) _ _ (then_any IsEffect (setting_after unseen words) _ (λ setting. h)) (slot_ok n (slot_of word) word words h))

numbered_ok : (n : ℕ) (word : Text) (words : List Text) → n < 256 → is_solid word ≡ true → list_all is_word words ≡ true → OkIs IsEffect (numbered n word words)
unfolding numbered
numbered_ok n word words h k all = comment_ok n (after (codes "COMMENT=") word) word words h (after_proper (codes "COMMENT=") word k) all

cut_ok : (o : Option ℕ) (word : Text) (words : List Text) → is_solid word ≡ true → list_all is_word words ≡ true → OkIs IsEffect (numbered_by o word words)
cut_ok (Some place) word words k all =
    then_ok (λ n. n < 256) IsEffect (or_kind LineKind.Profile (plain_of 256 (take place word))) _ (plain_ok 256 (take place word))
    (λ n less. numbered_ok n (drop (place + 1) word) words less (drop_proper (place + 1) word k) all)
cut_ok None word words k all = tt

version_ok : (text : Text) (words : List Text) → OkIs IsEffect (version_by text words)
version_ok [] words = tt
version_ok (b ∷ text) words =
    if_ok IsEffect (texts_equal (b ∷ text) (codes "20150505") || texts_equal (b ∷ text) (codes "20110903")) (at_end ProfileEffect.Version words) (Err LineKind.Version)
    (end_ok IsEffect ProfileEffect.Version words tt)
    tt

by_ok : (o : Option Text) (word : Text) (words : List Text) → is_solid word ≡ true → list_all is_word words ≡ true → OkIs IsEffect (effect_by o word words)
by_ok (Some text) word words k all = version_ok text words
by_ok None word words k all = cut_ok (position (λ b. b == 45) word) word words k all

effect_ok : (words : List Text) → list_all is_word words ≡ true → OkIs IsEffect (effect_at words)
unfolding effect_at
effect_ok [] all = tt
effect_ok (word ∷ words) all =
    let t = both (is_word word) (list_all is_word words) all in
    by_ok (after (codes "PROFILE_VERSION=") word) word words (both (not (length word == 0)) (is_solid word) t.0).1 t.1

abbrev Rest : Text × List Text → Type 0
Rest found = list_all is_word found.1 ≡ true

namespace_ok : (words : List Text) → list_all is_word words ≡ true → OkIs Rest (namespace_at words)
unfolding namespace_at
namespace_ok [] all = refl
namespace_ok (word ∷ words) all =
    if_ok Rest (opens word) _ _ (then_any Rest (namespace_of word) _ (λ name. (both (is_word word) (list_all is_word words) all).1)) all

abbrev LineFits : ProfileLine → Type 0
LineFits found = IsEffect found.effect

line_ok : (words : List Text) → list_all is_word words ≡ true → OkIs LineFits (line_of words)
unfolding line_of
line_ok words all =
    then_ok Rest LineFits (namespace_at words) _ (namespace_ok words all) (λ found rest. then_ok IsEffect LineFits (effect_at found.1) _ (effect_ok found.1 rest) (λ effect fits. fits))

-- a line that was read fits
pub line_fits : (words : List Text) (l : ProfileLine) → list_all is_word words ≡ true → line_of words ≡ Ok l → IsEffect l.effect
line_fits words l all e = ok_of LineFits (line_of words) l (line_ok words all) e
