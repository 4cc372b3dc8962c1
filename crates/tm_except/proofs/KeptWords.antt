-- What is read from words keeps words.
use Rattle.std.proofs.Common.{◌≡◌, ℕ, Bool, true, false, ◌&&◌, not, List, [], ◌∷◌, Some, None, Result, Ok, refl}
use Rattle.std.specs.Prelude.{Option, codes}
use Rattle.std.specs.List.{list_all}
use Rattle.tm_word.specs.Prelude.{Text, is_word, texts_equal}
use Rattle.tm_rules.specs.Types.{ExceptLine, ExceptRule, LineKind}
use Rattle.tm_line.specs.Lines.{ended, word_at}
use Rattle.tm_line.specs.Arguments.{group_word, range_word, addr_range_word, plain_word}
use Rattle.tm_line.specs.Namespaces.{opens, namespace_of, namespace_at}
use Rattle.tm_line.proofs.Steps.{both}
use Rattle.tm_line.proofs.OkSteps.{OkIs, then_ok, then_any, if_ok, ok_of}
use Rattle.tm_except.specs.declared.reading.Head.{Head}
use Rattle.tm_except.specs.Reading.{member_word, first_word, literal_word, path_group, number_group, address_group, aggregator, group_line, acl_group, control_sides, head_of, rule_by, rule_at, named_line, line_of}
use Rattle.tm_except.specs.Written.{keeps_words}
use Rattle.tm_except.proofs.PrintedWords.{AreWords}

abbrev Keeps : ExceptRule → Type 0
Keeps rule = keeps_words rule ≡ true

end_ok : (rule : ExceptRule) (words : List Text) → Keeps rule → OkIs Keeps (ended rule words)
end_ok rule [] h = h
end_ok rule (word ∷ words) h = tt

-- after the first word there are words
rest_ok : {A : Type 0} (read : Text → Result A LineKind) (words : List Text) → AreWords words → OkIs (λ (x : A × List Text). AreWords x.1) (word_at read words)
rest_ok read [] h = tt
rest_ok read (word ∷ words) h = then_any (λ x. AreWords x.1) (read word) _ (λ x. (both (is_word word) (list_all is_word words) h).1)

group_line_ok : (n : ℕ) (words : List Text) → AreWords words → OkIs Keeps (group_line n words)
group_line_ok n [] h = tt
group_line_ok n (word ∷ words) h = h

acl_ok : (words : List Text) → AreWords words → OkIs Keeps (acl_group words)
unfolding acl_group
acl_ok words h = then_ok (λ (x : ℕ × List Text). AreWords x.1) Keeps (word_at (plain_word 256) words) _ (rest_ok (plain_word 256) words h) (λ n k. group_line_ok n.0 n.1 k)

by_ok : (o : Option Head) (first : Bool) (word : Text) (words : List Text) → AreWords words → OkIs Keeps (rule_by o first word words)
unfolding path_group number_group address_group aggregator
by_ok (Some Head.PathGroup) first word words h =
    then_any Keeps (word_at group_word words) _ (λ name. then_any Keeps (word_at member_word name.1) _ (λ member. end_ok (ExceptRule.PathGroup name.0 member.0) member.1 refl))
by_ok (Some Head.NumberGroup) first word words h =
    then_any Keeps (word_at group_word words) _ (λ name. then_any Keeps (word_at range_word name.1) _ (λ member. end_ok (ExceptRule.NumberGroup name.0 member.0) member.1 refl))
by_ok (Some Head.AddressGroup) first word words h =
    then_any Keeps (word_at group_word words) _ (λ name. then_any Keeps (word_at addr_range_word name.1) _ (λ member. end_ok (ExceptRule.AddressGroup name.0 member.0) member.1 refl))
by_ok (Some Head.Aggregator) first word words h =
    then_any Keeps (word_at first_word words) _ (λ one. then_any Keeps (word_at literal_word one.1) _ (λ other. end_ok (ExceptRule.Aggregator one.0 other.0) other.1 refl))
by_ok (Some (Head.Control kind)) first word words h = then_any Keeps (control_sides kind words) _ (λ found. refl)
by_ok (Some Head.Acl) first word words h = acl_ok words h
by_ok None first word words h = tt

rule_ok : (first : Bool) (words : List Text) → AreWords words → OkIs Keeps (rule_at first words)
unfolding rule_at
rule_ok first [] h = tt
rule_ok first (word ∷ words) h = by_ok (head_of word) first word words (both (is_word word) (list_all is_word words) h).1

-- Lines

abbrev Rest : Text × List Text → Type 0
Rest found = AreWords found.1

namespace_ok : (words : List Text) → AreWords words → OkIs Rest (namespace_at words)
unfolding namespace_at
namespace_ok [] h = refl
namespace_ok (word ∷ words) h = if_ok Rest (opens word) _ _ (then_any Rest (namespace_of word) _ (λ name. (both (is_word word) (list_all is_word words) h).1)) h

abbrev LineKeeps : ExceptLine → Type 0
LineKeeps found = Keeps found.rule

named_ok : (delete : Bool) (words : List Text) → AreWords words → OkIs LineKeeps (named_line delete words)
unfolding named_line
named_ok delete [] h = tt
named_ok delete (word ∷ words) h =
    then_ok Rest LineKeeps (namespace_at (word ∷ words)) _ (namespace_ok (word ∷ words) h)
    (λ found k. then_ok Keeps LineKeeps (rule_at (not delete && not (opens word)) found.1) _ (rule_ok (not delete && not (opens word)) found.1 k) (λ rule l. l))

line_ok : (words : List Text) → AreWords words → OkIs LineKeeps (line_of words)
unfolding line_of
line_ok [] h = tt
line_ok (word ∷ words) h =
    if_ok LineKeeps (texts_equal word (codes "delete")) (named_line true words) (named_line false (word ∷ words)) (named_ok true words (both (is_word word) (list_all is_word words) h).1) (named_ok false (word ∷ words) h)

pub line_kept : (words : List Text) (l : ExceptLine) → list_all is_word words ≡ true → line_of words ≡ Ok l → keeps_words l.rule ≡ true
line_kept words l h e = ok_of LineKeeps (line_of words) l (line_ok words h) e
