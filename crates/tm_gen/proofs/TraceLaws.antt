-- What has been appended: no record and one more, no tree and one more.
use Rattle.std.proofs.Common.{◌≡◌, ℕ, ◌+◌, ◌++◌, [], refl, sym, ap, subst, ◌∙◌, add-one, append-nil}
use Rattle.std.proofs.lemmas.List.{append_assoc}
use Rattle.tm_word.specs.Prelude.{Text}
use Rattle.tm_gen.specs.Trace.{record_line, state_after, records, state_before, tree_text, state_of, trace_text}

-- Three texts, one after the other

pub three : (out a b last one two all : Text) → one ≡ out ++ a → two ≡ one ++ b → all ≡ two ++ last → all ≡ out ++ (a ++ (b ++ last))
three out a b last one two all first second third =
    third ∙ ap (λ t. t ++ last) (second ∙ ap (λ t. t ++ b) first ∙ append_assoc out a b) ∙ append_assoc out (a ++ b) last ∙ ap (λ t. out ++ t) (append_assoc a b last)

-- Records

pub first_state : (start : ℕ) → start ≡ state_before start 0
unfolding state_before
first_state start = refl

pub no_record : (tree start : ℕ) (out : Text) → out ≡ out ++ records tree start 0
unfolding records
no_record tree start out = sym (append-nil out)

next_record : (tree start place : ℕ) → records tree start (place + 1) ≡ records tree start place ++ record_line tree place (state_before start place)
unfolding records
next_record tree start place = rw add-one refl

next_state : (start place : ℕ) → state_before start (place + 1) ≡ state_after place (state_before start place)
unfolding state_before
next_state start place = rw add-one refl

pub one_state_more : (start place state after : ℕ) → state ≡ state_before start place → after ≡ state_after place state → after ≡ state_before start (place + 1)
one_state_more start place state after known moved = moved ∙ ap (λ x. state_after place x) known ∙ sym (next_state start place)

pub one_record_more : (tree start place state : ℕ) (out some all : Text) → some ≡ out ++ records tree start place → state ≡ state_before start place
    → all ≡ some ++ record_line tree place state → all ≡ out ++ records tree start (place + 1)
one_record_more tree start place state out some all so_far known appended =
    appended
    ∙ ap (λ x. some ++ record_line tree place x) known
    ∙ ap (λ t. t ++ record_line tree place (state_before start place)) so_far
    ∙ append_assoc out (records tree start place) (record_line tree place (state_before start place))
    ∙ ap (λ t. out ++ t) (sym (next_record tree start place))

pub records_are : (tree start place last : ℕ) (out all : Text) → place ≡ last → all ≡ out ++ records tree start place → all ≡ out ++ records tree start last
records_are tree start place last out all reached so_far = subst (λ n. all ≡ out ++ records tree start n) reached so_far

pub state_is : (start place last state : ℕ) → place ≡ last → state ≡ state_before start place → state ≡ state_before start last
state_is start place last state reached known = subst (λ n. state ≡ state_before start n) reached known

-- Trees

pub seed_state : (seed : ℕ) → state_of seed 0 ≡ seed
unfolding state_of
seed_state seed = refl

pub no_tree : (seed : ℕ) → trace_text seed 0 ≡ []
unfolding trace_text
no_tree seed = refl

pub next_state_of : (seed trees : ℕ) → state_of seed (trees + 1) ≡ state_before (state_of seed trees) 40
unfolding state_of
next_state_of seed trees = rw add-one refl

pub next_tree : (seed trees : ℕ) → trace_text seed (trees + 1) ≡ trace_text seed trees ++ tree_text (trees + 1) (state_of seed trees)
unfolding trace_text
next_tree seed trees = rw add-one refl
