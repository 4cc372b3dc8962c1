-- Generated files are never refused.
use Rattle.std.proofs.Common.{◌≡◌, ℕ, zero, suc, ◌+◌, ◌*◌, ◌≤◌, [], ◌∷◌, ◌++◌, length, Bool, true, false, ◌&&◌, not, nat_lt, refl, ap, ◌∙◌, arith}
use Rattle.std.specs.Prelude.{None, Result, Ok, Err, is_some}
use Rattle.std.specs.List.{position_from}
use Rattle.std.proofs.lemmas.Bool.{le-ltb}
use Rattle.std.proofs.lemmas.List.{length-append}
use Rattle.tm_word.specs.Prelude.{Text, words_of}
use Rattle.tm_rules.specs.Types.{LoadFault, Policy, Tree}
use Rattle.tm_rules.specs.Prelude.{Trace, kernel, live_domain, load}
use Rattle.tm_script.specs.Lines.{script_lines}
use Rattle.tm_script.specs.Edits.{edits_of}
use Rattle.tm_script.specs.Answers.{no_rules, answers_of}
use Rattle.tm_script.specs.Schedule.{schedule_of}
use Rattle.tm_call_input.specs.Tomoyo.{tomoyo_grammar}
use Rattle.tm_gen.specs.Trace.{state_before, state_of}
use Rattle.tm_gen.specs.Trace as generated
use Rattle.tm_gen.specs.Files as files
use Rattle.tm_gen_laws.specs.Loaded.{policy_files, is_ready}
use Rattle.tm_gen_laws.specs.Structured.{items, item_at, tree_of, generated_trace}
use Rattle.tm_call_input.specs.Policies.{policy_of}
use Rattle.tm_call_input.specs.Reading.{record_count, homeless, admitted, parts_reading, step_reading, step_refusal, refused}
use Rattle.tm_gen_laws.specs.Generated.{generated_files, NeverRefused}
use Rattle.tm_gen_laws.proofs.Loaded.{generated_load}
use Rattle.tm_gen_laws.proofs.Right.{generated_read}

-- Counts

item_count : (tree start place : ℕ) → length (items tree start place) ≡ place
unfolding items
item_count tree start zero = refl
item_count tree start (suc place) = length-append (items tree start place) (item_at tree place (state_before start place) ∷ []) ∙ ap (λ (n : ℕ). n + 1) (item_count tree start place) ∙ omega arith

records_more : (xs : Trace) (t : Tree) → record_count (xs ++ t ∷ []) ≡ record_count xs + length t.records
records_more [] t = omega arith
records_more (x ∷ xs) t = ap (λ (n : ℕ). length x.records + n) (records_more xs t) ∙ omega arith

record_total : (seed size : ℕ) → record_count (generated_trace seed size) ≡ 40 * size
unfolding generated_trace
record_total seed zero = refl
record_total seed (suc size) =
    let more = records_more (generated_trace seed size) (tree_of (suc size) (state_of seed size)) in
    let before = record_total seed size in
    let forty = item_count (suc size) (state_of seed size) 40 in
    omega (arith, more, before, forty)

tree_total : (seed size : ℕ) → length (generated_trace seed size) ≡ size
unfolding generated_trace
tree_total seed zero = refl
tree_total seed (suc size) = length-append (generated_trace seed size) (tree_of (suc size) (state_of seed size) ∷ []) ∙ ap (λ (n : ℕ). n + 1) (tree_total seed size) ∙ omega arith

-- Homes

module _ (policy : Policy) (home : is_some (live_domain policy kernel) ≡ true) where
  at_home : (xs : Trace) (pid state i : ℕ) → position_from (λ (tree : Tree). not (is_some (live_domain policy tree.start))) i xs ≡ None → position_from (λ (tree : Tree). not (is_some (live_domain policy tree.start))) i (xs ++ tree_of pid state ∷ []) ≡ None
  at_home [] pid state i h = rw home refl
  at_home (x ∷ xs) pid state i h = go (λ k. at_home xs pid state (i + 1) k) (is_some (live_domain policy x.start)) refl h
    where
      go : (position_from (λ (tree : Tree). not (is_some (live_domain policy tree.start))) (i + 1) xs ≡ None → position_from (λ (tree : Tree). not (is_some (live_domain policy tree.start))) (i + 1) (xs ++ tree_of pid state ∷ []) ≡ None) → (b : Bool) → is_some (live_domain policy x.start) ≡ b → position_from (λ (tree : Tree). not (is_some (live_domain policy tree.start))) i (x ∷ xs) ≡ None → position_from (λ (tree : Tree). not (is_some (live_domain policy tree.start))) i (x ∷ (xs ++ tree_of pid state ∷ [])) ≡ None
      go rest true e = rw e (λ k. rest k)
      go rest false e = rw e (λ k. absurd cc)

  all_home : (seed size : ℕ) → homeless policy (generated_trace seed size) ≡ None
  unfolding generated_trace
  all_home seed zero = refl
  all_home seed (suc size) = at_home (generated_trace seed size) (suc size) (state_of seed size) 0 (all_home seed size)

-- Scripts

no_edit : edits_of [] ≡ Ok []
unfolding edits_of script_lines words_of
no_edit = refl

no_answer : answers_of [] ≡ Ok no_rules
unfolding answers_of script_lines words_of
no_answer = refl

no_turn : (trees editors : ℕ) → schedule_of trees editors [] ≡ Ok []
unfolding schedule_of script_lines words_of
no_turn trees editors = refl

-- All of them

within : (text : Text) (seed size : ℕ) → size ≤ 4096 → (policy : Policy) → is_some (live_domain policy kernel) ≡ true
    → refused (admitted text (record { policy = policy; trace = generated_trace seed size; editors = []; book = no_rules; schedule = [] })) ≡ None
within text seed size few policy home =
    let records : nat_lt 200000 (record_count (generated_trace seed size)) ≡ false = le-ltb 200000 (record_count (generated_trace seed size)) (omega (arith, few, record_total seed size)) in
    let trees : nat_lt 4096 (length (generated_trace seed size)) ≡ false = le-ltb 4096 (length (generated_trace seed size)) (omega (arith, few, tree_total seed size)) in
    rw (records, trees, all_home policy home seed size) refl

pub never_refused : NeverRefused
unfolding step_refusal step_reading parts_reading policy_of files.generated
never_refused seed size few = go (load tomoyo_grammar policy_files) refl generated_load
  where
    both : (a b : Bool) → (a && b) ≡ true → b ≡ true
    both true b e = e
    both false b e = absurd cc

    go : (o : Result Policy LoadFault) → load tomoyo_grammar policy_files ≡ o → is_ready o ≡ true → step_refusal (generated_files seed size) ≡ None
    go (Err fault) e h = absurd cc
    go (Ok policy) e h =
        rw (e, generated_read seed size few, no_edit, no_answer, no_turn (length (generated_trace seed size)) 0)
        (within (generated.trace_text seed size) seed size few policy (both policy.opened (is_some (live_domain policy kernel)) h))
