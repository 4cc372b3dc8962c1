-- A clean run's policy grows from version to version.
use Rattle.std.proofs.Common.{◌≡◌, ◌≤◌, ℕ, zero, suc, List, [], ◌∷◌, Bool, true, arith}
use Rattle.std.specs.Prelude.{IsTrue}
use Rattle.std.specs.List.{AllByRecursion, list_all}
use Rattle.std.proofs.lemmas.Bool.{and_parts}
use Rattle.tm_rules.specs.Types.{Run}
use Rattle.tm_rules.specs.Prelude.{Grammar, is_clean, is_clean_step, is_clean_take}
use Rattle.tm_legal.specs.Prelude.{CleanRunGrows, Grows, History, Replies, State, after, apply, at, opening_of, steps_of}
use Rattle.tm_legal.proofs.Growth.{Grows-refl, QuietLinesGrow, history-grows}
use Rattle.tm_rerun_laws.proofs.QuietLines.{quiet-lines-grow}

pub all_pass : {A : Type 0} (t : A → Bool) (xs : List A) → list_all t xs ≡ true → AllByRecursion (λ x. t x ≡ true) xs
all_pass t [] h = tt
all_pass t (x ∷ xs) h = let parts = and_parts (t x) (list_all t xs) h in (parts.0, all_pass t xs parts.1)

-- the takes and the steps of a clean run
pub clean-parts : (run : Run) → IsTrue (is_clean run) → AllByRecursion (λ t. is_clean_take t ≡ true) run.takes × AllByRecursion (λ pair. is_clean_step pair ≡ true) run.steps
unfolding is_clean
clean-parts run h = let parts = and_parts (list_all is_clean_take run.takes) (list_all is_clean_step run.steps) h in (all_pass is_clean_take run.takes parts.0, all_pass is_clean_step run.steps parts.1)

-- from each version to each later one
between-grows : (g : Grammar) → QuietLinesGrow g → (s : State) (h : History) → Replies g s h → AllByRecursion (λ pair. is_clean_step pair ≡ true) h → (k m : ℕ) → k ≤ m → Grows (at g s (steps_of h) k).policy (at g s (steps_of h) m).policy
unfolding after
between-grows g lines s h replies clean zero m le = history-grows g lines s h replies clean m
between-grows g lines s [] replies clean (suc k) zero le = Grows-refl s.policy
between-grows g lines s [] replies clean (suc k) (suc m) le = Grows-refl s.policy
between-grows g lines s (pair ∷ h) replies clean (suc k) zero le = absurd (omega arith)
between-grows g lines s (pair ∷ h) replies clean (suc k) (suc m) le = between-grows g lines (apply g s pair.0).state h replies.1 clean.1 k m (omega arith)

pub clean_run_grows : CleanRunGrows
clean_run_grows scene run grammar legal clean k m le within =
    between-grows scene.grammar (quiet-lines-grow scene.grammar grammar) (opening_of scene) run.steps legal.places.replies (clean-parts run clean).1 k m le
