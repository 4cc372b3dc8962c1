-- What the supervisor and the trees' ends have done so far.
use Rattle.std.specs.Prelude.{◌≡◌, ◌&&◌, ◌||◌, not, nat_lt, ℕ, suc, Bool, true, false, List, [], ◌∷◌, length, Option, Some, None, if◌then◌else◌}
use Rattle.std.specs.Ordering.{nat_cmp}
use Rattle.std.specs.BTreeSet.{contains}
use Rattle.tm_rules.specs.Prelude.{Trace}
use Rattle.tm_rules.specs.Types.{Book, Step}
use Rattle.tm_legal.specs.Prelude.{History, is_answer, is_attach, is_detach, is_end, places}
use Rattle.tm_verify_laws.specs.Desk.{has_some, has_room, is_stop}
use Rattle.tm_verify_steps.specs.Heights.{ByTree}
use Rattle.tm_verify_steps.specs.declared.acts.Acts.{Acts}

-- after these steps
pub record IsActing (before : History) (acts : Acts) : Type 0 where
  pub came : acts.came ≡ has_some is_attach before
  pub left : acts.left ≡ has_some is_detach before
  pub answers : acts.answers ≡ length (places is_answer before)
  pub ended : (t : ℕ) → contains nat_cmp acts.ended t ≡ has_some (is_end t) before

-- each tree, of which the first has number t, is noted as ended
abbrev pub have_ended : Acts → ℕ → Trace → Bool
have_ended acts t [] = true
have_ended acts t (tree ∷ trees) = contains nat_cmp acts.ended t && have_ended acts (suc t) trees

-- the supervisor, or a tree, may make this step as one of this number, where the first unanswered
-- query suits or not
abbrev pub may_make : Acts → ByTree → Trace → Book → ℕ → Bool → Step → Bool
may_make acts heights trace book number suits Step.Attach = not acts.came
may_make acts heights trace book number suits (Step.Answer serial code) =
    (acts.came && not acts.left) && (has_room book.stop acts.answers && suits)
may_make acts heights trace book number suits Step.Detach =
    (acts.came && not acts.left)
    && (is_stop book.stop acts.answers || (have_ended acts 1 trace && suits))
may_make acts heights trace book number suits (Step.End t) =
    not (contains nat_cmp acts.ended t) && nat_lt (heights t) number
may_make acts heights trace book number suits (Step.Learn d entry) = true
may_make acts heights trace book number suits (Step.Make d name) = true
may_make acts heights trace book number suits (Step.Fail d) = true
may_make acts heights trace book number suits (Step.Ask d retry line) = true
may_make acts heights trace book number suits (Step.Edit e file line) = true

-- after one step more
pub record HasActed (old new : Acts) (step : Step) : Type 0 where
  pub came : new.came ≡ (old.came || is_attach step)
  pub left : new.left ≡ (old.left || is_detach step)
  pub answers : new.answers ≡ (if is_answer step then suc old.answers else old.answers)
  pub ended : (t : ℕ) → contains nat_cmp new.ended t ≡ (contains nat_cmp old.ended t || is_end t step)
