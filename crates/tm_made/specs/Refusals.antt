-- What a refused line and a refused step leave.
use Rattle.std.specs.Prelude.{◌≡◌, ◌⊎◌, ℕ, suc, Bool, true, false, not, List, Some, None, Ok, slice_set}
use Rattle.tm_word.specs.Prelude.{Text}
use Rattle.tm_rules.specs.Prelude.{Cursor, DomainName, Edited, Grammar, apply_line, is_done, live_domain}
use Rattle.tm_rules.specs.Types.{DomainRule, FileKind, Held, LearnReply, MakeReply, Policy, PolicyLine, Reply, Step}
use Rattle.tm_legal.specs.Prelude.{State, apply}

-- Lines

-- a `select` of a domain that isn't live
abbrev pub SelectsNone : Grammar → Policy → FileKind → Text → Type 0
SelectsNone g policy file line =
    (name : DomainName) × (g.read_line file line ≡ Ok (PolicyLine.Domain (DomainRule.Select name)))
    × (live_domain policy name ≡ None)

-- the policy is as it was, and so is the cursor, which only such a `select` empties
pub record LineLeaves (g : Grammar) (policy : Policy) (file : FileKind) (cursor : Cursor) (line : Text)
    (done : Edited) : Type 0 where
  pub same : done.policy ≡ policy
  pub chosen : (done.cursor ≡ cursor) ⊎ ((done.cursor ≡ None) × SelectsNone g policy file line)

-- of every line that isn't done
abbrev pub RefusedLinesChangeNothing : Type 0
RefusedLinesChangeNothing =
    (g : Grammar) (policy : Policy) (file : FileKind) (cursor : Cursor) (line : Text)
    → is_done (apply_line g policy file cursor line).reply ≡ false
    → LineLeaves g policy file cursor line (apply_line g policy file cursor line)

-- Steps

-- a step is refused, or what it would do was done before; `quota` is no refusal, since it sets a
-- flag
abbrev pub is_refused : Reply → Bool
is_refused (Reply.Learn LearnReply.Mode) = true
is_refused (Reply.Learn LearnReply.There) = true
is_refused (Reply.Make (MakeReply.Old n)) = true
is_refused (Reply.Fail false) = true
is_refused (Reply.Ask Held.Nobody) = true
is_refused (Reply.Answer (Some fault)) = true
is_refused (Reply.Attach false) = true
is_refused (Reply.Detach false) = true
is_refused (Reply.Edit reply) = not (is_done reply)
is_refused _ = false

-- an editor's `select` of a domain that isn't live has emptied its cursor
abbrev pub IsEmptied : Grammar → State → Step → List Cursor → Type 0
IsEmptied g s step cursors =
    (e : ℕ) × (file : FileKind) × (line : Text) × (step ≡ Step.Edit (suc e) file line)
    × SelectsNone g s.policy file line × (cursors ≡ slice_set s.cursors e None)

-- all is as it was, but for such a cursor
pub record IsUnchanged (g : Grammar) (s : State) (step : Step) (s' : State) : Type 0 where
  pub policy : s'.policy ≡ s.policy
  pub queries : s'.queries ≡ s.queries
  pub ended : s'.ended ≡ s.ended
  pub editors : s'.editors ≡ s.editors
  pub trees : s'.trees ≡ s.trees
  pub cursors : (s'.cursors ≡ s.cursors) ⊎ IsEmptied g s step s'.cursors

-- of every step that is refused
abbrev pub RefusedStepsChangeNothing : Type 0
RefusedStepsChangeNothing =
    (g : Grammar) (s : State) (step : Step) (r : Reply) → (apply g s step).reply ≡ Some r
    → is_refused r ≡ true → IsUnchanged g s step (apply g s step).state
