-- What a worker that plays trees has come to.
use Rattle.std.proofs.Common.{◌≡◌, ◌≤◌, List, [], ◌++◌, sym, ap, ◌∙◌, subst, length, ℕ, Bool}
use Rattle.std.specs.Prelude.{Result, Ok, Err, IfOk}
use Rattle.tm_rules.specs.Types.{Made, Maker, Start}
use Rattle.tm_joint.specs.Makers.{Claims}
use Rattle.tm_seat.specs.declared.tree.PlayedTree.{PlayedTree}
use Rattle.tm_seat.specs.declared.tree.TreeToPlay.{TreeToPlay}
use Rattle.tm_seat.specs.Seats.{MadeBy}
use Rattle.tm_seat.specs.Rows.{EachIsPlayed, RowSince, RowsRise, row_seen, rows_own, makers_all}
use Rattle.tm_seat.proofs.Rising.{row-since-lower, rises-lower}
use Rattle.tm_seat.specs.Parts.{deed, ClaimedBy, WorkerDid}

-- whoever begins with no step claims those that it has made since
pub claimed : (makers : List Maker) (old new : List Made) (before own : List ℕ) → before ≡ [] → MadeBy makers old before new own → ClaimedBy makers new own
claimed makers old new before own none by who i all = by who i all (subst (λ (ns : List ℕ). Claims who i old ns) (sym none) (tt, tt))

pub if-ok-of-four : {A E : Type 0} (P Q R S Z : A → Type 0) (result : Result A E) → IfOk result P → IfOk result Q → IfOk result R → IfOk result S → ((x : A) → P x → Q x → R x → S x → Z x) → IfOk result Z
if-ok-of-four P Q R S Z (Ok x) p q r s all = all x p q r s
if-ok-of-four P Q R S Z (Err e) p q r s all = tt

pub worker-done : (start : Start) (supervised : Bool) (old new : List Made) (before own : List ℕ) (trees items : List TreeToPlay) (rows : List PlayedTree) → supervised ≡ start.desk → items ≡ trees → before ≡ [] → EachIsPlayed start supervised new items rows → own ≡ before ++ rows_own rows → MadeBy (makers_all items) old before new own → RowsRise (length old) rows → (floor : ℕ) → floor ≤ length old → WorkerDid start floor trees (deed new own rows)
worker-done start supervised old new before own trees items rows stands are none each noted by rises floor low =
    record {
      each = subst (λ (b : Bool). EachIsPlayed start b new trees rows) stands (subst (λ (ts : List TreeToPlay). EachIsPlayed start supervised new ts rows) are each);
      own_is = noted ∙ ap (λ (ns : List ℕ). ns ++ rows_own rows) none;
      claims = claimed (makers_all trees) old new before own none (subst (λ (ts : List TreeToPlay). MadeBy (makers_all ts) old before new own) are by);
      rises = rises-lower RowSince row_seen row-since-lower floor (length old) rows low rises;
    }
