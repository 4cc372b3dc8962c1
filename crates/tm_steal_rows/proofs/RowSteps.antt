-- Parts of trees and their rows, one after another.
use Rattle.std.proofs.Common.{◌≡◌, ◌<◌, ℕ, zero, suc, List, [], ◌∷◌, ◌++◌, length, get_or, take, drop, Bool, true, refl, sym, ap, ◌∙◌, subst, arith, append_assoc, append-nil}
use Rattle.std.specs.Prelude.{Option, Some, None, IfSome, is_some, Result, Ok, Err, IfOk}
use Rattle.tm_rules.specs.Types.{Take, Tree}
use Rattle.tm_rules.specs.Prelude.{Trace}
use Rattle.tm_seat.specs.declared.tree.PlayedTree.{PlayedTree}
use Rattle.tm_steal_rows.specs.declared.parts.TreePart.{TreePart}
use Rattle.tm_steal_rows.specs.declared.played.Played.{Played}
use Rattle.tm_steal_rows.specs.declared.played.PlayedTake.{PlayedTake}
use Rattle.tm_steal_rows.specs.Gathering.{AreTheSame, AreTakesOf, TakesOfProcesses, EndsNext, RowsAreOf, left_in, IsPartOf, PartsAreOf, IsWalked, AreWalked, IsRowOf, RowsAreOfParts, EachOwned, all_given, takes_of, ends_of, IsGathered}
use Rattle.tm_steal_rows.proofs.Same.{same-refl, same-then, same-behind, same-before}

-- Parts

-- with the parts of the trees that are left these are the parts of all
abbrev pub PartsSoFar : Trace → List (Option ℕ) → List PlayedTake → List TreePart → ℕ → Trace → List (Option ℕ) → List PlayedTake → Type 0
PartsSoFar trace homes takes parts t trees homes_left takes_left =
    (more : List TreePart) → PartsAreOf t trees homes_left takes_left more → PartsAreOf 1 trace homes takes (parts ++ more)

pub parts-more : (trace : Trace) (homes : List (Option ℕ)) (takes : List PlayedTake) (parts new : List TreePart) (t : ℕ) (tree : Tree) (trees : Trace) (home : Option ℕ) (old_homes homes_left : List (Option ℕ)) (old_takes takes_left : List PlayedTake) (part : TreePart) → old_homes ≡ home ∷ homes_left → new ≡ parts ++ part ∷ [] → IsPartOf t tree home old_takes part takes_left → PartsSoFar trace homes takes parts t (tree ∷ trees) old_homes old_takes → PartsSoFar trace homes takes new (suc t) trees homes_left takes_left
parts-more trace homes takes parts new t tree trees home old_homes homes_left old_takes takes_left part first pushed is so more later =
    rw (pushed, append_assoc parts (part ∷ []) more)
    (so (part ∷ more) (rw first (takes_left, is, later)))

pub parts-end : (trace : Trace) (homes : List (Option ℕ)) (takes : List PlayedTake) (parts : List TreePart) (t : ℕ) (trees : Trace) (homes_left : List (Option ℕ)) (takes_left : List PlayedTake) → trees ≡ [] → takes_left ≡ [] → PartsSoFar trace homes takes parts t trees homes_left takes_left → PartsAreOf 1 trace homes takes parts
parts-end trace homes takes parts t trees homes_left takes_left past none so =
    subst (PartsAreOf 1 trace homes takes) (append-nil parts) (so [] (rw past none))

-- Walks

pub walked-each : (olds news : List TreePart) → length news ≡ length olds → ((i : ℕ) (d : TreePart) → i < length olds → IsWalked (get_or olds i d) (get_or news i d)) → AreWalked olds news
walked-each [] [] long each = tt
walked-each [] (new ∷ news) long each = absurd (omega (arith, long))
walked-each (old ∷ olds) [] long each = absurd (omega (arith, long))
walked-each (old ∷ olds) (new ∷ news) long each =
    (each 0 old (omega arith), walked-each olds news (omega (arith, long)) (λ i d lt. each (suc i) d (omega (arith, lt))))

-- what is written back to a list through a slice of it
pub written-back : {A : Type 0} (olds news : List A) (n : ℕ) → n ≡ length olds → length news ≡ length olds → take n (news ++ drop (length news) olds) ≡ news
written-back [] [] n is long = rw is refl
written-back [] (new ∷ news) n is long = absurd (omega (arith, long))
written-back (old ∷ olds) [] n is long = absurd (omega (arith, long))
written-back (old ∷ olds) (new ∷ news) zero is long = absurd (omega (arith, is))
written-back (old ∷ olds) (new ∷ news) (suc n) is long = ap (λ (l : List _). new ∷ l) (written-back olds news n (omega (arith, is)) (omega (arith, long)))

-- Rows

pub rows-push : (supervised : Bool) (parts : List TreePart) (ends : List (ℕ × ℕ)) (rows : List PlayedTree) (left : List (ℕ × ℕ)) (part : TreePart) (row : PlayedTree) (next : List (ℕ × ℕ)) → RowsAreOfParts supervised parts ends rows left → IsRowOf supervised part left row next → RowsAreOfParts supervised (parts ++ part ∷ []) ends (rows ++ row ∷ []) next
rows-push supervised [] ends [] left part row next h is =
    (next, subst (λ (l : List (ℕ × ℕ)). IsRowOf supervised part l row next) (sym h) is, refl)
rows-push supervised [] ends (first ∷ rows) left part row next h is = absurd h
rows-push supervised (one ∷ parts) ends [] left part row next h is = absurd h
rows-push supervised (one ∷ parts) ends (first ∷ rows) left part row next (mid, its, h) is =
    (mid, its, rows-push supervised parts mid rows left part row next h is)

-- the row of the part of tree t that was walked: its takes are those that were left
pub record IsFound (t : ℕ) (tree : Tree) (home : Option ℕ) (left : List PlayedTake) (row : PlayedTree) : Type 0 where
  pub own : List PlayedTake
  pub are : AreTakesOf t home tree.records own row.takes
  pub same : AreTheSame left own

row-of : (supervised : Bool) (t : ℕ) (tree : Tree) (home : Option ℕ) (old new : TreePart) (ends : List (ℕ × ℕ)) (row : PlayedTree) (left : List (ℕ × ℕ)) → old.number ≡ t → old.tree.now ≡ tree → old.home ≡ home → IsWalked old new → IsRowOf supervised new ends row left → IsFound t tree home (left_in old) row
row-of supervised t tree home old new ends row left same_number same_tree same_home walked is = go (λ v. v.items) new.takes is.has_takes walked.takes_are is.takes_are
  where
    go : {V : Type 0} (items : V → List Take) (takes : Option V) → is_some takes ≡ true → IfSome takes (λ v. TakesOfProcesses old.number old.home old.tree.now.records (left_in old) (items v) (left_in new)) → IfSome takes (λ v. row.takes ≡ items v) → IsFound t tree home (left_in old) row
    go items None some h takes = absurd cc
    go items (Some v) some h takes =
        rw (sym same_number, sym same_tree, sym same_home)
        (record {
          own = h.own;
          are = rw takes h.are;
          same = subst (AreTheSame (left_in old)) (ap (λ (l : List PlayedTake). h.own ++ l) is.all_walked ∙ append-nil h.own) h.taken_out;
        })

-- rows of these takes, tree by tree from tree t on
pub record AreFound (supervised : Bool) (t : ℕ) (trace : Trace) (homes : List (Option ℕ)) (takes : List PlayedTake) (ends : List (ℕ × ℕ)) (rows : List PlayedTree) : Type 0 where
  pub ordered : List PlayedTake
  pub rows_are : RowsAreOf supervised t trace homes ordered ends rows
  pub same : AreTheSame takes ordered

pub rows-of : (supervised : Bool) (t : ℕ) (trace : Trace) (homes : List (Option ℕ)) (takes : List PlayedTake) (olds news : List TreePart) (ends : List (ℕ × ℕ)) (rows : List PlayedTree) → PartsAreOf t trace homes takes olds → AreWalked olds news → RowsAreOfParts supervised news ends rows [] → AreFound supervised t trace homes takes ends rows
rows-of supervised t [] homes takes [] [] ends [] parts walked h = record { ordered = []; rows_are = (refl, h); same = rw parts (same-refl []) }
rows-of supervised t [] homes takes [] [] ends (row ∷ rows) parts walked h = absurd h
rows-of supervised t [] homes takes [] (new ∷ news) ends rows parts walked h = absurd walked
rows-of supervised t [] homes takes (old ∷ olds) news ends rows parts walked h = absurd parts
rows-of supervised t (tree ∷ trees) homes takes [] news ends rows parts walked h = absurd parts
rows-of supervised t (tree ∷ trees) [] takes (old ∷ olds) news ends rows parts walked h = absurd parts
rows-of supervised t (tree ∷ trees) (home ∷ homes) takes (old ∷ olds) [] ends rows parts walked h = absurd walked
rows-of supervised t (tree ∷ trees) (home ∷ homes) takes (old ∷ olds) (new ∷ news) ends [] parts walked h = absurd h
rows-of supervised t (tree ∷ trees) (home ∷ homes) takes (old ∷ olds) (new ∷ news) ends (row ∷ rows) (takes_left, is, parts) walked (ends_left, its, h) =
    let found = row-of supervised t tree home old new ends row ends_left is.number_is is.tree_is is.home_is walked.0 its in
    let rest = rows-of supervised (suc t) trees homes takes_left olds news ends_left rows parts walked.1 h in
    let number : new.number ≡ t = walked.0.number_is ∙ is.number_is in
    record {
      ordered = found.own ++ rest.ordered;
      rows_are = (
        rest.ordered,
        ends_left,
        record {
          number = its.number ∙ number;
          of_tree = record { own = found.own; all = refl; are = found.are };
          end = subst (λ (n : ℕ). EndsNext supervised n ends row.end ends_left) number its.end;
          above = its.above;
        },
        rest.rows_are,
      );
      same =
          rw is.takes_are
          (same-then (left_in old ++ takes_left) (found.own ++ takes_left) (found.own ++ rest.ordered)
          (same-before (left_in old) found.own takes_left found.same) (same-behind found.own takes_left rest.ordered rest.same));
    }

-- what the workers give back is gathered where their takes are laid out, each tree's part is walked
-- and the parts have rows
pub gathered : {E : Type 0} (supervised : Bool) (trace : Trace) (homes : List (Option ℕ)) (given : List (List Played)) (takes : List PlayedTake) (ends : List (ℕ × ℕ)) (olds news : List TreePart) {V : Type 0} (items : V → List PlayedTree) (rows : Result V E) (owner : ℕ → Option ℕ) → EachOwned owner 0 given → AreTheSame (takes_of (all_given given)) takes → ends ≡ ends_of (all_given given) → PartsAreOf 1 trace homes takes olds → AreWalked olds news → IfOk rows (λ v. RowsAreOfParts supervised news ends (items v) []) → IfOk rows (λ v. IsGathered trace homes supervised given (items v))
gathered supervised trace homes given takes ends olds news items (Err e) owner owned laid ends_are parts walked h = tt
gathered supervised trace homes given takes ends olds news items (Ok rows) owner owned laid ends_are parts walked h =
    let found = rows-of supervised 1 trace homes takes olds news ends (items rows) parts walked h in
    record {
      owner = owner;
      owned = owned;
      takes = found.ordered;
      same = same-then (takes_of (all_given given)) takes found.ordered laid found.same;
      rows_are = subst (λ (l : List (ℕ × ℕ)). RowsAreOf supervised 1 trace homes found.ordered l (items rows)) ends_are found.rows_are;
    }
