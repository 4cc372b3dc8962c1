-- What an activity knows of a list holds of every longer one, and how it grows by a step of its
-- own.
use Rattle.std.proofs.Common.{◌≡◌, ◌≤◌, ◌<◌, ℕ, zero, suc, List, [], ◌∷◌, ◌++◌, length, map, true, false, refl, sym, ap, ◌∙◌, subst, arith, append_assoc, ◌⊎◌}
use Rattle.std.specs.Prelude.{Option, Some, None, slice_get, option_map, flat_map, is_some, max, IfSome}
use Rattle.std.specs.List.{AllByRecursion}
use Rattle.std.proofs.lemmas.List.{length-append, length-map, map-append}
use Rattle.tm_word.specs.Prelude.{Text}
use Rattle.tm_rules.specs.Types.{FileKind, Look, Made, Maker, Step, Take, Tree}
use Rattle.tm_rules.specs.Prelude.{numbered}
use Rattle.tm_legal.specs.Prelude.{History, IsLegalTake, LookDone, LooksRise, Scene, TreePlayed, at_start, raised, seen, subject_of, tree_cases}
use Rattle.tm_legal.proofs.Histories.{All-push, RisesFrom-push}
use Rattle.tm_legal.proofs.Walks.{All-map, IsLegalTake-later}
use Rattle.tm_made.specs.Made.{history_made, made_step}
use Rattle.tm_joint.specs.Makers.{Claims}
use Rattle.tm_joint.specs.Played.{Row, seen_by, RowHolds, LinesMade}
use Rattle.tm_joint.proofs.Rows.{All-flat, cases-takes}
use Rattle.tm_made.proofs.Telling.{made-length, more_made, made-append}

-- Steps by number

get-later : {A : Type 0} (xs ys : List A) (n : ℕ) (x : A) → slice_get xs n ≡ Some x → slice_get (xs ++ ys) n ≡ Some x
get-later [] ys n x at = absurd cc
get-later (y ∷ xs) ys zero x at = at
get-later (y ∷ xs) ys (suc n) x at = get-later xs ys n x at

numbered-later : {A : Type 0} (xs ys : List A) (n : ℕ) (x : A) → numbered xs n ≡ Some x → numbered (xs ++ ys) n ≡ Some x
numbered-later xs ys zero x at = at
numbered-later xs ys (suc n) x at = get-later xs ys n x at

numbered-last : {A : Type 0} (xs : List A) (x : A) → numbered (xs ++ x ∷ []) (suc (length xs)) ≡ Some x
numbered-last [] x = refl
numbered-last (y ∷ xs) x = numbered-last xs x

-- a number that names an element is at most the length
numbered-within : {A : Type 0} (xs : List A) (n : ℕ) (x : A) → numbered xs n ≡ Some x → n ≤ length xs
numbered-within {A} xs zero x at = omega arith
numbered-within {A} xs (suc n) x at = below xs n at
  where
    below : (ys : List A) (k : ℕ) → slice_get ys k ≡ Some x → suc k ≤ length ys
    below [] k there = absurd cc
    below (y ∷ ys) zero there = omega arith
    below (y ∷ ys) (suc k) there = omega (arith, below ys k there)

made-of : (list : List Made) (n : ℕ) (step : Step) → made_step list n ≡ Some step → (made : Made) × (numbered list n ≡ Some made) × (made.step ≡ step)
made-of list n step at = go (numbered list n) refl at
  where
    go : (o : Option Made) → numbered list n ≡ o → option_map (λ (made : Made). made.step) o ≡ Some step → (made : Made) × (numbered list n ≡ Some made) × (made.step ≡ step)
    go None there e = absurd cc
    go (Some made) there e = let same : made.step ≡ step = cc in (made, there, same)

pub made_step-later : (xs ys : List Made) (n : ℕ) (step : Step) → made_step xs n ≡ Some step → made_step (xs ++ ys) n ≡ Some step
made_step-later xs ys n step at =
    let (made, there, is) = made-of xs n step at in
    ap (option_map (λ (m : Made). m.step)) (numbered-later xs ys n made there) ∙ ap Some is

pub made_step-last : (xs : List Made) (made : Made) → made_step (xs ++ made ∷ []) (suc (length xs)) ≡ Some made.step
made_step-last xs made = ap (option_map (λ (m : Made). m.step)) (numbered-last xs made)

-- What a pass has made

module _ (who : Maker → Option ℕ) (i : ℕ) where
  -- a step whose maker belongs to the pass has this number
  abbrev Mine : List Made → ℕ → Type 0
  Mine list n = (made : Made) × (numbered list n ≡ Some made) × (who made.maker ≡ Some i)

  mine-later : (xs ys : List Made) (n : ℕ) → Mine xs n → Mine (xs ++ ys) n
  mine-later xs ys n (made, at, is) = (made, numbered-later xs ys n made at, is)

  mine-within : (xs : List Made) (n : ℕ) → Mine xs n → n ≤ length xs
  mine-within xs n (made, at, is) = numbered-within xs n made at

  pub claims-later : (xs ys : List Made) (ns : List ℕ) → Claims who i xs ns → Claims who i (xs ++ ys) ns
  claims-later xs ys ns claims = (claims.0, All-map (Mine xs) (Mine (xs ++ ys)) ns (mine-later xs ys) claims.1)

  -- it makes a step more, after others' steps
  pub claims-push : (xs ys : List Made) (made : Made) (ns : List ℕ) → who made.maker ≡ Some i → Claims who i xs ns → Claims who i ((xs ++ ys) ++ made ∷ []) (ns ++ suc (length (xs ++ ys)) ∷ [])
  claims-push xs ys made ns is claims =
      let later = claims-later xs ys ns claims in (
        RisesFrom-push 0 (length (xs ++ ys)) ns later.0 (omega arith) (All-map (Mine (xs ++ ys)) (λ n. n ≤ length (xs ++ ys)) ns (mine-within (xs ++ ys)) later.1),
        All-push (Mine ((xs ++ ys) ++ made ∷ [])) ns (suc (length (xs ++ ys)))
            (All-map (Mine (xs ++ ys)) (Mine ((xs ++ ys) ++ made ∷ [])) ns (mine-later (xs ++ ys) (made ∷ [])) later.1)
            (made, numbered-last (xs ++ ys) made, is),
      )

-- Editors

lines-each : (xs ys : List Made) (e : ℕ) (lines : List (FileKind × Text)) (ns : List ℕ) → map (made_step xs) ns ≡ map (λ (line : FileKind × Text). Some (Step.Edit e line.0 line.1)) lines → map (made_step (xs ++ ys)) ns ≡ map (λ (line : FileKind × Text). Some (Step.Edit e line.0 line.1)) lines
lines-each xs ys e [] [] h = refl
lines-each xs ys e [] (n ∷ ns) h = absurd cc
lines-each xs ys e (line ∷ lines) [] h = absurd cc
lines-each xs ys e (line ∷ lines) (n ∷ ns) h =
    let first : made_step xs n ≡ Some (Step.Edit e line.0 line.1) = cc in
    let rest : map (made_step xs) ns ≡ map (λ (l : FileKind × Text). Some (Step.Edit e l.0 l.1)) lines = cc in
    rw (made_step-later xs ys n (Step.Edit e line.0 line.1) first, lines-each xs ys e lines ns rest) refl

pub lines-later : (xs ys : List Made) (e : ℕ) (lines : List (FileKind × Text)) (ns : List ℕ) → LinesMade xs e lines ns → LinesMade (xs ++ ys) e lines ns
lines-later xs ys e lines ns h = (h.0, lines-each xs ys e lines ns h.1)

lines-within : (xs : List Made) (e : ℕ) (lines : List (FileKind × Text)) (ns : List ℕ) → map (made_step xs) ns ≡ map (λ (line : FileKind × Text). Some (Step.Edit e line.0 line.1)) lines → AllByRecursion (λ n. n ≤ length xs) ns
lines-within xs e lines [] h = tt
lines-within xs e [] (n ∷ ns) h = absurd cc
lines-within xs e (line ∷ lines) (n ∷ ns) h =
    let first : made_step xs n ≡ Some (Step.Edit e line.0 line.1) = cc in
    let rest : map (made_step xs) ns ≡ map (λ (l : FileKind × Text). Some (Step.Edit e l.0 l.1)) lines = cc in
    let (made, there, is) = made-of xs n (Step.Edit e line.0 line.1) first in
    (numbered-within xs n made there, lines-within xs e lines ns rest)

-- an editor makes its next line, after others' steps
pub lines-push : (xs ys : List Made) (made : Made) (e : ℕ) (lines : List (FileKind × Text)) (line : FileKind × Text) (ns : List ℕ) → made.step ≡ Step.Edit e line.0 line.1 → LinesMade xs e lines ns → LinesMade ((xs ++ ys) ++ made ∷ []) e (lines ++ line ∷ []) (ns ++ suc (length (xs ++ ys)) ∷ [])
lines-push xs ys made e lines line ns is h =
    let later = lines-later xs ys e lines ns h in
    let more : List Made = (xs ++ ys) ++ made ∷ [] in
    let last : made_step more (suc (length (xs ++ ys))) ≡ Some (Step.Edit e line.0 line.1) = made_step-last (xs ++ ys) made ∙ ap Some is in (
      RisesFrom-push 0 (length (xs ++ ys)) ns later.0 (omega arith) (lines-within (xs ++ ys) e lines ns later.1),
      map-append (made_step more) ns (suc (length (xs ++ ys)) ∷ []) ∙ rw (lines-each (xs ++ ys) (made ∷ []) e lines ns later.1, last, map-append (λ (l : FileKind × Text). Some (Step.Edit e l.0 l.1)) lines (line ∷ [])) refl,
    )

-- Trees

-- a tree that was played stays so
pub played-later : (scene : Scene) (xs ys : List Made) (t : ℕ) (tree : Tree) (takes : List Take) → TreePlayed scene (history_made scene xs) t tree takes → TreePlayed scene (history_made scene (xs ++ ys)) t tree takes
played-later scene xs ys t tree takes h =
    record {
      pids = h.pids;
      cases = All-map (IsLegalTake scene (history_made scene xs)) (IsLegalTake scene (history_made scene (xs ++ ys))) (tree_cases t (at_start scene.policy tree) tree.records takes)
          (λ c legal. subst (λ (k : History). IsLegalTake scene k c) (sym (made-append scene xs ys)) (IsLegalTake-later scene (history_made scene xs) (more_made scene xs ys) c legal))
          h.cases;
    }

-- all that its takes have seen is of the history
takes-see : (scene : Scene) (history : History) (t : ℕ) (tree : Tree) (takes : List Take) → TreePlayed scene history t tree takes → AllByRecursion (λ version. version ≤ length history) (seen_by takes)
takes-see scene history t tree takes h =
    All-flat (λ version. version ≤ length history) (λ (k : Take). flat_map seen k.looks) takes
    (cases-takes (IsLegalTake scene history) (λ (k : Take). AllByRecursion (λ version. version ≤ length history) (flat_map seen k.looks))
    (λ c legal.
    All-flat (λ version. version ≤ length history) seen c.taken.looks
    (All-map (LookDone scene history (subject_of c)) (λ (look : Look). AllByRecursion (λ version. version ≤ length history) (seen look)) c.taken.looks (λ look done. done.sees) legal.looks))
    t (at_start scene.policy tree) tree.records takes
    (sym (length-map takes (λ (k : Take). k.pid)) ∙ ap length h.pids)
    h.cases)

-- without a supervisor the tree is done with its last take
pub row-lone : (scene : Scene) (xs : List Made) (t : ℕ) (tree : Tree) (takes : List Take) → is_some scene.book ≡ false → TreePlayed scene (history_made scene xs) t tree takes → RowHolds scene xs t tree (record { takes = takes; end = None })
row-lone scene xs t tree takes none h = record { played = h; ended = sym none; end_is = tt; above = tt }

-- with one its end comes after others' steps
pub row-ends : (scene : Scene) (xs ys : List Made) (made : Made) (t : ℕ) (tree : Tree) (takes : List Take) → is_some scene.book ≡ true → made.step ≡ Step.End t → TreePlayed scene (history_made scene xs) t tree takes → RowHolds scene ((xs ++ ys) ++ made ∷ []) t tree (record { takes = takes; end = Some (suc (length (xs ++ ys))) })
row-ends scene xs ys made t tree takes book is h =
    record {
      played = rw (append_assoc xs ys (made ∷ [])) (played-later scene xs (ys ++ made ∷ []) t tree takes h);
      ended = sym book;
      end_is = made_step-last (xs ++ ys) made ∙ ap Some is;
      above = All-map (λ version. version ≤ length (history_made scene xs)) (λ version. version < suc (length (xs ++ ys))) (seen_by takes)
          (λ version le. let long = made-length scene xs in let more = length-append xs ys in omega arith)
          (takes-see scene (history_made scene xs) t tree takes h);
    }

-- a row that holds goes on holding
pub row-later : (scene : Scene) (xs ys : List Made) (t : ℕ) (tree : Tree) (row : Row) → RowHolds scene xs t tree row → RowHolds scene (xs ++ ys) t tree row
row-later scene xs ys t tree row h = record { played = played-later scene xs ys t tree row.takes h.played; ended = h.ended; end_is = end-later row.end h.end_is; above = h.above }
  where
    end-later : (o : Option ℕ) → IfSome o (λ n. made_step xs n ≡ Some (Step.End t)) → IfSome o (λ n. made_step (xs ++ ys) n ≡ Some (Step.End t))
    end-later None is = tt
    end-later (Some n) is = made_step-later xs ys n (Step.End t) is

-- looks that rise from a floor are above all that is below it
pub looks-above : (history : History) (attach floor : ℕ) (looks : List Look) → attach ≤ floor → LooksRise history floor looks → AllByRecursion (λ (look : Look). attach ≤ look.version) looks
looks-above history attach floor [] le rises = tt
looks-above history attach floor (look ∷ looks) le rises =
    (omega (arith, rises.0), looks-above history attach (raised floor (seen look)) looks (lifted floor (seen look) le) rises.2)
  where
    lifted : (n : ℕ) (versions : List ℕ) → attach ≤ n → attach ≤ raised n versions
    lifted n [] low = low
    lifted n (v ∷ versions) low = lifted (max n v) versions (omega arith)
