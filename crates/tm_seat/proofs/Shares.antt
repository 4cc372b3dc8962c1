-- What is the same for every way of working: the editors' and the supervisor's share, by which the
-- workers' share makes a joint run, and so a legal one.
use Rattle.std.proofs.Common.{◌≡◌, ◌≤◌, ℕ, zero, suc, ◌+◌, ◌-◌, List, [], ◌∷◌, ◌++◌, length, map, Bool, true, false, true≢false, refl, sym, ap, ◌∙◌, subst, arith, append-nil}
use Rattle.std.specs.Prelude.{Option, Some, None, if◌then◌else◌, slice_get, flat_map, take, sum_by, option_map}
use Rattle.std.specs.List.{AllByRecursion, fold}
use Rattle.std.proofs.lemmas.Grind.{flat_map-append}
use Rattle.std.proofs.lemmas.List.{map-append}
use Rattle.tm_rules.specs.Types.{Book, Editor, Look, Made, Maker, Reply, Run, Start, Step, Take}
use Rattle.tm_rules.specs.Prelude.{Trace, numbered}
use Rattle.tm_legal.specs.Prelude.{History, IsOpened, Legal, NoLookBeforeAttach, Scene, SupervisorActs, is_of_supervisor, places, places_from, step_at, times}
use Rattle.tm_legal.proofs.Laws.{times-append}
use Rattle.tm_legal.proofs.Walks.{All-map}
use Rattle.tm_made.specs.Made.{history_made, made_step}
use Rattle.tm_joint.specs.Joint.{Joint, takes_in}
use Rattle.tm_joint.specs.Makers.{EachClaims}
use Rattle.tm_joint.specs.Played as joint
use Rattle.tm_joint.specs.Played.{Row, row_own, RowHolds, EachRow, EachEditor, DeskActs}
use Rattle.tm_joint.proofs.Assembly.{joint-legal, attached-first}
use Rattle.tm_joint.proofs.Gathering.{claims-append}
use Rattle.tm_joint.proofs.Later.{made_step-later}
use Rattle.tm_seat.specs.Seats as seat
use Rattle.tm_seat.proofs.Opening.{fits-scene}
use Rattle.tm_seat.specs.declared.part.Part.{Part}
use Rattle.tm_take.specs.Each.{EachWith}
use Rattle.tm_seat.specs.Parts.{editor_parts, desk_parts, Deed, PartIsDone, PlayedTogether, coming}
use Rattle.tm_seat.specs.Replayed.{scene_of}
use Rattle.tm_seat.proofs.Each.{Split, each-split, each-length, each-hand}
use Rattle.tm_seat.proofs.Lists.{take-front, length-mapped}
use Rattle.tm_seat.proofs.Moving.{deed_at, DidStays, parts-later}

-- Numbers of steps

-- the numbers of all deeds' steps
abbrev pub owns : {D : Type 0} → List (Deed D) → List (List ℕ)
owns deeds = map (λ (done : Deed _). done.own) deeds

owns-append : {D : Type 0} (front back : List (Deed D)) → owns (front ++ back) ≡ owns front ++ owns back
owns-append front back = map-append (λ (done : Deed _). done.own) front back

owns-length : {D : Type 0} (deeds : List (Deed D)) → length (owns deeds) ≡ length deeds
owns-length deeds = length-mapped (λ (done : Deed _). done.own) deeds

-- all deeds' steps are the workers', the editors' and the supervisor's
counted : {D : Type 0} (n : ℕ) (front middle back : List (Deed D)) → times n (flat_map (λ (ns : List ℕ). ns) (owns front ++ (owns middle ++ owns back))) ≡ times n (flat_map (λ (ns : List ℕ). ns) (owns front)) + times n (flat_map (λ (ns : List ℕ). ns) (owns middle)) + times n (flat_map (λ (ns : List ℕ). ns) (owns back))
counted n front middle back =
    let whole = ap (times n) (flat_map-append (λ (ns : List ℕ). ns) (owns front) (owns middle ++ owns back)) ∙ times-append n (flat_map (λ (ns : List ℕ). ns) (owns front)) (flat_map (λ (ns : List ℕ). ns) (owns middle ++ owns back)) in
    let others = ap (times n) (flat_map-append (λ (ns : List ℕ). ns) (owns middle) (owns back)) ∙ times-append n (flat_map (λ (ns : List ℕ). ns) (owns middle)) (flat_map (λ (ns : List ℕ). ns) (owns back)) in
    sums _ _ _ _ _ whole others
  where
    sums : (a b c e g : ℕ) → a ≡ b + c → c ≡ e + g → a ≡ b + e + g
    sums a b c e g h k = omega arith

fold-owns : {D : Type 0} (n : ℕ) (deeds : List (Deed D)) → fold (λ sum (done : Deed D). sum + length done.own) n deeds ≡ fold (λ sum (numbers : List ℕ). sum + length numbers) n (owns deeds)
fold-owns n [] = refl
fold-owns n (done ∷ deeds) = fold-owns (n + length done.own) deeds

sum-owns : {D : Type 0} (deeds : List (Deed D)) → sum_by (λ (done : Deed D). length done.own) deeds ≡ sum_by (λ (numbers : List ℕ). length numbers) (owns deeds)
sum-owns deeds = fold-owns 0 deeds

-- Editors and the supervisor

-- after the workers each editor has a pass, from 1, and the last one is the supervisor's
pub record OthersFollow (who : Maker → Option ℕ) (workers editors : ℕ) : Type 0 where
  pub editor : (e : ℕ) → who (Maker.Editor e) ≡ Some (workers + (e - 1))
  pub desk : who Maker.Desk ≡ Some (workers + editors)

length-editors : (H : Type 0) (e : ℕ) (editors : List Editor) → length (editor_parts {H = H} e editors) ≡ length editors
length-editors H e [] = refl
length-editors H e (editor ∷ editors) = ap suc (length-editors H (suc e) editors)

module _ {H D : Type 0} (Did : Start → ℕ → H → Deed D → Type 0) (start : Start) (book : Book) (floor : ℕ) (list : List Made) where
  editors-did : (e : ℕ) (editors : List Editor) (deeds : List (Deed D)) → EachWith (λ part done. PartIsDone Did start book floor part (deed_at list done)) (editor_parts e editors) deeds → EachEditor (joint.EditorDid list) e editors (owns deeds)
  editors-did e [] [] h = tt
  editors-did e [] (done ∷ deeds) h = absurd h
  editors-did e (editor ∷ editors) [] h = absurd h
  editors-did e (editor ∷ editors) (done ∷ deeds) h = (h.0.made, editors-did (suc e) editors deeds h.1)

  -- the supervisor's steps, none where no supervisor stands
  desk-acts : (trace : Trace) → length trace ≡ start.trees → (supervised : Bool) (deeds : List (Deed D)) → EachWith (λ part done. PartIsDone Did start book floor part (deed_at list done)) (desk_parts supervised) deeds → DeskActs (seat.scene_of start trace (if supervised then Some book else None)) list (if supervised then Some book else None) (flat_map (λ (ns : List ℕ). ns) (owns deeds))
  desk-acts trace trees false [] h = refl
  desk-acts trace trees false (done ∷ deeds) h = absurd h
  desk-acts trace trees true [] h = absurd h
  desk-acts trace trees true (done ∷ more ∷ deeds) h = absurd h.1
  desk-acts trace trees true (done ∷ []) h =
      subst (λ (own : List ℕ). joint.DeskDid (seat.scene_of start trace (Some book)) list book own) (sym (append-nil done.own)) (h.0.acts trace list trees ([], sym (append-nil list)))

  module _ (who : Maker → Option ℕ) (workers editors : ℕ) (others : OthersFollow who workers editors) where
    -- editors from editor e on
    claims-editors : (e : ℕ) (those : List Editor) (deeds : List (Deed D)) → EachWith (λ part done. PartIsDone Did start book floor part (deed_at list done)) (editor_parts (suc e) those) deeds → EachClaims who (workers + e) list (owns deeds)
    claims-editors e [] [] h = tt
    claims-editors e [] (done ∷ deeds) h = absurd h
    claims-editors e (editor ∷ those) [] h = absurd h
    claims-editors e (editor ∷ those) (done ∷ deeds) h = (
      h.0.claims who (workers + e) (others.editor (suc e) ∙ ap (λ n. Some (workers + n)) (omega arith), tt),
      subst (λ n. EachClaims who n list (owns deeds)) (omega arith) (claims-editors (suc e) those deeds h.1),
    )

    claims-desk : (supervised : Bool) (deeds : List (Deed D)) → EachWith (λ part done. PartIsDone Did start book floor part (deed_at list done)) (desk_parts supervised) deeds → EachClaims who (workers + editors) list (owns deeds)
    claims-desk false [] h = tt
    claims-desk false (done ∷ deeds) h = absurd h
    claims-desk true [] h = absurd h
    claims-desk true (done ∷ []) h = (h.0.claims who (workers + editors) (others.desk, tt), tt)
    claims-desk true (done ∷ more ∷ deeds) h = absurd h.1

    -- all of them, where the workers' are claimed
    claims-all : (front middle back : List (Deed D)) → length front ≡ workers → length middle ≡ editors → EachClaims who 0 list (owns front) → EachWith (λ part done. PartIsDone Did start book floor part (deed_at list done)) (editor_parts 1 start.editors) middle → EachWith (λ part done. PartIsDone Did start book floor part (deed_at list done)) (desk_parts start.desk) back → EachClaims who 0 list (owns front ++ (owns middle ++ owns back))
    claims-all front middle back long_front long_middle first second third =
        claims-append who 0 workers list (owns front) (owns middle ++ owns back) (let same = owns-length front in omega (arith, same, long_front))
        first
        (claims-append who workers (workers + editors) list (owns middle) (owns back) (let same = owns-length middle in omega (arith, same, long_middle))
        (subst (λ n. EachClaims who n list (owns middle)) (omega arith) (claims-editors 0 start.editors middle second))
        (claims-desk start.desk back third))

-- The share of each

-- what the workers have come to by the closing list, the editors' and the supervisor's steps, and
-- the steps of all passes
pub record Shares {H D : Type 0} (Did : Start → ℕ → H → Deed D → Type 0) (start : Start) (book : Book) (floor : ℕ) (hands : List H) (list : List Made) (given : List (List D)) : Type 0 where
  pub workers : List (Deed D)
  pub did : EachWith (λ hand done. Did start floor hand (deed_at list done)) hands workers
  pub given_is : given ≡ map (λ (done : Deed D). done.rows) workers
  pub editors : List (List ℕ)
  pub desk : List ℕ
  pub each_editor : EachEditor (joint.EditorDid list) 1 start.editors editors
  pub desk_did : (trace : Trace) → length trace ≡ start.trees → DeskActs (scene_of start trace book) list (if start.desk then Some book else None) desk
  pub passes : List (List ℕ)
  pub claims : (who : Maker → Option ℕ) → OthersFollow who (length hands) (length start.editors) → EachClaims who 0 list (owns workers) → EachClaims who 0 list passes
  pub closed : length list ≡ sum_by (λ (numbers : List ℕ). length numbers) passes
  pub dealt : (n : ℕ) → times n (flat_map (λ (ns : List ℕ). ns) passes) ≡ times n (flat_map (λ (ns : List ℕ). ns) (owns workers)) + times n (flat_map (λ (ns : List ℕ). ns) editors) + times n desk

pub shares-of : {H D : Type 0} (Did : Start → ℕ → H → Deed D → Type 0) → DidStays Did → (start : Start) (book : Book) (hands : List H) (list : List Made) (given : List (List D)) (p : PlayedTogether Did start book hands list given) → Shares Did start book (length p.attached) hands list given
shares-of {H = H} {D = D} Did stays start book hands list given p =
    record {
      workers = first.front;
      did = each-hand Did start book floor (deed_at list) hands first.front first.each_front;
      given_is = p.given_is
          ∙ ap (λ (ds : List (Deed D)). take (length hands) (map (λ (done : Deed D). done.rows) ds)) first.all
          ∙ ap (take (length hands)) (map-append (λ (done : Deed D). done.rows) first.front first.back)
          ∙ take-front (length hands) (map (λ (done : Deed D). done.rows) first.front) (map (λ (done : Deed D). done.rows) first.back) (length-mapped (λ (done : Deed D). done.rows) first.front ∙ long-front);
      editors = owns second.front;
      desk = flat_map (λ (ns : List ℕ). ns) (owns second.back);
      each_editor = editors-did Did start book floor list 1 start.editors second.front second.each_front;
      desk_did = λ trace trees. desk-acts Did start book floor list trace trees start.desk second.back second.each_back;
      passes = owns first.front ++ (owns second.front ++ owns second.back);
      claims = λ who others workers. claims-all Did start book floor list who (length hands) (length start.editors) others first.front second.front second.back long-front long-middle workers second.each_front second.each_back;
      closed = p.closed ∙ sum-owns p.deeds ∙ ap (sum_by (λ (numbers : List ℕ). length numbers)) all-own;
      dealt = λ n. counted n first.front second.front second.back;
    }
  where
    floor : ℕ
    floor = length p.attached

    every : EachWith (λ part done. PartIsDone Did start book floor part (deed_at list done)) (map Part.Worker hands ++ (editor_parts 1 start.editors ++ desk_parts start.desk)) p.deeds
    every = parts-later Did stays start book floor _ p.deeds list p.seen p.each

    first : Split (λ part done. PartIsDone Did start book floor part (deed_at list done)) (map Part.Worker hands) (editor_parts 1 start.editors ++ desk_parts start.desk) p.deeds
    first = each-split _ (map Part.Worker hands) (editor_parts 1 start.editors ++ desk_parts start.desk) p.deeds every

    second : Split (λ part done. PartIsDone Did start book floor part (deed_at list done)) (editor_parts 1 start.editors) (desk_parts start.desk) first.back
    second = each-split _ (editor_parts 1 start.editors) (desk_parts start.desk) first.back first.each_back

    long-front : length first.front ≡ length hands
    long-front = each-length _ (map Part.Worker hands) first.front first.each_front ∙ length-mapped Part.Worker hands

    long-middle : length second.front ≡ length start.editors
    long-middle = each-length _ (editor_parts 1 start.editors) second.front second.each_front ∙ length-editors H 1 start.editors

    all-own : owns p.deeds ≡ owns first.front ++ (owns second.front ++ owns second.back)
    all-own = ap owns first.all ∙ owns-append first.front first.back ∙ ap (λ (l : List (List ℕ)). owns first.front ++ l) (ap owns second.all ∙ owns-append second.front second.back)

-- No look before the coming

-- where no step is of the supervisor, none is its coming
no-coming : (n : ℕ) (steps : History) (k : ℕ) (pair : Step × Reply) → places_from n is_of_supervisor steps ≡ [] → slice_get steps k ≡ Some pair → is_of_supervisor pair.0 ≡ false
no-coming n [] k pair none at = absurd cc
no-coming n (first ∷ steps) zero pair none at = go (is_of_supervisor first.0) refl none
  where
    go : (b : Bool) → is_of_supervisor first.0 ≡ b → (if b then n ∷ places_from (suc n) is_of_supervisor steps else places_from (suc n) is_of_supervisor steps) ≡ [] → is_of_supervisor pair.0 ≡ false
    go true e left = absurd cc
    go false e left = let same : first ≡ pair = cc in subst (λ (x : Step × Reply). is_of_supervisor x.0 ≡ false) same e
no-coming n (first ∷ steps) (suc k) pair none at = go (is_of_supervisor first.0) none (λ left. no-coming (suc n) steps k pair left at)
  where
    go : (b : Bool) → (if b then n ∷ places_from (suc n) is_of_supervisor steps else places_from (suc n) is_of_supervisor steps) ≡ [] → (places_from (suc n) is_of_supervisor steps ≡ [] → is_of_supervisor pair.0 ≡ false) → is_of_supervisor pair.0 ≡ false
    go true left later = absurd cc
    go false left later = later left

lone-first : (run : Run) → places is_of_supervisor run.steps ≡ [] → NoLookBeforeAttach run
lone-first run none attach came = absurd (go attach came)
  where
    found : (o : Option (Step × Reply)) (k : ℕ) → slice_get run.steps k ≡ o → option_map (λ (pair : Step × Reply). pair.0) o ≡ Some Step.Attach → ⊥
    found None k at is = cc
    found (Some pair) k at is =
        let same : pair.0 ≡ Step.Attach = cc in
        true≢false (sym (ap is_of_supervisor same) ∙ no-coming 1 run.steps k pair none at)

    go : (n : ℕ) → step_at run.steps n ≡ Some Step.Attach → ⊥
    go zero is = cc
    go (suc k) is = found (slice_get run.steps k) k refl is

-- The run

-- the run of these steps and rows
abbrev pub run_with : Start → Trace → Book → List Made → List Row → Run
run_with start trace book list rows =
    record { steps = history_made (scene_of start trace book) list; takes = takes_in rows }

-- what was played together is a legal run, where the workers' rows hold, their steps are claimed
-- and counted by the rows, and none of their looks is older than what each knew at its beginning
module _ {H D : Type 0} (Did : Start → ℕ → H → Deed D → Type 0) (start : Start) (trace : Trace) (book : Book) (hands : List H) (list : List Made) (given : List (List D)) (opened : IsOpened start.policy) (trees : length trace ≡ start.trees) (p : PlayedTogether Did start book hands list given) (s : Shares Did start book (length p.attached) hands list given) (who : Maker → Option ℕ) (others : OthersFollow who (length hands) (length start.editors)) (claimed : EachClaims who 0 list (owns s.workers)) (rows : List Row) (each : EachRow (RowHolds (scene_of start trace book) list) 1 trace rows) (counts : (n : ℕ) → times n (flat_map (λ (ns : List ℕ). ns) (owns s.workers)) ≡ times n (flat_map row_own rows)) where
  as_joint : Joint (scene_of start trace book) list (run_with start trace book list rows)
  as_joint =
      record {
        fitted = fits-scene start opened trace (if start.desk then Some book else None) trees list p.fitted;
        rows = rows;
        editors = s.editors;
        desk = s.desk;
        each_row = each;
        each_editor = s.each_editor;
        desk_did = s.desk_did trace trees;
        who = who;
        passes = s.passes;
        claims = s.claims who others claimed;
        closed = s.closed;
        dealt = λ n. s.dealt n ∙ ap (λ m. m + times n (flat_map (λ (ns : List ℕ). ns) s.editors) + times n s.desk) (counts n);
        run_is = refl;
      }

  pub together-legal : Legal (scene_of start trace book) (run_with start trace book list rows)
  together-legal = joint-legal (scene_of start trace book) list (run_with start trace book list rows) as_joint

  -- no look is older than the coming
  above : (number : ℕ) → numbered p.attached number ≡ Some coming → number ≤ length p.attached
  above zero at = omega arith
  above (suc k) at = inside p.attached k at
    where
      inside : (xs : List Made) (j : ℕ) → slice_get xs j ≡ Some coming → suc j ≤ length xs
      inside [] j there = absurd cc
      inside (x ∷ xs) zero there = omega arith
      inside (x ∷ xs) (suc j) there = let rest = inside xs j there in omega (arith, rest)

  module _ (fresh : AllByRecursion (λ (t : Take). AllByRecursion (λ (look : Look). length p.attached ≤ look.version) t.looks) (takes_in rows)) where
    since : (number : ℕ) → numbered p.attached number ≡ Some coming → NoLookBeforeAttach (run_with start trace book list rows)
    since number at =
        let low : number ≤ length p.attached = above number at in
        let came : made_step p.attached number ≡ Some Step.Attach = ap (option_map (λ (made : Made). made.step)) at in
        attached-first (scene_of start trace book) list (run_with start trace book list rows) number as_joint
        (subst (λ (l : List Made). made_step l number ≡ Some Step.Attach) (sym p.begins.1) (made_step-later p.attached p.begins.0 number Step.Attach came))
        (All-map (λ (t : Take). AllByRecursion (λ (look : Look). length p.attached ≤ look.version) t.looks) (λ (t : Take). AllByRecursion (λ (look : Look). number ≤ look.version) t.looks) (takes_in rows)
        (λ t since_it. All-map (λ (look : Look). length p.attached ≤ look.version) (λ (look : Look). number ≤ look.version) t.looks (λ look h. let up : length p.attached ≤ look.version = h in omega (arith, low, up)) since_it)
        fresh)

    pub together-attached : NoLookBeforeAttach (run_with start trace book list rows)
    together-attached = go start.desk refl
      where
        lone : (o : Option Book) → o ≡ None → (let scene : Scene = seat.scene_of start trace o in SupervisorActs scene (run_with start trace book list rows)) → places is_of_supervisor (run_with start trace book list rows).steps ≡ []
        lone None is acts = acts
        lone (Some b) is acts = absurd cc

        go : (supervised : Bool) → start.desk ≡ supervised → NoLookBeforeAttach (run_with start trace book list rows)
        go true is = let (number, at) = p.come is in since number at
        go false is = lone-first (run_with start trace book list rows) (lone (if start.desk then Some book else None) (ap (λ (b : Bool). if b then Some book else None) is) together-legal.supervisor)
