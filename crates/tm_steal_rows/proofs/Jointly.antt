-- What was stolen and gathered is a legal run.
use Rattle.std.proofs.Common.{◌≡◌, ◌≤◌, ◌+◌, ◌-◌, ℕ, suc, List, [], ◌∷◌, ◌++◌, length, map, Bool, true, false, refl, sym, ap, ◌∙◌, subst, arith}
use Rattle.std.specs.Prelude.{Option, Some, None, is_some, if◌then◌else◌, slice_get, flat_map}
use Rattle.std.specs.List.{AllByRecursion}
use Rattle.std.proofs.lemmas.Grind.{flat_map-append}
use Rattle.tm_rules.specs.Types.{Book, Look, Made, Maker, Start, Step, Take}
use Rattle.tm_rules.specs.Prelude.{Trace}
use Rattle.tm_legal.specs.Prelude.{CanPlay, Legal, NoLookBeforeAttach, times}
use Rattle.tm_legal.proofs.Asked.{All-append}
use Rattle.tm_made.specs.Made.{made_step}
use Rattle.tm_joint.specs.Joint.{takes_in}
use Rattle.tm_joint.specs.Makers.{EachClaims}
use Rattle.tm_joint.specs.Played.{row_own, RowHolds, EachRow}
use Rattle.tm_joint.proofs.Rows.{All-flat}
use Rattle.tm_seat.specs.declared.tree.PlayedTree.{PlayedTree}
use Rattle.tm_seat.specs.Playing.{LooksSince}
use Rattle.tm_seat.specs.Rows.{row_of}
use Rattle.tm_take.specs.Each.{EachWith}
use Rattle.tm_seat.specs.Parts.{Deed}
use Rattle.tm_seat.specs.Replayed.{scene_of, run_of}
use Rattle.tm_seat.proofs.Lists.{All-at, All-of, All-mapped}
use Rattle.tm_seat.proofs.Moving.{deed_at, DidStays}
use Rattle.tm_seat.proofs.Shares.{owns, OthersFollow, Shares, shares-of, together-legal, together-attached}
use Rattle.tm_steal_rows.specs.declared.played.Played.{Played}
use Rattle.tm_steal_rows.specs.declared.played.PlayedTake.{PlayedTake}
use Rattle.tm_steal_rows.specs.Playing.{Event, TakeIsPlayed, IsPlayed, all_own, own_of, maker_of, IsSince, event_seen, events_of, IsTakeOf, IsOfProcess, ThiefDid, HandDid}
use Rattle.tm_steal_rows.specs.Gathering.{IsOwned, EachOwned, all_given, takes_of, ends_of, homes_of, IsGathered}
use Rattle.tm_steal_rows.specs.Records.{numbered}
use Rattle.tm_steal_rows.specs.Stolen.{Stolen, StolenRunsAreLegal}
use Rattle.tm_seat.proofs.Rising.{rises-since}
use Rattle.tm_steal_rows.proofs.Stealing.{since-lower, thief-later}
use Rattle.tm_steal_rows.proofs.Counting.{ends_own, parts-own, rows-own, rows-taken}
use Rattle.tm_steal_rows.proofs.Gathered.{rows-hold}

stands-is : (supervised : Bool) (book : Book) → is_some (if supervised then Some book else None) ≡ supervised
stands-is false book = refl
stands-is true book = refl

-- Whose the steps are

-- a process's are its owner's, and the first worker ends the trees
abbrev who : (ℕ → Option ℕ) → ℕ → ℕ → Maker → Option ℕ
who owner workers editors (Maker.Process pid) = owner pid
who owner workers editors (Maker.Tree tree) = Some 0
who owner workers editors (Maker.Editor e) = Some (workers + (e - 1))
who owner workers editors Maker.Desk = Some (workers + editors)

others-follow : (owner : ℕ → Option ℕ) (workers editors : ℕ) → OthersFollow (who owner workers editors) workers editors
others-follow owner workers editors = record { editor = λ e. refl; desk = refl }

-- an event is one of a process that this worker owns, or the End of a tree by the first worker
abbrev IsIts : (ℕ → Option ℕ) → ℕ → Event → Type 0
IsIts owner worker (Event.Take played) = owner played.stood.process.pid ≡ Some worker
IsIts owner worker (Event.End tree number) = worker ≡ 0

owned-takes : (owner : ℕ → Option ℕ) (worker pid : ℕ) (takes : List PlayedTake) → owner pid ≡ Some worker → AllByRecursion (IsTakeOf pid) takes → AllByRecursion (IsIts owner worker) (map Event.Take takes)
owned-takes owner worker pid [] is h = tt
owned-takes owner worker pid (played ∷ takes) is h = (ap owner h.0 ∙ is, owned-takes owner worker pid takes is h.1)

owned-events : (owner : ℕ → Option ℕ) (worker : ℕ) (all : List Played) → AllByRecursion IsOfProcess all → AllByRecursion (IsOwned owner worker) all → AllByRecursion (IsIts owner worker) (events_of all)
owned-events owner worker [] whose h = tt
owned-events owner worker (Played.Process process ∷ all) whose h =
    All-append (IsIts owner worker) (map Event.Take process.takes.items) (events_of all) (owned-takes owner worker process.pid process.takes.items h.0 whose.0) (owned-events owner worker all whose.1 h.1)
owned-events owner worker (Played.End tree number ∷ all) whose h = (h.0, owned-events owner worker all whose.1 h.1)

owned-makers : (start : Start) (trace : Trace) (list : List Made) (owner : ℕ → Option ℕ) (workers editors worker : ℕ) (all : List Event) → AllByRecursion (IsPlayed start trace list) all → AllByRecursion (IsIts owner worker) all → AllByRecursion (λ maker. who owner workers editors maker ≡ Some worker) (map maker_of all)
owned-makers start trace list owner workers editors worker [] played h = tt
owned-makers start trace list owner workers editors worker (Event.Take one ∷ all) played h = (ap owner played.0.pid ∙ h.0, owned-makers start trace list owner workers editors worker all played.1 h.1)
owned-makers start trace list owner workers editors worker (Event.End tree number ∷ all) played h = (ap Some (sym h.0), owned-makers start trace list owner workers editors worker all played.1 h.1)

module _ {H : Type 0} (start : Start) (trace : Trace) (floor : ℕ) (list : List Made) where
  -- each worker's steps are claimed by its pass
  claims-workers : (owner : ℕ → Option ℕ) (workers editors worker : ℕ) (hands : List H) (deeds : List (Deed Played)) → EachWith (λ (hand : H) done. HandDid trace start floor hand (deed_at list done)) hands deeds → EachOwned owner worker (map (λ (done : Deed Played). done.rows) deeds) → EachClaims (who owner workers editors) worker list (owns deeds)
  claims-workers owner workers editors worker [] [] did owned = tt
  claims-workers owner workers editors worker [] (done ∷ deeds) did owned = absurd did
  claims-workers owner workers editors worker (hand ∷ hands) [] did owned = absurd did
  claims-workers owner workers editors worker (hand ∷ hands) (done ∷ deeds) did owned = (
    did.0.claims (who owner workers editors) worker (owned-makers start trace list owner workers editors worker (events_of done.rows) did.0.each (owned-events owner worker done.rows did.0.whose owned.0)),
    claims-workers owner workers editors (suc worker) hands deeds did.1 owned.1,
  )

  -- what holds of each worker's holds of all
  all-of-given : (P : Event → Type 0) (hands : List H) (deeds : List (Deed Played)) → ((done : Deed Played) → ThiefDid start trace floor (deed_at list done) → AllByRecursion P (events_of done.rows)) → EachWith (λ (hand : H) done. HandDid trace start floor hand (deed_at list done)) hands deeds → AllByRecursion P (all_given (map (λ (done : Deed Played). done.rows) deeds))
  all-of-given P hands deeds of did = All-flat P events_of (map (λ (done : Deed Played). done.rows) deeds) (go hands deeds did)
    where
      go : (hs : List H) (ds : List (Deed Played)) → EachWith (λ (hand : H) done. HandDid trace start floor hand (deed_at list done)) hs ds → AllByRecursion (λ (all : List Played). AllByRecursion P (events_of all)) (map (λ (done : Deed Played). done.rows) ds)
      go [] [] h = tt
      go [] (done ∷ ds) h = absurd h
      go (hand ∷ hs) [] h = absurd h
      go (hand ∷ hs) (done ∷ ds) h = (of done h.0, go hs ds h.1)

  -- the steps of all workers
  given-own : (hands : List H) (deeds : List (Deed Played)) → EachWith (λ (hand : H) done. HandDid trace start floor hand (deed_at list done)) hands deeds → flat_map (λ (ns : List ℕ). ns) (owns deeds) ≡ all_own (all_given (map (λ (done : Deed Played). done.rows) deeds))
  given-own [] [] h = refl
  given-own [] (done ∷ deeds) h = absurd h
  given-own (hand ∷ hands) [] h = absurd h
  given-own (hand ∷ hands) (done ∷ deeds) h =
      ap (λ (ns : List ℕ). ns ++ flat_map (λ (ms : List ℕ). ms) (owns deeds)) h.0.own_is
      ∙ ap (λ (ns : List ℕ). all_own (events_of done.rows) ++ ns) (given-own hands deeds h.1)
      ∙ sym (flat_map-append own_of (events_of done.rows) (all_given (map (λ (d : Deed Played). d.rows) deeds)))

-- the takes and the Ends of what was played

takes-all : (P : Event → Type 0) (Q : PlayedTake → Type 0) → ((played : PlayedTake) → P (Event.Take played) → Q played) → (all : List Event) → AllByRecursion P all → AllByRecursion Q (takes_of all)
takes-all P Q of [] h = tt
takes-all P Q of (Event.Take played ∷ all) h = (of played h.0, takes-all P Q of all h.1)
takes-all P Q of (Event.End tree number ∷ all) h = takes-all P Q of all h.1

ends-all : (start : Start) (trace : Trace) (list : List Made) (all : List Event) → AllByRecursion (IsPlayed start trace list) all → AllByRecursion (λ (e : ℕ × ℕ). made_step list e.1 ≡ Some (Step.End e.0)) (ends_of all)
ends-all start trace list [] h = tt
ends-all start trace list (Event.Take played ∷ all) h = ends-all start trace list all h.1
ends-all start trace list (Event.End tree number ∷ all) h = (h.0, ends-all start trace list all h.1)

module _ (H : Type 0) (start : Start) (trace : Trace) (book : Book) (hands : List H) (list : List Made) (rows : List PlayedTree) (trees : length trace ≡ start.trees) (can : CanPlay (scene_of start trace book)) (r : Stolen start trace book hands list rows) where
  abbrev floor : ℕ
  floor = length r.played.attached

  abbrev its_book : Option Book
  its_book = if start.desk then Some book else None

  abbrev Did : Start → ℕ → H → Deed Played → Type 0
  Did = HandDid trace

  stays : DidStays (HandDid {H = H} trace)
  stays start' floor' hand done list' begins h = thief-later start' trace floor' done list' begins h

  s : Shares (HandDid {H = H} trace) start book (length r.played.attached) hands list r.given
  s = shares-of (HandDid {H = H} trace) stays start book hands list r.given r.played

  gathered : IsGathered trace (homes_of start.policy trace) start.desk (map (λ (done : Deed Played). done.rows) s.workers) rows
  gathered = subst (λ (given : List (List Played)). IsGathered trace (homes_of start.policy trace) start.desk given rows) s.given_is r.gathered

  abbrev all : List Event
  all = all_given (map (λ (done : Deed Played). done.rows) s.workers)

  abbrev its_who : Maker → Option ℕ
  its_who = who gathered.owner (length hands) (length start.editors)

  claimed : EachClaims its_who 0 list (owns s.workers)
  claimed = claims-workers start trace floor list gathered.owner (length hands) (length start.editors) 0 hands s.workers s.did gathered.owned

  played : AllByRecursion (IsPlayed start trace list) all
  played = all-of-given start trace floor list (IsPlayed start trace list) hands s.workers (λ done did. did.each) s.did

  since : AllByRecursion (IsSince floor) all
  since = all-of-given start trace floor list (IsSince floor) hands s.workers (λ done did. rises-since IsSince event_seen since-lower floor (events_of done.rows) did.rises) s.did

  -- a take at its place among them
  at-place : (Q : PlayedTake → Type 0) (k : ℕ) (one : PlayedTake) → AllByRecursion Q (takes_of all) → slice_get gathered.takes k ≡ Some one → Q one
  at-place Q k one h at = let (place, there) = gathered.same.among k one at in All-at Q (takes_of all) place one h there

  each : EachRow (RowHolds (scene_of start trace book) list) 1 trace (map row_of rows)
  each =
      rows-hold start trace its_book (stands-is start.desk book) trees list 1 trace gathered.takes (ends_of all) rows
      (λ j tree is. let same : suc j ≡ 1 + j = omega arith in subst (λ (i : ℕ). numbered trace i ≡ Some tree) same is)
      (All-of (TakeIsPlayed start trace list) gathered.takes (λ k one at. at-place (TakeIsPlayed start trace list) k one (takes-all (IsPlayed start trace list) (TakeIsPlayed start trace list) (λ p h. h) all played) at))
      (ends-all start trace list all played)
      gathered.rows_are

  counts : (n : ℕ) → times n (flat_map (λ (ns : List ℕ). ns) (owns s.workers)) ≡ times n (flat_map row_own (map row_of rows))
  counts n =
      ap (times n) (given-own start trace floor list hands s.workers s.did)
      ∙ parts-own n all
      ∙ ap (λ m. m + times n (ends_own (ends_of all))) (gathered.same.counted n)
      ∙ rows-own n start.desk 1 trace (homes_of start.policy trace) gathered.takes (ends_of all) rows gathered.rows_are

  fresh : AllByRecursion (λ (t : Take). AllByRecursion (λ (look : Look). floor ≤ look.version) t.looks) (takes_in (map row_of rows))
  fresh =
      subst (λ (takes : List Take). AllByRecursion (λ (t : Take). AllByRecursion (λ (look : Look). floor ≤ look.version) t.looks) takes) (sym (rows-taken start.desk 1 trace (homes_of start.policy trace) gathered.takes (ends_of all) rows gathered.rows_are))
      (All-mapped (λ (t : Take). AllByRecursion (λ (look : Look). floor ≤ look.version) t.looks) (λ (p : PlayedTake). p.take) gathered.takes
      (All-of (λ (p : PlayedTake). LooksSince floor p.take) gathered.takes (λ k one at. at-place (λ (p : PlayedTake). LooksSince floor p.take) k one (takes-all (IsSince floor) (λ (p : PlayedTake). LooksSince floor p.take) (λ p h. h) all since) at)))

  legal : Legal (scene_of start trace book) (run_of start trace book list rows)
  legal =
      together-legal (HandDid {H = H} trace) start trace book hands list r.given can.opened trees r.played s its_who (others-follow gathered.owner (length hands) (length start.editors)) claimed (map row_of rows) each counts

  attached : NoLookBeforeAttach (run_of start trace book list rows)
  attached =
      together-attached (HandDid {H = H} trace) start trace book hands list r.given can.opened trees r.played s its_who (others-follow gathered.owner (length hands) (length start.editors)) claimed (map row_of rows) each counts fresh

pub stolen-legal : (H : Type 0) → StolenRunsAreLegal H
stolen-legal H start trace book hands list rows trees can r = (legal H start trace book hands list rows trees can r, attached H start trace book hands list rows trees can r)
