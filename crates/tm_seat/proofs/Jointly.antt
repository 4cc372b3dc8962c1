-- What was replayed is a legal run.
use Rattle.std.proofs.Common.{◌≡◌, ℕ, List, length, map, Bool, true, false, refl, sym, subst}
use Rattle.std.specs.Prelude.{Option, Some, None, is_some, if◌then◌else◌}
use Rattle.tm_rules.specs.Types.{Book, Made, Maker, Start}
use Rattle.tm_rules.specs.Prelude.{Trace}
use Rattle.tm_take.specs.Written.{IsTrace}
use Rattle.tm_legal.specs.Prelude.{CanPlay, Legal, NoLookBeforeAttach}
use Rattle.tm_joint.specs.Makers.{EachClaims}
use Rattle.tm_seat.specs.declared.tree.PlayedTree.{PlayedTree}
use Rattle.tm_seat.specs.Rows.{row_of}
use Rattle.tm_seat.specs.Dealing.{IsGathered}
use Rattle.tm_seat.specs.Parts.{Deed, WorkerDid}
use Rattle.tm_seat.specs.Replayed.{scene_of, Replayed, run_of, ReplayedRunsAreLegal}
use Rattle.tm_seat.proofs.Moving.{trees-later}
use Rattle.tm_seat.proofs.PartsClaim.{who, others-follow, claims-workers}
use Rattle.tm_seat.proofs.Gathered.{rows-hold, rows-fresh, rows-counted}
use Rattle.tm_seat.proofs.Shares.{owns, OthersFollow, Shares, shares-of, together-legal, together-attached}

stands-is : (supervised : Bool) (book : Book) → is_some (if supervised then Some book else None) ≡ supervised
stands-is false book = refl
stands-is true book = refl

module _ (start : Start) (trace : Trace) (book : Book) (workers : ℕ) (list : List Made) (rows : List PlayedTree) (written : IsTrace trace) (trees : length trace ≡ start.trees) (can : CanPlay (scene_of start trace book)) (r : Replayed start trace book workers list rows) where
  abbrev floor : ℕ
  floor = length r.played.attached

  abbrev its_book : Option Book
  its_book = if start.desk then Some book else None

  s : Shares WorkerDid start book (length r.played.attached) r.hands list r.given
  s = shares-of WorkerDid trees-later start book r.hands list r.given r.played

  gathered : IsGathered (length trace) (map (λ (done : Deed PlayedTree). done.rows) s.workers) rows
  gathered = subst (λ (queues : List (List PlayedTree)). IsGathered (length trace) queues rows) s.given_is r.gathered

  abbrev its_who : Maker → Option ℕ
  its_who = who trace written workers (length start.editors)

  others : OthersFollow its_who (length r.hands) (length start.editors)
  others = subst (λ n. OthersFollow its_who n (length start.editors)) (sym r.dealt.count) (others-follow trace written workers (length start.editors))

  claimed : EachClaims its_who 0 list (owns s.workers)
  claimed = claims-workers trace written workers (length start.editors) start floor list r.hands s.workers r.dealt s.did

  legal : Legal (scene_of start trace book) (run_of start trace book list rows)
  legal =
      together-legal WorkerDid start trace book r.hands list r.given can.opened trees r.played s its_who others claimed (map row_of rows)
      (rows-hold start trace its_book (stands-is start.desk book) trees can.starts workers floor list r.hands r.dealt s.workers s.did rows gathered)
      (rows-counted start trace its_book (stands-is start.desk book) trees can.starts workers floor list r.hands r.dealt s.workers s.did rows gathered)

  attached : NoLookBeforeAttach (run_of start trace book list rows)
  attached =
      together-attached WorkerDid start trace book r.hands list r.given can.opened trees r.played s its_who others claimed (map row_of rows)
      (rows-hold start trace its_book (stands-is start.desk book) trees can.starts workers floor list r.hands r.dealt s.workers s.did rows gathered)
      (rows-counted start trace its_book (stands-is start.desk book) trees can.starts workers floor list r.hands r.dealt s.workers s.did rows gathered)
      (rows-fresh start trace its_book (stands-is start.desk book) trees can.starts workers floor list r.hands r.dealt s.workers s.did rows gathered)

pub replayed-legal : ReplayedRunsAreLegal
replayed-legal start trace book workers list rows written trees can r = (legal start trace book workers list rows written trees can r, attached start trace book workers list rows written trees can r)
