use Rattle.std.proofs.Common.{rules, ◌≡◌, ℕ, sym, ◌∙◌}
use Rattle.std.specs.Prelude.{Option, Result, Ok, Err, IfOk, MatchOption}
use Rattle.tm_rules.specs.Types.{Run}
use Rattle.tm_legal.specs.Prelude.{Scene}
use Rattle.tm_verify_laws.specs.Desk.{DeskHolds, DeskFails, desk_fault}
use Rattle.tm_verify_notes.specs.Given.{scene_of, run_of}
use Rattle.tm_verify_laws.proofs.DeskActs.{fault_found}
use Rattle.tm_verify_steps.proofs.ActLaws.{without_book}
use Rattle.tm_verify_steps.proofs.supervised.desk_fault.Goals as goal

-- the same of what a call may give
found_ok : {E : Type 0} (scene : Scene) (run : Run) (r : Result (Option ℕ) E) → IfOk r (λ fault. fault ≡ desk_fault scene run) → IfOk r (λ fault. MatchOption fault (DeskHolds scene run) (DeskFails scene run))
found_ok scene run (Ok fault) e = fault_found scene run fault e
found_ok scene run (Err fault) e = tt

pub returns-in_ok-heights-in-Some : goal.returns-in_ok-heights-in-Some
returns-in_ok-heights-in-Some c = found_ok (scene_of c.args.given.now) (run_of c.args.given.now) c.fault_by_book.result c.fault_by_book.ensures

pub returns-in-None : goal.returns-in-None
returns-in-None c = fault_found (scene_of c.args.given.now) (run_of c.args.given.now) c.first_of_supervisor.result (c.first_of_supervisor.ensures ∙ sym (without_book (scene_of c.args.given.now) (run_of c.args.given.now) (search rules)))
