use Rattle.std.proofs.Common.{sym, ap}
use Rattle.tm_legal.specs.Prelude.{Applied}
use Rattle.tm_machine.proofs.Leaving.{leaves_domains, leaves_refused}
use Rattle.tm_machine.proofs.Offices.{course-fits}
use Rattle.tm_machine.proofs.office.MachineOffice.apply.Goals as goal

pub settle-requires : goal.settle-requires
settle-requires g c =
    record { fits = course-fits c.args.self.now c.in_ok-made.made c.versions.ensures.after (rw c.in_ok-made.ensures c.requires) }

pub returns-clause-done : goal.returns-clause-done
returns-clause-done g c =
    sym (ap (λ (done : Applied). done.state) (rw c.in_ok-made.ensures at c.in_ok-settle.ensures.done))

pub returns-clause-domains : goal.returns-clause-domains
returns-clause-domains g c =
    leaves_domains _ _ _ _ (rw c.in_ok-made.ensures at c.in_ok-settle.ensures.done)

pub returns-clause-refused : goal.returns-clause-refused
returns-clause-refused g c =
    leaves_refused _ _ _ _ (rw c.in_ok-made.ensures at c.in_ok-settle.ensures.done)
