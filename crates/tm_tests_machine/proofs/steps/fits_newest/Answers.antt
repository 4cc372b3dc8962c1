use Rattle.std.proofs.Common.{◌≡◌, subst}
use Rattle.std.specs.Prelude.{Bool, IfOk}
use Rattle.tm_machine.proofs.Offices.{course-tried}
use Rattle.tm_tests_machine.proofs.steps.fits_newest.Goals as goal

pub returns : goal.returns
returns g c =
    subst (λ (tried : Bool). IfOk c.fits.result (λ fits. fits ≡ tried))
    (course-tried c.args.machine.now c.args.made.now c.versions.ensures.after) c.fits.ensures
