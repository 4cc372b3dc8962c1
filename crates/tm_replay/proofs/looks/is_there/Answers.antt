use Rattle.std.proofs.Common.{sym, subst}
use Rattle.tm_legal.specs.Prelude.{DomainIn, State}
use Rattle.tm_machine.proofs.Offices.{course-state}
use Rattle.tm_replay.proofs.Passes.{stands-there}
use Rattle.tm_replay.proofs.looks.is_there.Goals as goal

pub returns-in-Some : goal.returns-in-Some
returns-in-Some g c =
    λ _. subst (λ (s : State). DomainIn s.policy c.args.domain)
    (sym (course-state c.args.machine.now c.versions.ensures.after))
    (subst (λ p. DomainIn p c.args.domain) c.policy.ensures (stands-there c.policy.result.now c.args.domain c.in-Some.field-0 c.in-Some.ensures.0 c.in-Some.ensures.1))
