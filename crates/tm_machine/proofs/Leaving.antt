-- What a step of a machine leaves, by the laws of made steps.
use Rattle.std.proofs.Common.{◌≡◌, subst}
use Rattle.tm_rules.specs.Types.{Reply, Step}
use Rattle.tm_rep.specs.Tomoyo.{tomoyo_grammar}
use Rattle.tm_legal.specs.Prelude.{Applied, State}
use Rattle.tm_made.specs.Domains.{IsKeptIn}
use Rattle.tm_made.specs.Refusals.{IsUnchanged}
use Rattle.tm_made.proofs.Sparing.{domains-are-kept}
use Rattle.tm_made.proofs.Refusing.{refused-steps-change-nothing}
use Rattle.tm_machine.specs.Current.{Makes}
use Rattle.tm_machine.specs.Machine.{LeavesDomains, LeavesAllRefused}

pub leaves_domains : (old : State) (step : Step) (new : State) (reply : Reply)
    → Makes old step new reply → LeavesDomains old step new
leaves_domains old step new reply e d x at =
    subst (λ (done : Applied). IsKeptIn done.state.policy step d x) e
    (domains-are-kept tomoyo_grammar old step d x at)

pub leaves_refused : (old : State) (step : Step) (new : State) (reply : Reply)
    → Makes old step new reply → LeavesAllRefused old step new
leaves_refused old step new reply e said replied refused =
    subst (λ (done : Applied). IsUnchanged tomoyo_grammar old step done.state) e
    (refused-steps-change-nothing tomoyo_grammar old step said replied refused)
