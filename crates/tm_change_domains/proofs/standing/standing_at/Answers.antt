use Rattle.std.proofs.Common.{◌≡◌, sym}
use Rattle.std.specs.Prelude.{Some}
use Rattle.std.specs.List.{find}
use Rattle.tm_word.specs.Prelude.{texts_equal}
use Rattle.tm_rules.specs.Types.{Namespace}
use Rattle.tm_rules.specs.Prelude.{namespace_word}
use Rattle.tm_change_domains.proofs.Standings.{no_profile}
use Rattle.tm_change_domains.proofs.standing.standing_at.Goals as goal

pub returns-in-None : goal.returns-in-None
returns-in-None c =
    let found : find (λ (ns : Namespace). texts_equal ns.name (namespace_word c.in_ok-domain.domain.now.name)) c.args.policy.now.namespaces ≡ Some c.in_ok-place.namespace.now = rw (c.namespace.ensures, c.as_slice.ensures) at (sym c.in_ok-place.ensures.found) in
    no_profile c.args.policy.now c.args.number c.in_ok-domain.domain.now c.in_ok-place.namespace.now (sym c.in_ok-domain.ensures) found (sym c.in-None.ensures)
