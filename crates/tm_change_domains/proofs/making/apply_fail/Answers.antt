use Rattle.std.proofs.Common.{◌≡◌, sym, ap, ◌∙◌, rules}
use Rattle.std.specs.Prelude.{Some}
use Rattle.std.specs.Option.{option_copied}
use Rattle.tm_rules.specs.Prelude.{domain_at}
use Rattle.tm_change_domains.proofs.MakeLaws.{failed, failed_there}
use Rattle.tm_change_domains.proofs.making.apply_fail.Goals as goal

pub unreachable-requires : goal.unreachable-requires
unreachable-requires c =
    let there = failed c.args.policy.now c.args.domain c.requires in
    let none = sym c.domain_at.ensures ∙ ap option_copied c.in-None.is in
    let both = sym there.at ∙ none in
    cc

pub returns-clause-done : goal.returns-clause-done
returns-clause-done c =
    let at : domain_at c.args.policy.now c.args.domain ≡ Some c.in-Some.found.now = search rules in
    let is = failed_there c.args.policy.now c.args.domain c.in-Some.found.now c.requires at in
    let set = c.set_failed.ensures.done c.in-Some.found.now at in
    cc (is, set)
