use Rattle.std.proofs.Common.{◌≡◌, ap, ◌∙◌, rules}
use Rattle.std.specs.Prelude.{Some}
use Rattle.std.specs.List.{position_from}
use Rattle.tm_rules.specs.Types.{Domain, Entry}
use Rattle.tm_rules.specs.Prelude.{domain_at, same_line}
use Rattle.tm_change_domains.proofs.Domains.{one_domain}
use Rattle.tm_change_domains.proofs.lines.add_acl.Goals as goal

pub add_line-requires-clause-at : goal.add_line-requires-clause-at
add_line-requires-clause-at c domain e =
    let there : domain_at c.args.policy.now c.in-Some.place ≡ Some c.in-Some.domain.now = search rules in
    let same : c.in-Some.domain.now ≡ domain = one_domain c.args.policy.now c.in-Some.place c.in-Some.domain.now domain there e in
    let found : c.entry_place-at.result ≡ position_from (λ (entry : Entry). same_line entry c.args.entry) 0 c.in-Some.domain.now.entries = search rules in
    found ∙ ap (λ (d : Domain). position_from (λ (entry : Entry). same_line entry c.args.entry) 0 d.entries) same
