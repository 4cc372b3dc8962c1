use Rattle.std.proofs.Common.{◌≡◌, rules}
use Rattle.std.specs.Prelude.{Some}
use Rattle.tm_rules.specs.Prelude.{live_domain}
use Rattle.tm_change_domains.proofs.Domains.{live_within}
use Rattle.tm_change_domains.proofs.choosing.delete_known.Goals as goal

pub kill-requires : goal.kill-requires
kill-requires c =
    let found : live_domain c.args.policy.now c.args.name.now ≡ Some c.in-Some.place = search rules in
    live_within c.args.policy.now c.args.name.now c.in-Some.place found
