use Rattle.std.proofs.Common.{◌≡◌, ◌<◌, List, length, get_or, true, subst, arith}
use Rattle.tm_rules.specs.Types.{Domain}
use Rattle.tm_policy.proofs.CountLaws.{room}
use Rattle.tm_policy.proofs.counting.count_live.Goals as goal

-- the entries of a live domain have room beside those that were counted
pub overflow_add-entries : goal.overflow_add-entries
overflow_add-entries c =
    let domains : List Domain = c.args.policy.now.domains in
    let live : c.domain-item.result.live ≡ true = cc in
    omega (
      arith,
      room domains c.loop-domain.domain-index c.loop-domain.entries c.len.result c.domain-item.result
          (subst (λ (xs : List Domain). c.loop-domain.domain-index < length xs) c.as_slice-domain-items.ensures c.loop-domain-test.true)
          (subst (λ (xs : List Domain). c.domain-item.result ≡ get_or xs c.loop-domain.domain-index c.domain-item.result) c.as_slice-domain-items.ensures c.domain-item.is)
          live c.len.ensures c.requires.domains c.requires.entries c.loop-domain.invariant.entries,
    )
