use Rattle.std.proofs.Common.{◌≡◌, ◌+◌, length, drop}
use Rattle.tm_policy.specs.Counts.{live_domains, entries_of}
use Rattle.tm_policy.proofs.counting.count_live.Given as goal

-- what was counted, and what is still to come, are the whole
abbrev pub invariant-loop-domain : goal.invariant-loop-domain
invariant-loop-domain l = record {
  domains : l.domains + length (live_domains (drop l.domain-index l.policy.domains)) ≡ length (live_domains l.policy.domains);
  entries : l.entries + entries_of (live_domains (drop l.domain-index l.policy.domains)) ≡ entries_of (live_domains l.policy.domains);
}
