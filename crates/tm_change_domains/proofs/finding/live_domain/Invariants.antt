use Rattle.std.proofs.Common.{◌≡◌, drop}
use Rattle.std.specs.Prelude.{◌&&◌}
use Rattle.std.specs.List.{position_from}
use Rattle.tm_rules.specs.Types.{Domain}
use Rattle.tm_word.specs.Prelude.{texts_equal}
use Rattle.tm_change_domains.proofs.finding.live_domain.Given as goal

abbrev pub invariant-loop-place : goal.invariant-loop-place
invariant-loop-place l = position_from (λ (domain : Domain). domain.live && texts_equal domain.name l.name) l.place (drop l.place l.policy.domains) ≡ position_from (λ (domain : Domain). domain.live && texts_equal domain.name l.name) 0 l.policy.domains
