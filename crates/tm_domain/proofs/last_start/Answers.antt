use Rattle.std.proofs.Common.{◌≡◌, ◌==◌, false, arith}
use Rattle.std.specs.List.{list_any}
use Rattle.tm_domain.proofs.NameLaws.{last_from, no_space}
use Rattle.tm_domain.proofs.last_start.Goals as goal

pub returns-else-text-start-ne32-clause-value : goal.returns-else-text-start-ne32-clause-value
returns-else-text-start-ne32-clause-value c = last_from c.args.text.now c.loop-start.start c.loop-start.invariant.0 c.loop-start.invariant.1 (λ pos. c.if-text-start-ne32.false)

pub returns-after-loop-start-clause-value : goal.returns-after-loop-start-clause-value
returns-after-loop-start-clause-value c = last_from c.args.text.now c.loop-start.start c.loop-start.invariant.0 c.loop-start.invariant.1 (λ pos. absurd (omega arith))

pub returns-after-loop-start-clause-parent : goal.returns-after-loop-start-clause-parent
returns-after-loop-start-clause-parent c =
    let none : list_any (λ b. b == 32) c.args.text.now ≡ false = no_space c.args.text.now (λ k less. c.loop-start.invariant.1 k (omega arith) less) in
    (λ pos. absurd (omega arith), λ any. absurd cc)
