use Rattle.std.proofs.Common.{◌≡◌, true, sym, ◌∙◌}
use Rattle.tm_rules.specs.Prelude.{is_execute}
use Rattle.tm_policy.proofs.Finds.{found_execute, found_plain}
use Rattle.tm_policy.proofs.searching.search_in.Goals as goal

pub returns-then-is_execute : goal.returns-then-is_execute
returns-then-is_execute g c =
    let h : is_execute c.args.request.now ≡ true = sym c.is_execute.ensures ∙ c.if-is_execute.true in
    rw c.new-asked.ensures at c.first_in_domain.ensures
    ∙ found_execute c.args.namespace.now c.args.domain.now c.args.process.now c.args.request.now c.executed_name-name.result.now h c.executed_name-name.ensures

pub returns-else-is_execute : goal.returns-else-is_execute
returns-else-is_execute g c =
    rw c.new-asked-else-is_execute.ensures at c.first_in_domain-else-is_execute.ensures
    ∙ found_plain c.args.namespace.now c.args.domain.now c.args.process.now c.args.request.now (sym c.is_execute.ensures ∙ c.if-is_execute.false)
