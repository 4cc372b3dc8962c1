use Rattle.std.proofs.Common.{◌≡◌, true, sym, ◌∙◌}
use Rattle.std.specs.Option.{option_copied}
use Rattle.tm_rep.proofs.Executes.{execute_path}
use Rattle.tm_rules.specs.Prelude.{is_execute}
use Rattle.tm_policy.proofs.Finds.{alone_execute, alone_plain}
use Rattle.tm_policy.proofs.searching.search_alone.Goals as goal

pub returns-then-is_execute : goal.returns-then-is_execute
returns-then-is_execute g c name =
    let h : is_execute c.args.request.now ≡ true = sym c.is_execute.ensures ∙ c.if-is_execute.true in
    rw (c.new-asked.ensures, c.requires.groups, c.as_slice.ensures) at c.first_in.ensures
    ∙ alone_execute name c.args.domain.now c.args.process.now c.args.request.now (option_copied c.name.result) h (c.name.ensures ∙ execute_path c.args.request.now h)

pub returns-else-is_execute : goal.returns-else-is_execute
returns-else-is_execute g c name =
    rw (c.new-asked-else-is_execute.ensures, c.requires.groups, c.as_slice-else-is_execute.ensures) at c.first_in-else-is_execute.ensures
    ∙ alone_plain name c.args.domain.now c.args.process.now c.args.request.now (sym c.is_execute.ensures ∙ c.if-is_execute.false)
