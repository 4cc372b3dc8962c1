use Rattle.std.proofs.Common.{◌≡◌, true, sym, ◌∙◌}
use Rattle.tm_rules.specs.Prelude.{is_execute, word_of}
use Rattle.tm_cond.proofs.attributes.word_of.Goals as goal

pub returns-then-executes-2 : goal.returns-then-executes-2
unfolding word_of
returns-then-executes-2 c =
    let executes : is_execute c.args.request.now ≡ true = sym c.is_execute-executes.ensures ∙ c.if-executes-2.true in
    rw (c.in-Envp.is, executes) (rw (c.envp.ensures) at c.value_of.ensures)
