use Rattle.std.proofs.lemmas.Result.{err_from_is_err_and}
use Rattle.tm_rules.specs.Prelude.{load_file}
use Rattle.tm_rep.specs.Tomoyo.{tomoyo_grammar}
use Rattle.tm_policy.proofs.FileLaws.{last_done, last_fails}
use Rattle.tm_policy.proofs.loading.load_file.Goals as goal

-- the last line can't be done
pub returns-in_err-load_line-2-clause-exact : goal.returns-in_err-load_line-2-clause-exact
returns-in_err-load_line-2-clause-exact g c =
    let whole = load_file tomoyo_grammar c.args.file c.args.text.now (g.R.Rep.policy c.args.start) in
    let p = err_from_is_err_and c.from_residual-in_err-load_line-2.result c.from_residual-in_err-load_line-2.ensures.1 in
    rw (p.1, p.2)
    (last_fails c.args.file c.loop-line.number c.loop-line.rest.now whole (g.R.Rep.policy c.loop-line.rep) c.loop-line.cursor c.in_err-load_line-2.field-0.0 c.loop-line.invariant.goes_on c.in_default.ensures c.in_err-load_line-2.ensures.done)

-- the last line is done
pub returns-clause-exact : goal.returns-clause-exact
returns-clause-exact g c =
    last_done c.args.file c.loop-line.number c.loop-line.rest.now (load_file tomoyo_grammar c.args.file c.args.text.now (g.R.Rep.policy c.args.start)) (g.R.Rep.policy c.loop-line.rep) (g.R.Rep.policy c.load_line-2.new.rep) c.loop-line.cursor c.load_line-2.new.cursor
    c.loop-line.invariant.goes_on c.in_default.ensures c.in_ok-load_line-2.ensures.done
