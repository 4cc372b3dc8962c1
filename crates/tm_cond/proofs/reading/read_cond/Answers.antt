use Rattle.std.proofs.lemmas.Result.{err_from_is_err_and}
use Rattle.tm_cond.specs.Reading.{log_word}
use Rattle.tm_cond.proofs.WrongLaws.{wrong_word}
use Rattle.tm_cond.proofs.reading.read_cond.Goals as goal

-- the word that can't be read is a wrong condition
pub returns-in_err-cond-clause-kind : goal.returns-in_err-cond-clause-kind
returns-in_err-cond-clause-kind c =
    let p = err_from_is_err_and c.from_residual.result c.from_residual.ensures.1 in
    rw (p.1, p.2) (wrong_word (log_word c.bytes.result.now) c.loop-word.cond c.bytes.result.now c.in_err-cond.field-0.0 c.in_err-cond.ensures)
