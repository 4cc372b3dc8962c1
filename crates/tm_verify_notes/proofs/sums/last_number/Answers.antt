use Rattle.tm_verify_notes.proofs.SumLaws.{last_number_is}
use Rattle.tm_verify_notes.proofs.sums.last_number.Goals as goal

pub loop-number-init : goal.loop-number-init
loop-number-init c = last_number_is c.args.own.now
