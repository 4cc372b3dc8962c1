-- The step is the Answer with the book's code.
use Rattle.tm_serve.proofs.serving.answer_query.Goals as goal

pub make-requires : goal.make-requires
make-requires g c = record { fits = λ p xs. rw c.answer_step-step.ensures (g.met.H.DeskHall.answer_fits p xs c.args.query.serial c.code.result) }

pub returns-clause-made : goal.returns-clause-made
returns-clause-made g c = rw (c.answer_step-step.ensures, c.code.ensures) at c.make.ensures.made
