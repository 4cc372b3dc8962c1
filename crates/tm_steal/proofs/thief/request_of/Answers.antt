use Rattle.tm_steal.proofs.Going.{asked-copied}
use Rattle.tm_steal.proofs.thief.request_of.Goals as goal

pub returns-clause-asked : goal.returns-clause-asked
returns-clause-asked c =
    asked-copied c.copy.result c.args.request.now (c.records_can_be_asked.ensures c.args.board.now.trace.now c.args.place c.args.request.now c.requires.board.1.asked c.requires.there) c.copy.ensures
