use Rattle.tm_rules.proofs.LearnedLaws as law
use Rattle.tm_learn.proofs.own_request.Goals as goal

pub returns : goal.returns
returns c = law.own_request
