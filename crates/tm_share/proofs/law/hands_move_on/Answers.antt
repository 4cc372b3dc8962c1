use Rattle.tm_share.proofs.Moves.{moved-not, moved-put, moved-taken, moved-both}
use Rattle.tm_share.proofs.law.hands_move_on.Goals as goal

pub returns-clause-none : goal.returns-clause-none
returns-clause-none g c x = moved-not x

pub returns-clause-put : goal.returns-clause-put
returns-clause-put g c job x y p = moved-put job x y p

pub returns-clause-taken : goal.returns-clause-taken
returns-clause-taken g c job x y t = moved-taken job x y t

pub returns-clause-both : goal.returns-clause-both
returns-clause-both g c p t q u x y z first second = moved-both p t q u x y z first second
