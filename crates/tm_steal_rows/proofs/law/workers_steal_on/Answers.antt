use Rattle.std.proofs.Common.{sym, subst, append-nil}
use Rattle.tm_steal_rows.specs.Playing.{IsStealing}
use Rattle.tm_steal_rows.proofs.Stealing.{stealing-later, thief-did}
use Rattle.tm_steal_rows.proofs.law.workers_steal_on.Goals as goal

pub returns-clause-follows : goal.returns-clause-follows
returns-clause-follows c start trace old new own begins shift all h =
    subst (IsStealing start trace shift new own) (sym (append-nil all)) (stealing-later start trace shift old new own all begins h)

pub returns-clause-ends : goal.returns-clause-ends
returns-clause-ends c start trace shift floor list own all none low h whose = thief-did start trace shift floor list own all none low h whose
