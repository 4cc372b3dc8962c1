use Rattle.tm_steal_rows.proofs.Raising.{end-above}
use Rattle.tm_steal_rows.proofs.rows.stands_above.Goals as goal

pub returns-in-Some : goal.returns-in-Some
returns-in-Some c below =
    end-above c.args.end c.in-Some.number c.highest_seen.result c.args.takes.now c.in-Some.is c.highest_seen.ensures below
