use Rattle.tm_publish.proofs.Adding.{kept_open}
use Rattle.tm_publish.proofs.blank.Blank.new.Goals as goal

pub open-seen-requires : goal.open-seen-requires
open-seen-requires g c = (kept_open, (λ log. tt), c.alone.ensures.1)
