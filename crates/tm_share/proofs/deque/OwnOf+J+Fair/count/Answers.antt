use Rattle.tm_share.proofs.Balance.{learns}
use Rattle.tm_share.proofs.deque.OwnOf+J+Fair.count.Goals as goal

pub len_as-requires : goal.len_as-requires
len_as-requires g c = learns _ _
