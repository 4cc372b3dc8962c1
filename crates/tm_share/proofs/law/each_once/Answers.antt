use Rattle.tm_share.proofs.Once.{each-once}
use Rattle.tm_share.proofs.law.each_once.Goals as goal

pub returns : goal.returns
returns g c number count roots children put taken forest same made p lt = each-once number count roots children put taken forest same made p lt
