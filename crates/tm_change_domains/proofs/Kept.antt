-- What doesn't change is kept by every reply.
use Rattle.std.proofs.Common.{refl}
use Rattle.tm_rules.specs.Types.{EditReply}
use Rattle.tm_change_domains.specs.Kept.{KeptIfRefused}

pub kept_same : {A : Type 0} (reply : EditReply) (x : A) → KeptIfRefused reply x x
kept_same EditReply.Done x = tt
kept_same EditReply.NotManager x = refl
kept_same (EditReply.BadLine kind) x = refl
kept_same EditReply.NoDomain x = refl
kept_same EditReply.NoProfile x = refl
kept_same EditReply.NoSuchLine x = refl
