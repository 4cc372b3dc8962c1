use Rattle.tm_share.proofs.Once.{taken-was-put}
use Rattle.tm_share.proofs.law.taken_jobs_were_put.Goals as goal

pub returns : goal.returns
returns g c same itself sound put taken equal x among = taken-was-put same itself sound put taken equal x among
