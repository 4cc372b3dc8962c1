use Rattle.tm_entry.proofs.LearnedLaws.{learned_is}
use Rattle.tm_trace.proofs.EachAsked.{askable, requests_bounded}
use Rattle.tm_trace.proofs.RequestOf.{whole_read}
use Rattle.tm_trace.proofs.TraceRead.{trace_read}
use Rattle.tm_trace.proofs.laws.asked.Goals as goal

pub returns : goal.returns
returns c = record {
  bounded = λ text t e. requests_bounded t (trace_read text t e);
  request = λ words r e. askable r (whole_read words r e);
  learned = learned_is;
}
