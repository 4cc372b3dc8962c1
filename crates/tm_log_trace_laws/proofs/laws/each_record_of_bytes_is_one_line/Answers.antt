use Rattle.tm_log_trace_laws.proofs.Ending.{one_line_each_of_bytes}
use Rattle.tm_log_trace_laws.proofs.laws.each_record_of_bytes_is_one_line.Goals as goal

pub returns : goal.returns
returns c = one_line_each_of_bytes
