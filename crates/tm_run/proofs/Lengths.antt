-- How long the words of a run's lines are at most.
use Rattle.std.proofs.Common.{◌≤◌, length, arith}
use Rattle.tm_rules.specs.Types.{AnswerFault, Answered, EditReply, FileKind, LearnReply, LineKind, Mode, edit_text, learn_text, mode_text, policy_text}
use Rattle.tm_run.specs.RunText.{answered_text}
use Rattle.tm_run.specs.Steps.{fault_text}

pub mode_length : (mode : Mode) → length (mode_text mode) ≤ 10
mode_length Mode.Disabled = omega arith
mode_length Mode.Learning = omega arith
mode_length Mode.Permissive = omega arith
mode_length Mode.Enforcing = omega arith

pub policy_length : (file : FileKind) → length (policy_text file) ≤ 16
policy_length FileKind.Profile = omega arith
policy_length FileKind.Exception = omega arith
policy_length FileKind.Domain = omega arith
policy_length FileKind.Manager = omega arith

pub learn_length : (reply : LearnReply) → length (learn_text reply) ≤ 5
learn_length LearnReply.Added = omega arith
learn_length LearnReply.There = omega arith
learn_length LearnReply.Quota = omega arith
learn_length LearnReply.Mode = omega arith

pub edit_length : (reply : EditReply) → length (edit_text reply) ≤ 17
edit_length EditReply.Done = omega arith
edit_length EditReply.NotManager = omega arith
edit_length (EditReply.BadLine LineKind.Keyword) = omega arith
edit_length (EditReply.BadLine LineKind.Arity) = omega arith
edit_length (EditReply.BadLine LineKind.Name) = omega arith
edit_length (EditReply.BadLine LineKind.Number) = omega arith
edit_length (EditReply.BadLine LineKind.Address) = omega arith
edit_length (EditReply.BadLine LineKind.Domain) = omega arith
edit_length (EditReply.BadLine LineKind.Condition) = omega arith
edit_length (EditReply.BadLine LineKind.Profile) = omega arith
edit_length (EditReply.BadLine LineKind.Version) = omega arith
edit_length (EditReply.BadLine LineKind.KernelDomain) = omega arith
edit_length EditReply.NoDomain = omega arith
edit_length EditReply.NoProfile = omega arith
edit_length EditReply.NoSuchLine = omega arith

pub answered_length : (answer : Answered) → length (answered_text answer) ≤ 8
answered_length Answered.Yes = omega arith
answered_length Answered.No = omega arith
answered_length Answered.Retry = omega arith
answered_length Answered.Detached = omega arith

pub fault_length : (fault : AnswerFault) → length (fault_text fault) ≤ 8
fault_length AnswerFault.NoQuery = omega arith
fault_length AnswerFault.Answered = omega arith
fault_length AnswerFault.BadAnswer = omega arith
