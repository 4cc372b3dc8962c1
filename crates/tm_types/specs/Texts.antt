-- The words of closed types, as they are written wherever they are written.
use Rattle.std.specs.Prelude.{List, [], ◌∷◌, ◌++◌, codes}
use Rattle.tm_number.specs.Words.{Text}
use Rattle.tm_types.specs.declared.entry.LineKind.{LineKind}
use Rattle.tm_types.specs.declared.policy.Mode.{Mode}
use Rattle.tm_types.specs.declared.request.TraceKind.{TraceKind}
use Rattle.tm_types.specs.declared.request.ScriptKind.{ScriptKind}
use Rattle.tm_types.specs.declared.step.FileKind.{FileKind}
use Rattle.tm_types.specs.declared.step.LearnReply.{LearnReply}
use Rattle.tm_types.specs.declared.step.EditReply.{EditReply}

-- a mode
abbrev pub mode_text : Mode → Text
mode_text Mode.Disabled = codes "disabled"
mode_text Mode.Learning = codes "learning"
mode_text Mode.Permissive = codes "permissive"
mode_text Mode.Enforcing = codes "enforcing"

abbrev pub modes : List Mode
modes = Mode.Disabled ∷ Mode.Learning ∷ Mode.Permissive ∷ Mode.Enforcing ∷ []

-- the name of a policy file
abbrev pub policy_text : FileKind → Text
policy_text FileKind.Profile = codes "profile"
policy_text FileKind.Exception = codes "exception_policy"
policy_text FileKind.Domain = codes "domain_policy"
policy_text FileKind.Manager = codes "manager"

abbrev pub policies : List FileKind
policies = FileKind.Profile ∷ FileKind.Exception ∷ FileKind.Domain ∷ FileKind.Manager ∷ []

-- what is wrong with a policy line
abbrev pub kind_text : LineKind → Text
kind_text LineKind.Keyword = codes "keyword"
kind_text LineKind.Arity = codes "arity"
kind_text LineKind.Name = codes "name"
kind_text LineKind.Number = codes "number"
kind_text LineKind.Address = codes "address"
kind_text LineKind.Domain = codes "domain"
kind_text LineKind.Condition = codes "condition"
kind_text LineKind.Profile = codes "profile"
kind_text LineKind.Version = codes "version"
kind_text LineKind.KernelDomain = codes "kernel_domain"

abbrev pub kinds : List LineKind
kinds =
    LineKind.Keyword ∷ LineKind.Arity ∷ LineKind.Name ∷ LineKind.Number ∷ LineKind.Address ∷ LineKind.Domain
    ∷ LineKind.Condition ∷ LineKind.Profile ∷ LineKind.Version ∷ LineKind.KernelDomain ∷ []

-- what became of a policy line; a bad one has its kind
abbrev pub edit_text : EditReply → Text
edit_text EditReply.Done = codes "done"
edit_text EditReply.NotManager = codes "not_manager"
edit_text (EditReply.BadLine kind) = codes "bad:" ++ kind_text kind
edit_text EditReply.NoDomain = codes "no_domain"
edit_text EditReply.NoProfile = codes "no_profile"
edit_text EditReply.NoSuchLine = codes "no_line"

-- what became of a learned line
abbrev pub learn_text : LearnReply → Text
learn_text LearnReply.Added = codes "added"
learn_text LearnReply.There = codes "there"
learn_text LearnReply.Quota = codes "quota"
learn_text LearnReply.Mode = codes "mode"

abbrev pub learn_replies : List LearnReply
learn_replies = LearnReply.Added ∷ LearnReply.There ∷ LearnReply.Quota ∷ LearnReply.Mode ∷ []

-- what is wrong with a line of a trace
abbrev pub trace_text : TraceKind → Text
trace_text TraceKind.Keyword = codes "Keyword"
trace_text TraceKind.NoTree = codes "NoTree"
trace_text TraceKind.Number = codes "Number"
trace_text TraceKind.KnownProcess = codes "KnownProcess"
trace_text TraceKind.NoProcess = codes "NoProcess"
trace_text TraceKind.NoDomain = codes "NoDomain"
trace_text TraceKind.Request = codes "Request"
trace_text TraceKind.Attribute = codes "Attribute"
trace_text TraceKind.Arity = codes "Arity"

-- what is wrong with a line of a script
abbrev pub script_text : ScriptKind → Text
script_text ScriptKind.Keyword = codes "Keyword"
script_text ScriptKind.Number = codes "Number"
script_text ScriptKind.Word = codes "Word"
script_text ScriptKind.Domain = codes "Domain"
script_text ScriptKind.NoEditor = codes "NoEditor"
script_text ScriptKind.Twice = codes "Twice"
script_text ScriptKind.NoActivity = codes "NoActivity"
script_text ScriptKind.Arity = codes "Arity"
