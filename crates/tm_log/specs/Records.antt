-- What a record tells, and why one is left out.
use Rattle.std.specs.Prelude.{ℕ, ◌==◌, ◌||◌, ◌&&◌, Bool, false, if◌then◌else◌, List, [], ◌∷◌, ◌++◌, codes, Option, Some, None, is_some, Result, Ok, Err}
use Rattle.tm_word.specs.Prelude.{Text, Word, words_of, ◌>>=◌}
use Rattle.tm_rules.specs.Types.{Args, Attributes, LineKind, Request, Stat, StatPlace}
use Rattle.tm_rules.specs.Prelude.{DomainName}
use Rattle.tm_line.specs.Domains.{domain_to_end}
use Rattle.tm_trace.specs.Requests.{request_line}
use Rattle.tm_log.specs.declared.blocks.Found.{Found}
use Rattle.tm_log.specs.declared.exec.Exec.{Exec}
use Rattle.tm_log.specs.declared.faults.Reason.{Reason}
use Rattle.tm_log.specs.declared.header.Header.{Header}
use Rattle.tm_log.specs.declared.record.Record.{Record}
use Rattle.tm_log.specs.Steps.{stands}
use Rattle.tm_log.specs.Blocks.{found_stats}
use Rattle.tm_log.specs.Execs.{is_cut, environment_of}
use Rattle.tm_log.specs.Headers.{header_of}
use Rattle.tm_log.specs.Reasons.{for_reason}

-- the kernel set a flag of the domain
abbrev pub is_flag : List Text → Bool
is_flag words =
    stands (codes "use_profile") words || stands (codes "use_group") words
    || stands (codes "quota_exceeded") words || stands (codes "transition_failed") words

-- no record is of such a request
abbrev pub is_task : List Text → Bool
is_task words = stands (codes "task") words

-- no word is left after a request
abbrev pub whole : Args → ℕ → List Text → Result (Args × ℕ) LineKind
whole args perm [] = Ok (args, perm)
whole args perm (word ∷ words) = Err LineKind.Arity

unfoldable pub whole_request : List Text → Result (Args × ℕ) LineKind
whole_request words =
    if is_task words then Err LineKind.Keyword
    else (request_line words >>= λ x. whole x.0 x.1 x.2)

-- what is told of the file of the first name and of the second, and of their folders
abbrev pub first_stats : Found → List Stat
first_stats found = found_stats StatPlace.Path1 StatPlace.Path1Parent found

abbrev pub second_stats : Found → List Stat
second_stats found = found_stats StatPlace.Path2 StatPlace.Path2Parent found

-- what is told of the files that a request names
unfoldable pub stats_of : Args → Header → List Stat
stats_of (Args.Inet kind addr port) header = []
stats_of (Args.Unix kind name) header = []
stats_of (Args.Env name) header = []
stats_of (Args.Manual domain) header = []
stats_of (Args.Path2 first second) header = first_stats header.first ++ second_stats header.second
stats_of _ header = first_stats header.first

-- no words besides what is told of files
abbrev pub no_words : List Stat → Attributes
no_words stats = record { real_path = None; argv = []; envp = []; target = None; stats = stats }

-- of an execute, which has an argument
abbrev pub executed_as : Exec → List Word → List Stat → Result Attributes Reason
executed_as exec [] stats = Err Reason.Arguments
executed_as exec (word ∷ words) stats =
    Ok (record {
      real_path = Some exec.real_path;
      argv = exec.argv;
      envp = environment_of [] exec.envp;
      target = None;
      stats = stats;
    })

abbrev pub executed_if : Option Exec → List Stat → Result Attributes Reason
executed_if None stats = Err Reason.Arguments
executed_if (Some exec) stats = executed_as exec exec.argv stats

unfoldable pub executed : Header → List Stat → Result Attributes Reason
executed header stats = executed_if header.exec stats

-- of a symlink
abbrev pub linked_if : Option Word → List Stat → Result Attributes Reason
linked_if None stats = Err Reason.Arguments
linked_if (Some target) stats =
    Ok (record { real_path = None; argv = []; envp = []; target = Some target; stats = stats })

unfoldable pub linked : Header → List Stat → Result Attributes Reason
linked header stats = linked_if header.target stats

-- the permission 0 of single paths is execute, 8 is symlink
abbrev pub attributes_with : Args → ℕ → Header → List Stat → Result Attributes Reason
attributes_with (Args.Path name) perm header stats =
    if perm == 0 then executed header stats
    else (if perm == 8 then linked header stats else Ok (no_words stats))
attributes_with _ perm header stats = Ok (no_words stats)

unfoldable pub attributes_of : Args → ℕ → Header → Result Attributes Reason
attributes_of args perm header = attributes_with args perm header (stats_of args header)

-- the kernel left words of the execute out
abbrev pub cut_exec : Option Exec → Bool → Bool
cut_exec None executes = false
cut_exec (Some exec) executes = executes && is_cut exec

abbrev pub is_cut_execute : Attributes → Header → Bool
is_cut_execute attributes header = cut_exec header.exec (is_some attributes.real_path)

-- a request with what the header tells of it
unfoldable pub with_attributes : Header → Args → ℕ → Result Request Reason
with_attributes header args perm =
    attributes_of args perm header
    >>= λ attributes. Ok (record { args = args; perm = perm; attributes = attributes })

-- the request of a line, which tells of no flag
unfoldable pub asked : Header → List Text → Result Request Reason
asked header words =
    if is_flag words then Err Reason.Flag
    else (for_reason Reason.Request (whole_request words)
    >>= λ read. with_attributes header read.0 read.1)

-- what a header, a domain and a request tell together
abbrev pub told : Header → DomainName → Request → Record
told header domain request =
    record {
      global_pid = header.global_pid;
      process = header.process;
      domain = domain;
      request = request;
      refused = header.refused;
      cut = is_cut_execute request.attributes header;
    }

-- the header of a line, the domain of a line, and the record of both with the line of a request
unfoldable pub header_in : Text → Result Header Reason
header_in line = for_reason Reason.Header (header_of (words_of line))

unfoldable pub domain_in : Text → Result DomainName Reason
domain_in line = for_reason Reason.Domain (domain_to_end (words_of line))

unfoldable pub with_domain : Header → DomainName → Text → Result Record Reason
with_domain header domain third =
    asked header (words_of third) >>= λ request. Ok (told header domain request)

-- the first reason that fits leaves a record out
unfoldable pub three_lines : Text → Text → Text → Result Record Reason
three_lines first second third = do
  header ← header_in first
  domain ← domain_in second
  with_domain header domain third

abbrev pub record_of : List Text → Result Record Reason
record_of [] = Err Reason.Cut
record_of (first ∷ []) = Err Reason.Cut
record_of (first ∷ second ∷ []) = Err Reason.Cut
record_of (first ∷ second ∷ third ∷ []) = three_lines first second third
record_of (first ∷ second ∷ third ∷ fourth ∷ more) = Err Reason.Long
