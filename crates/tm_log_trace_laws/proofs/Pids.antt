-- The pids that a record of a log tells are at most 4,194,304.
use Rattle.std.proofs.Common.{◌≡◌, ℕ, ◌-◌, ◌<◌, ◌≤◌, ◌==◌, Bool, true, false, if◌then◌else◌, List, [], ◌∷◌, length, take, refl, arith}
use Rattle.std.specs.Prelude.{Option, Some, None, Result, Ok, Err, codes}
use Rattle.tm_word.specs.Prelude.{Text, after, words_of, ◌>>=◌}
use Rattle.tm_number.specs.Numbers.{plain_of}
use Rattle.tm_number.proofs.NumberLaws.{plain_small}
use Rattle.tm_rules.specs.Types.{LineKind, Proc, Request}
use Rattle.tm_line.specs.Lines.{or_kind, word_at}
use Rattle.tm_cond.specs.Attributes.{ends_in}
use Rattle.tm_trace.specs.Requests.{only_at}
use Rattle.tm_log.specs.declared.faults.Reason.{Reason}
use Rattle.tm_log.specs.declared.header.Header.{Header}
use Rattle.tm_log.specs.declared.record.Record.{Record}
use Rattle.tm_log.specs.Steps.{after_front, plain_text, plain_field, parent_pid_at, pid_at, pid_text}
use Rattle.tm_trace.specs.Processes.{not_zero}
use Rattle.tm_log.specs.Headers.{closed_pid, global_pid_at, ids_at, handler_at, task_at, refused_at, process_at, files_at, facts_at, header_of}
use Rattle.tm_log_trace_laws.specs.Told.{IsNoManual}
use Rattle.tm_log_trace_laws.proofs.Passing.{OkIs, bound, anything, reasoned}
use Rattle.tm_log_trace_laws.proofs.Asks.{asked-no}
use Rattle.tm_log.specs.Records.{asked, told, header_in, domain_in, with_domain, three_lines, record_of}

abbrev IsPid : ℕ → Type 0
IsPid n = n < 4194305

plain : (limit : ℕ) (text : Text) → OkIs (λ n. n < limit) (plain_text limit text)
plain limit text = by (plain_of limit text) refl
  where
    by : (o : Option ℕ) → plain_of limit text ≡ o → OkIs (λ n. n < limit) (or_kind LineKind.Number o)
    by None e = tt
    by (Some n) e = plain_small limit n text e

fronted : {A : Type 0} (P : A → Type 0) (read : Text → Result A LineKind) (o : Option Text) → ((text : Text) → OkIs P (read text)) → OkIs P (after_front read o)
fronted P read None h = tt
fronted P read (Some text) h = h text

worded : {A : Type 0} (P : A → Type 0) (read : Text → Result A LineKind) (words : List Text) → ((text : Text) → OkIs P (read text)) → OkIs (λ (x : A × List Text). P x.0) (word_at read words)
worded P read [] h = tt
worded P read (word ∷ words) h = bound P (λ x. P x.0) (read word) (λ x. Ok (x, words)) (h word) (λ x p. p)

parent-pid : (front : Text) (words : List Text) → OkIs (λ (x : ℕ × List Text). IsPid x.0) (parent_pid_at front words)
parent-pid front words = worded IsPid (plain_field front 4194305) words (λ word. fronted IsPid (plain_text 4194305) (after front word) (plain 4194305))

some-pid : (n : ℕ) → IsPid n → OkIs IsPid (not_zero n)
some-pid n h = by (n == 0)
  where
    by : (b : Bool) → OkIs IsPid (if b then Err LineKind.Number else Ok n)
    by true = tt
    by false = h

pid-at : (front : Text) (words : List Text) → OkIs (λ (x : ℕ × List Text). IsPid x.0) (pid_at front words)
unfolding pid_at
pid-at front words =
    bound (λ (x : ℕ × List Text). IsPid x.0) (λ (x : ℕ × List Text). IsPid x.0) (parent_pid_at front words) (λ read. not_zero read.0 >>= λ pid. Ok (pid, read.1)) (parent-pid front words)
    (λ read p. bound IsPid (λ (x : ℕ × List Text). IsPid x.0) (not_zero read.0) (λ pid. Ok (pid, read.1)) (some-pid read.0 p) (λ pid q. q))

pid-text : (text : Text) → OkIs IsPid (pid_text text)
unfolding pid_text
pid-text text = bound IsPid IsPid (plain_text 4194305 text) not_zero (plain 4194305 text) some-pid

closed-pid : (text : Text) → OkIs IsPid (closed_pid text)
closed-pid text = by (ends_in 41 text)
  where
    by : (b : Bool) → OkIs IsPid (if b then pid_text (take (length text - 1) text) else Err LineKind.Keyword)
    by true = pid-text (take (length text - 1) text)
    by false = tt

global-pid : (words : List Text) → OkIs (λ (x : ℕ × List Text). IsPid x.0) (global_pid_at words)
global-pid words = worded IsPid (λ word. after_front closed_pid (after (codes "(global-pid=") word)) words (λ word. fronted IsPid closed_pid (after (codes "(global-pid=") word) closed-pid)

abbrev HasProc : Proc → Type 0
HasProc process = IsPid process.pid × IsPid process.ppid

task : (words : List Text) → OkIs (λ (x : Proc × List Text). HasProc x.0) (task_at words)
unfolding task_at
task words =
    anything (λ (x : Proc × List Text). HasProc x.0) (only_at (codes "task={") words) (λ head. pid_at (codes "pid=") head >>= λ pid. parent_pid_at (codes "ppid=") pid.1 >>= λ ppid. ids_at ppid.1 >>= λ ids. only_at (codes "}") (handler_at ids.1) >>= λ rest. Ok (record { pid = pid.0; ppid = ppid.0; ids = ids.0 }, rest))
    (λ head. bound (λ (x : ℕ × List Text). IsPid x.0) (λ (x : Proc × List Text). HasProc x.0) (pid_at (codes "pid=") head) (λ pid. parent_pid_at (codes "ppid=") pid.1 >>= λ ppid. ids_at ppid.1 >>= λ ids. only_at (codes "}") (handler_at ids.1) >>= λ rest. Ok (record { pid = pid.0; ppid = ppid.0; ids = ids.0 }, rest)) (pid-at (codes "pid=") head)
    (λ pid p. bound (λ (x : ℕ × List Text). IsPid x.0) (λ (x : Proc × List Text). HasProc x.0) (parent_pid_at (codes "ppid=") pid.1) (λ ppid. ids_at ppid.1 >>= λ ids. only_at (codes "}") (handler_at ids.1) >>= λ rest. Ok (record { pid = pid.0; ppid = ppid.0; ids = ids.0 }, rest)) (parent-pid (codes "ppid=") pid.1)
    (λ ppid q. anything (λ (x : Proc × List Text). HasProc x.0) (ids_at ppid.1) (λ ids. only_at (codes "}") (handler_at ids.1) >>= λ rest. Ok (record { pid = pid.0; ppid = ppid.0; ids = ids.0 }, rest))
    (λ ids. anything (λ (x : Proc × List Text). HasProc x.0) (only_at (codes "}") (handler_at ids.1)) (λ rest. Ok (record { pid = pid.0; ppid = ppid.0; ids = ids.0 }, rest)) (λ rest. (p, q))))))

abbrev HasPair : ℕ × Proc → Type 0
HasPair pair = IsPid pair.0 × HasProc pair.1

process : (words : List Text) → OkIs (λ (x : (ℕ × Proc) × List Text). HasPair x.0) (process_at words)
unfolding process_at
process words =
    bound (λ (x : ℕ × List Text). IsPid x.0) (λ (x : (ℕ × Proc) × List Text). HasPair x.0) (global_pid_at words) (λ global. task_at global.1 >>= λ task. Ok ((global.0, task.0), task.1)) (global-pid words)
    (λ global p. bound (λ (x : Proc × List Text). HasProc x.0) (λ (x : (ℕ × Proc) × List Text). HasPair x.0) (task_at global.1) (λ task. Ok ((global.0, task.0), task.1)) (task global.1) (λ task q. (p, q)))

abbrev HasHeader : Header → Type 0
HasHeader header = IsPid header.global_pid × HasProc header.process

header : (words : List Text) → OkIs HasHeader (header_of words)
unfolding header_of
header words =
    anything HasHeader (refused_at words) (λ refused. process_at refused.1 >>= λ process. files_at process.1 >>= λ files. facts_at files.1 >>= λ facts. Ok (record { refused = refused.0; global_pid = process.0.0; process = process.0.1; first = files.0.0; second = files.0.1; exec = facts.0; target = facts.1 }))
    (λ refused. bound (λ (x : (ℕ × Proc) × List Text). HasPair x.0) HasHeader (process_at refused.1) (λ process. files_at process.1 >>= λ files. facts_at files.1 >>= λ facts. Ok (record { refused = refused.0; global_pid = process.0.0; process = process.0.1; first = files.0.0; second = files.0.1; exec = facts.0; target = facts.1 })) (process refused.1)
    (λ process p. anything HasHeader (files_at process.1) (λ files. facts_at files.1 >>= λ facts. Ok (record { refused = refused.0; global_pid = process.0.0; process = process.0.1; first = files.0.0; second = files.0.1; exec = facts.0; target = facts.1 }))
    (λ files. anything HasHeader (facts_at files.1) (λ facts. Ok (record { refused = refused.0; global_pid = process.0.0; process = process.0.1; first = files.0.0; second = files.0.1; exec = facts.0; target = facts.1 })) (λ facts. p))))

abbrev pub HasRecord : Record → Type 0
HasRecord one = ((one.global_pid ≤ 4194304) × (one.process.pid ≤ 4194304) × (one.process.ppid ≤ 4194304)) × IsNoManual one.request.args

three : (first second third : Text) → OkIs HasRecord (three_lines first second third)
unfolding three_lines header_in with_domain
three first second third =
    bound HasHeader HasRecord (header_in first) (λ header. domain_in second >>= λ domain. with_domain header domain third) (reasoned HasHeader Reason.Header (header_of (words_of first)) (header (words_of first)))
    (λ header h. anything HasRecord (domain_in second) (λ domain. with_domain header domain third)
    (λ domain. bound (λ (request : Request). IsNoManual request.args) HasRecord (asked header (words_of third)) (λ request. Ok (told header domain request)) (asked-no header (words_of third))
    (λ request no_manual. (let a = h.0 in let b = h.1.0 in let c = h.1.1 in ((omega arith, omega arith, omega arith), no_manual)))))

pub record-pids : (texts : List Text) → OkIs HasRecord (record_of texts)
record-pids [] = tt
record-pids (first ∷ []) = tt
record-pids (first ∷ second ∷ []) = tt
record-pids (first ∷ second ∷ third ∷ []) = three first second third
record-pids (first ∷ second ∷ third ∷ fourth ∷ more) = tt
