-- The header of a record, as Linux 6.1 prints it.
use Rattle.std.specs.Prelude.{ℕ, ◌-◌, ◌==◌, length, take, ◌||◌, ◌&&◌, Bool, true, false, not, if◌then◌else◌, List, [], ◌∷◌, codes, Option, Some, None, Result, Ok, Err}
use Rattle.tm_word.specs.Prelude.{Text, Word, after, begins_with_byte, of_word, texts_equal, ◌>>=◌}
use Rattle.tm_rules.specs.Types.{Ids, LineKind, Mode, Proc, mode_text, modes}
use Rattle.tm_line.specs.Lines.{word_at, ended}
use Rattle.tm_cond.specs.Attributes.{ends_in}
use Rattle.tm_trace.specs.Requests.{only_at}
use Rattle.tm_log.specs.declared.blocks.Found.{Found}
use Rattle.tm_log.specs.declared.exec.Exec.{Exec}
use Rattle.tm_log.specs.declared.header.Header.{Header}
use Rattle.tm_log.specs.Steps.{after_front, number_at, id_at, parent_pid_at, pid_at, pid_text, quoted_at}
use Rattle.tm_log.specs.Blocks.{found_at}
use Rattle.tm_log.specs.Execs.{exec_block}

-- The date: one word between two `#`, or two words of which the first begins with one and the
-- second ends with one

abbrev pub is_whole_date : Text → Bool
is_whole_date [] = false
is_whole_date (b ∷ text) = b == 35 && ends_in 35 text

abbrev pub date_end : List Text → Result (List Text) LineKind
date_end [] = Err LineKind.Arity
date_end (word ∷ words) = if ends_in 35 word then Ok words else Err LineKind.Keyword

abbrev pub date_at : List Text → Result (List Text) LineKind
date_at [] = Err LineKind.Arity
date_at (word ∷ words) =
    if is_whole_date word then Ok words
    else (if begins_with_byte 35 word then date_end words else Err LineKind.Keyword)

-- The mode, whether it is enforcing, and whether the request was granted

abbrev pub is_enforcing : Mode → Bool
is_enforcing Mode.Enforcing = true
is_enforcing _ = false

abbrev pub known_mode : Option Mode → Result Bool LineKind
known_mode (Some mode) = Ok (is_enforcing mode)
known_mode None = Err LineKind.Keyword

unfoldable pub mode_value : Text → Result Bool LineKind
mode_value text = known_mode (of_word mode_text modes text)

abbrev pub mode_at : List Text → Result (Bool × List Text) LineKind
mode_at words = word_at (λ word. after_front mode_value (after (codes "mode=") word)) words

abbrev pub granted_text : Text → Result Bool LineKind
granted_text word =
    if texts_equal word (codes "granted=yes") then Ok true
    else (if texts_equal word (codes "granted=no") then Ok false else Err LineKind.Keyword)

abbrev pub granted_at : List Text → Result (Bool × List Text) LineKind
granted_at words = word_at granted_text words

-- The process

-- the digits before a closing bracket
abbrev pub closed_pid : Text → Result ℕ LineKind
closed_pid text =
    if ends_in 41 text then pid_text (take (length text - 1) text) else Err LineKind.Keyword

abbrev pub global_pid_at : List Text → Result (ℕ × List Text) LineKind
global_pid_at words =
    word_at (λ word. after_front closed_pid (after (codes "(global-pid=") word)) words

-- an id of a user and the one of a group
unfoldable pub both_at : Text → Text → List Text → Result ((ℕ × ℕ) × List Text) LineKind
both_at user group words = do
  user_ ← id_at user words
  group_ ← id_at group user_.1
  Ok ((user_.0, group_.0), group_.1)

unfoldable pub ids_at : List Text → Result (Ids × List Text) LineKind
ids_at words = do
  real ← both_at (codes "uid=") (codes "gid=") words
  effective ← both_at (codes "euid=") (codes "egid=") real.1
  saved ← both_at (codes "suid=") (codes "sgid=") effective.1
  fs ← both_at (codes "fsuid=") (codes "fsgid=") saved.1
  Ok (
    record {
      uid = real.0.0;
      euid = effective.0.0;
      suid = saved.0.0;
      fsuid = fs.0.0;
      gid = real.0.1;
      egid = effective.0.1;
      sgid = saved.0.1;
      fsgid = fs.0.1;
    },
    fs.1,
  )

-- what TOMOYO 1.8 tells of execute handlers is passed over
abbrev pub handler_at : List Text → List Text
handler_at [] = []
handler_at (word ∷ words) =
    if texts_equal word (codes "type=execute_handler")
    || texts_equal word (codes "type!=execute_handler")
    then words
    else word ∷ words

unfoldable pub task_at : List Text → Result (Proc × List Text) LineKind
task_at words = do
  head ← only_at (codes "task={") words
  pid ← pid_at (codes "pid=") head
  ppid ← parent_pid_at (codes "ppid=") pid.1
  ids ← ids_at ppid.1
  rest ← only_at (codes "}") (handler_at ids.1)
  Ok (record { pid = pid.0; ppid = ppid.0; ids = ids.0 }, rest)

-- What the request is about

unfoldable pub target_at : List Text → Result (Option Word × List Text) LineKind
target_at [] = Ok (None, [])
target_at (word ∷ words) =
    quoted_at (codes "symlink.target=") (word ∷ words) >>= λ x. Ok (Some x.0, x.1)

-- an execute, or else the target of a symlink, at the end
abbrev pub after_exec : Option Exec → List Text → Result (Option Exec × Option Word) LineKind
after_exec (Some exec) words = ended (Some exec, None) words
after_exec None words = target_at words >>= λ x. ended (None, x.0) x.1

unfoldable pub facts_at : List Text → Result (Option Exec × Option Word) LineKind
facts_at words = exec_block words >>= λ x. after_exec x.0 x.1

-- The header

-- the date, the profile, the mode and whether the request was granted: it was refused where the
-- mode is enforcing and it wasn't granted
unfoldable pub refused_at : List Text → Result (Bool × List Text) LineKind
refused_at words = do
  date ← date_at words
  profile ← number_at (codes "profile=") 256 date
  mode ← mode_at profile.1
  granted ← granted_at mode.1
  Ok (mode.0 && not granted.0, granted.1)

-- the pid in the first namespace, and the process in its own
unfoldable pub process_at : List Text → Result ((ℕ × Proc) × List Text) LineKind
process_at words = do
  global ← global_pid_at words
  task ← task_at global.1
  Ok ((global.0, task.0), task.1)

unfoldable pub first_at : List Text → Result (Found × List Text) LineKind
first_at words = found_at (codes "path1={") (codes "path1.parent={") words

unfoldable pub second_at : List Text → Result (Found × List Text) LineKind
second_at words = found_at (codes "path2={") (codes "path2.parent={") words

-- the files of the first and of the second name
unfoldable pub files_at : List Text → Result ((Found × Found) × List Text) LineKind
files_at words = do
  first ← first_at words
  second ← second_at first.1
  Ok ((first.0, second.0), second.1)

unfoldable pub header_of : List Text → Result Header LineKind
header_of words = do
  refused ← refused_at words
  process ← process_at refused.1
  files ← files_at process.1
  facts ← facts_at files.1
  Ok (record {
    refused = refused.0;
    global_pid = process.0.0;
    process = process.0.1;
    first = files.0.0;
    second = files.0.1;
    exec = facts.0;
    target = facts.1;
  })
