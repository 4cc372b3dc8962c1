-- The words of the commands.
use Rattle.std.specs.Prelude.{ℕ, ◌<◌, ◌≤◌, ⊤, ◌^◌, Bool, true, false, List, [], ◌∷◌, Option, Some, None}
use Rattle.std.specs.Prelude.{Result, Ok, Err, codes, if◌then◌else◌, ◌==◌}
use Rattle.std.specs.Str.{bytes_eq}
use Rattle.tm_number.specs.Numbers.{plain_of}
use Rattle.tm_call.specs.declared.words.How.{How}
use Rattle.tm_call.specs.declared.words.Command.{Command}

-- the command that is this word alone
abbrev pub command_of : List ℕ → Result Command ℕ
command_of word =
    if bytes_eq word (codes "print") then Ok Command.Print
    else if bytes_eq word (codes "step") then Ok (Command.Play How.ByTurns false)
    else if bytes_eq word (codes "learn") then Ok (Command.Play How.ByTurns true)
    else if bytes_eq word (codes "verify") then Ok Command.Verify
    else if bytes_eq word (codes "sort") then Ok Command.Sort
    else Err 0

-- no word may follow it
abbrev pub alone : Result Command ℕ → List (List ℕ) → Result Command ℕ
alone (Err place) words = Err place
alone (Ok command) [] = Ok command
alone (Ok command) (word ∷ words) = Err 1

-- a seed: a plain number below 2^64
abbrev pub seed_of : List ℕ → Option ℕ
seed_of word = plain_of (2 ^ 64) word

-- 0 is no size, and no number of workers
abbrev pub not_none : Option ℕ → Option ℕ
not_none None = None
not_none (Some size) = if size == 0 then None else Some size

-- a size: a plain number from 1 to 4,096
abbrev pub size_of : List ℕ → Option ℕ
size_of word = not_none (plain_of 4097 word)

-- the words after a seed: a size, and no other
abbrev pub with_size : ℕ → Option ℕ → List (List ℕ) → Result Command ℕ
with_size seed None words = Err 2
with_size seed (Some size) [] = Ok (Command.Gen seed size)
with_size seed (Some size) (word ∷ words) = Err 3

abbrev pub sized : ℕ → List (List ℕ) → Result Command ℕ
sized seed [] = Err 2
sized seed (word ∷ words) = with_size seed (size_of word) words

-- the words after `gen`: a seed and a size
abbrev pub with_seed : Option ℕ → List (List ℕ) → Result Command ℕ
with_seed None words = Err 1
with_seed (Some seed) words = sized seed words

abbrev pub gen_of : List (List ℕ) → Result Command ℕ
gen_of [] = Err 1
gen_of (word ∷ words) = with_seed (seed_of word) words

-- the command that the words name, or the first place at which no form of a command goes on; each
-- of these commands is done without threads
abbrev pub read_words : List (List ℕ) → Result Command ℕ
read_words [] = Err 0
read_words (word ∷ words) =
    if bytes_eq word (codes "gen") then gen_of words else alone (command_of word) words

-- a number of workers: a plain number from 1 to 16
abbrev pub workers_of : List ℕ → Option ℕ
workers_of word = not_none (plain_of 17 word)

-- the words after the last word of a `replay`: none
abbrev pub with_last : Command → List (List ℕ) → Result Command ℕ
with_last command [] = Ok command
with_last command (word ∷ words) = Err 3

-- the words after `replay` and a number of workers: none, `rerun`, or `steal`
abbrev pub with_workers : Option ℕ → List (List ℕ) → Result Command ℕ
with_workers None words = Err 1
with_workers (Some workers) [] = Ok (Command.Play (How.OnThreads workers) false)
with_workers (Some workers) (word ∷ words) =
    if bytes_eq word (codes "rerun") then with_last (Command.Play (How.OnThreads workers) true) words
    else if bytes_eq word (codes "steal") then with_last (Command.Play (How.Stealing workers) false) words
    else Err 2

-- the words after `replay`: a number of workers, and `rerun` where its run is rerun, or `steal`
-- where processes are stolen
abbrev pub replay_of : List (List ℕ) → Result Command ℕ
replay_of [] = Err 1
replay_of (word ∷ words) = with_workers (workers_of word) words

-- the same where there are threads: the commands are `replay` and those without threads
abbrev pub run_words : List (List ℕ) → Result Command ℕ
run_words [] = Err 0
run_words (word ∷ words) =
    if bytes_eq word (codes "replay") then replay_of words else read_words (word ∷ words)

-- a trace that is played so is played without threads
abbrev pub is_by_turns : How → Bool
is_by_turns How.ByTurns = true
is_by_turns (How.OnThreads workers) = false
is_by_turns (How.Stealing workers) = false

-- a command that is done without threads
abbrev pub is_alone : Command → Bool
is_alone (Command.Play how again) = is_by_turns how
is_alone _ = true

-- where there are threads, there are from 1 to 16 workers
abbrev pub HasWorkers : How → Type 0
HasWorkers How.ByTurns = ⊤
HasWorkers (How.OnThreads workers) = (0 < workers) × (workers ≤ 16)
HasWorkers (How.Stealing workers) = (0 < workers) × (workers ≤ 16)

-- a command that words can name: `gen` has no more trees than 4,096, and `replay` from 1 to 16
-- workers
abbrev pub IsSized : Command → Type 0
IsSized (Command.Play how again) = HasWorkers how
IsSized (Command.Gen seed size) = size ≤ 4096
IsSized _ = ⊤
