-- The text of a run.
use Rattle.std.specs.Prelude.{ℕ, ◌+◌, Bool, true, false, List, [], ◌∷◌, ◌++◌, Option, Some, None, decimal, codes}
use Rattle.std.specs.List.{flat_map}
use Rattle.tm_word.specs.Prelude.{Text, spell}
use Rattle.tm_rules.specs.Types.{Answered, EntryPlace, Heard, Look, Mode, Move, Reason, Run, Take, mode_text}
use Rattle.tm_run.specs.Steps.{steps_text}

-- a mode's word, and `none` for a manual transition
abbrev pub mode_word : Option Mode → Text
mode_word None = codes "none"
mode_word (Some mode) = mode_text mode

-- an entry's place in the domain's own list, or the ACL group and the place in its list, from 0
abbrev pub place_text : EntryPlace → Text
place_text (EntryPlace.Own place) = codes "entry:" ++ decimal place
place_text (EntryPlace.Acl group place) = codes "group:" ++ decimal group ++ 58 ∷ decimal place

-- a reason's word; an entry has its place
abbrev pub reason_text : Reason → Text
reason_text (Reason.Entry place) = place_text place
reason_text Reason.Disabled = codes "disabled"
reason_text Reason.Permissive = codes "permissive"
reason_text Reason.Quota = codes "quota"
reason_text Reason.Learn = codes "learn"
reason_text Reason.Ask = codes "ask"
reason_text Reason.NoEntry = codes "no_entry"
reason_text Reason.NotReady = codes "not_ready"
reason_text Reason.NoManual = codes "no_manual"

-- where the process goes; a live domain by its number
abbrev pub move_text : Move → Text
move_text Move.Stay = codes "stay"
move_text (Move.Enter domain) = codes "enter:" ++ decimal domain
move_text Move.Make = codes "make"
move_text Move.Fail = codes "fail"

-- the numbers joined by commas, and `-` for none
abbrev pub numbers_text : List ℕ → Text
numbers_text [] = codes "-"
numbers_text (number ∷ others) = decimal number ++ flat_map (λ other. 44 ∷ decimal other) others

-- what became of the query
abbrev pub answered_text : Answered → Text
answered_text Answered.Yes = codes "yes"
answered_text Answered.No = codes "no"
answered_text Answered.Retry = codes "retry"
answered_text Answered.Detached = codes "detached"

-- and `nobody` where no supervisor was attached
abbrev pub answer_text : Option Answered → Text
answer_text None = codes "nobody"
answer_text (Some answer) = answered_text answer

-- what a look heard, `@` and the version at which it did, and `-` where it asked nothing
abbrev pub heard_text : Option Heard → Text
heard_text None = codes "-"
heard_text (Some heard) = answer_text heard.answer ++ 64 ∷ decimal heard.version

-- the mode, the reason and the move of a look
abbrev pub verdict_text : Look → Text
verdict_text look = mode_word look.mode ++ 32 ∷ reason_text look.reason ++ 32 ∷ move_text look.step

-- the steps that a look made itself, and what it heard
abbrev pub own_and_heard_text : Look → Text
own_and_heard_text look = numbers_text look.own ++ 32 ∷ heard_text look.heard

-- the line of a look
abbrev pub look_text : Look → Text
look_text look =
    codes "look " ++ decimal look.version ++ 32 ∷ verdict_text look ++ 32 ∷ own_and_heard_text look
    ++ 10 ∷ []

-- the audit text as one word, and `-` for none
abbrev pub audit_word : Option Text → Text
audit_word None = codes "-"
audit_word (Some text) = spell text

-- the line of an audit text
abbrev pub audit_line : Option Text → Text
audit_line audit = codes "audit " ++ audit_word audit ++ 10 ∷ []

-- the answer that the process got
abbrev pub granted_text : Bool → Text
granted_text true = codes "granted"
granted_text false = codes "denied"

-- the process and the numbers of its domain before and after
abbrev pub domains_text : Take → Text
domains_text t = decimal t.pid ++ 32 ∷ decimal t.before ++ 32 ∷ decimal t.after

-- the first line of the take with that number
abbrev pub take_line : ℕ → Take → Text
take_line number t =
    codes "take " ++ decimal number ++ 32 ∷ domains_text t ++ 32 ∷ granted_text t.granted ++ 10 ∷ []

-- the lines of the take with that number: its own, its looks in order, its audit text
abbrev pub take_text : ℕ → Take → Text
take_text number t = take_line number t ++ flat_map look_text t.looks ++ audit_line t.audit

-- the lines of takes, of which the first has the number after `count`
abbrev pub takes_text : ℕ → List Take → Text
takes_text count [] = []
takes_text count (t ∷ takes) = take_text (count + 1) t ++ takes_text (count + 1) takes

-- the line `run 1`, the steps by number, and the takes in order, both numbered from 1
unfoldable pub run_text : Run → Text
run_text run = codes "run 1\n" ++ steps_text 0 run.steps ++ takes_text 0 run.takes
