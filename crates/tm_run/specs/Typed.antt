-- What the types of a run's fields give: each number in its range.
use Rattle.std.specs.Prelude.{Bool, true, ◌&&◌, length}
use Rattle.std.specs.List.{list_all}
use Rattle.tm_rules.specs.Types.{Reply, Run, Step, Take}
use Rattle.tm_run.specs.Written.{is_plain, is_wide, is_made, is_held, is_look}

-- the numbers of a step: 64 bits for a serial and a code, 32 for a domain, a retry, an editor and a
-- tree
abbrev pub has_numbers : Step → Bool
has_numbers (Step.Learn domain entry) = is_plain domain
has_numbers (Step.Make domain name) = is_plain domain
has_numbers (Step.Fail domain) = is_plain domain
has_numbers (Step.Ask domain retry line) = is_plain domain && is_plain retry
has_numbers (Step.Answer serial code) = is_wide serial && is_wide code
has_numbers (Step.Edit editor file line) = is_plain editor
has_numbers (Step.End tree) = is_plain tree
has_numbers _ = true

-- the number of a reply, where it has one
abbrev pub replies_number : Reply → Bool
replies_number (Reply.Make reply) = is_made reply
replies_number (Reply.Ask held) = is_held held
replies_number _ = true

-- those of a step and of its reply
abbrev pub is_typed_step : Step × Reply → Bool
is_typed_step pair = has_numbers pair.0 && replies_number pair.1

-- the process and the domains of a take, and all numbers of its looks
abbrev pub is_typed_take : Take → Bool
is_typed_take take =
    is_plain take.pid && is_plain take.before && is_plain take.after && list_all is_look take.looks

-- those of all steps and takes, which have numbers of 64 bits themselves
unfoldable pub is_typed : Run → Bool
is_typed run =
    is_wide (length run.steps) && list_all is_typed_step run.steps && is_wide (length run.takes)
    && list_all is_typed_take run.takes
