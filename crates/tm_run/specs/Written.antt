-- The runs that a text can write.
use Rattle.std.specs.Prelude.{ℕ, ◌^◌, nat_lt, Bool, true, false, not, ◌&&◌, [], length, codes, Option, Some, None}
use Rattle.std.specs.List.{list_all}
use Rattle.tm_word.specs.Prelude.{Text, is_empty, joined, texts_equal, words_of}
use Rattle.tm_rules.specs.Types.{EntryPlace, Heard, Held, Look, MakeReply, Move, Reason, Reply, Run, Step, Take}
use Rattle.tm_rules.specs.Prelude.{is_domain_name}
use Rattle.tm_domain.specs.Names.{is_path}
use Rattle.tm_entry.specs.Entries.{is_entry}

-- a number of 32 bits
abbrev pub is_plain : ℕ → Bool
is_plain number = nat_lt number (2 ^ 32)

-- a number of 64 bits
abbrev pub is_wide : ℕ → Bool
is_wide number = nat_lt number (2 ^ 64)

-- a line has words, and it is these joined by single spaces
unfoldable pub is_line : Text → Bool
is_line text = not (is_empty (words_of text)) && texts_equal (joined (words_of text)) text

-- a step with numbers in their ranges, an entry that a line can write, a right domain name, and a
-- line of words
abbrev pub is_right : Step → Bool
is_right (Step.Learn domain entry) = is_plain domain && is_entry entry
is_right (Step.Make domain name) = is_plain domain && is_domain_name is_path name
is_right (Step.Fail domain) = is_plain domain
is_right (Step.Ask domain retry line) = is_plain domain && is_plain retry && is_line line
is_right (Step.Answer serial code) = is_wide serial && is_wide code
is_right (Step.Edit editor file line) = is_plain editor && is_line line
is_right (Step.End tree) = is_plain tree
is_right _ = true

-- the number of a domain that was made, or was there, in its range
abbrev pub is_made : MakeReply → Bool
is_made (MakeReply.New domain) = is_plain domain
is_made (MakeReply.Old domain) = is_plain domain

-- the serial of a held query in its range
abbrev pub is_held : Held → Bool
is_held Held.Nobody = true
is_held (Held.Serial serial) = is_wide serial

-- the reply to a Learn
abbrev pub is_learn_reply : Reply → Bool
is_learn_reply (Reply.Learn reply) = true
is_learn_reply _ = false

-- the reply to a Make
abbrev pub is_make_reply : Reply → Bool
is_make_reply (Reply.Make reply) = is_made reply
is_make_reply _ = false

-- the reply to a Fail
abbrev pub is_fail_reply : Reply → Bool
is_fail_reply (Reply.Fail set) = true
is_fail_reply _ = false

-- the reply to an Ask
abbrev pub is_ask_reply : Reply → Bool
is_ask_reply (Reply.Ask held) = is_held held
is_ask_reply _ = false

-- the reply to an Answer
abbrev pub is_answer_reply : Reply → Bool
is_answer_reply (Reply.Answer fault) = true
is_answer_reply _ = false

-- the reply to an Attach
abbrev pub is_attach_reply : Reply → Bool
is_attach_reply (Reply.Attach changed) = true
is_attach_reply _ = false

-- the reply to a Detach
abbrev pub is_detach_reply : Reply → Bool
is_detach_reply (Reply.Detach changed) = true
is_detach_reply _ = false

-- the reply to an Edit
abbrev pub is_edit_reply : Reply → Bool
is_edit_reply (Reply.Edit reply) = true
is_edit_reply _ = false

-- the reply to an End
abbrev pub is_end_reply : Reply → Bool
is_end_reply Reply.End = true
is_end_reply _ = false

-- a reply of the step's own kind
abbrev pub is_reply_of : Step → Reply → Bool
is_reply_of (Step.Learn domain entry) reply = is_learn_reply reply
is_reply_of (Step.Make domain name) reply = is_make_reply reply
is_reply_of (Step.Fail domain) reply = is_fail_reply reply
is_reply_of (Step.Ask domain retry line) reply = is_ask_reply reply
is_reply_of (Step.Answer serial code) reply = is_answer_reply reply
is_reply_of Step.Attach reply = is_attach_reply reply
is_reply_of Step.Detach reply = is_detach_reply reply
is_reply_of (Step.Edit editor file line) reply = is_edit_reply reply
is_reply_of (Step.End tree) reply = is_end_reply reply

-- a step with its reply
abbrev pub is_step : Step × Reply → Bool
is_step pair = is_right pair.0 && is_reply_of pair.0 pair.1

-- the place of an entry, and its group, in their ranges
abbrev pub is_place : EntryPlace → Bool
is_place (EntryPlace.Own place) = is_plain place
is_place (EntryPlace.Acl group place) = nat_lt group 256 && is_plain place

abbrev pub is_reason : Reason → Bool
is_reason (Reason.Entry place) = is_place place
is_reason _ = true

-- the number of a live domain in its range
abbrev pub is_move : Move → Bool
is_move (Move.Enter domain) = is_plain domain
is_move _ = true

-- the version of an answer in its range
abbrev pub is_heard : Option Heard → Bool
is_heard None = true
is_heard (Some heard) = is_wide heard.version

-- a look with all its numbers in their ranges
abbrev pub is_look : Look → Bool
is_look look =
    is_wide look.version && is_reason look.reason && is_move look.step && list_all is_wide look.own
    && is_heard look.heard

-- an audit text is made of bytes, at least one, and isn't `-`, which stands for none
abbrev pub is_audit : Option Text → Bool
is_audit None = true
is_audit (Some text) =
    list_all (λ byte. nat_lt byte 256) text && not (texts_equal text (codes "-"))
    && not (texts_equal text [])

-- a take with all its numbers in their ranges, its looks, and an audit text that can be told from
-- none
abbrev pub is_take : Take → Bool
is_take take =
    is_plain take.pid && is_plain take.before && is_plain take.after && list_all is_look take.looks
    && is_audit take.audit

-- the runs that a text can write: numbers in their ranges, also those of the steps and takes, each
-- step with a reply of its own kind, and texts that a line can hold
unfoldable pub is_written : Run → Bool
is_written run =
    is_wide (length run.steps) && list_all is_step run.steps && is_wide (length run.takes)
    && list_all is_take run.takes
