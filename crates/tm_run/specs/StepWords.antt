-- What the words of a step's line say. Words that no step has are read as some step, or as none:
-- what is read counts only where its printed line is the line that was read.
use Rattle.std.specs.Prelude.{ℕ, if◌then◌else◌, List, [], ◌∷◌, codes, Option, Some, None, Result, Ok, Err}
use Rattle.tm_word.specs.Prelude.{Text, joined, texts_equal}
use Rattle.tm_rules.specs.Types.{Entry, LineKind, Reply, Step}
use Rattle.tm_rules.specs.Prelude.{DomainName}
use Rattle.tm_line.specs.Domains.{domain_to_end}
use Rattle.tm_entry.specs.Entries.{entry_of}
use Rattle.tm_run.specs.Fields.{u32_of, u64_of, reply_of, file_of}
use Rattle.tm_run.specs.Replies.{make_of, held_of, fault_of, edit_of}

-- a learned line, where its entry is one
abbrev pub learned : ℕ → Text → Result Entry LineKind → Option (Step × Reply)
learned domain reply (Ok entry) = Some (Step.Learn domain entry, Reply.Learn (reply_of reply))
learned domain reply (Err kind) = None

-- a domain, and an entry's words
abbrev pub learn_in : Text → List Text → Option (Step × Reply)
learn_in reply [] = None
learn_in reply (domain ∷ words) = learned (u32_of domain) reply (entry_of words)

-- a name to be made, where it is one
abbrev pub made : ℕ → Text → Result DomainName LineKind → Option (Step × Reply)
made domain reply (Ok name) = Some (Step.Make domain name, Reply.Make (make_of reply))
made domain reply (Err kind) = None

-- a domain, and a domain name
abbrev pub make_in : Text → List Text → Option (Step × Reply)
make_in reply [] = None
make_in reply (domain ∷ words) = made (u32_of domain) reply (domain_to_end words)

-- a domain that is marked
abbrev pub fail_in : Text → List Text → Option (Step × Reply)
fail_in reply [] = None
fail_in reply (domain ∷ []) =
    Some (Step.Fail (u32_of domain), Reply.Fail (texts_equal reply (codes "set")))
fail_in reply (domain ∷ other ∷ others) = None

-- a domain, a retry number, and a line
abbrev pub ask_in : Text → List Text → Option (Step × Reply)
ask_in reply [] = None
ask_in reply (domain ∷ []) = None
ask_in reply (domain ∷ retry ∷ []) = None
ask_in reply (domain ∷ retry ∷ word ∷ words) =
    Some
    (Step.Ask (u32_of domain) (u32_of retry) (joined (word ∷ words)), Reply.Ask (held_of reply))

-- a serial and a code
abbrev pub answer_in : Text → List Text → Option (Step × Reply)
answer_in reply [] = None
answer_in reply (serial ∷ []) = None
answer_in reply (serial ∷ code ∷ []) =
    Some (Step.Answer (u64_of serial) (u64_of code), Reply.Answer (fault_of reply))
answer_in reply (serial ∷ code ∷ other ∷ others) = None

-- the supervisor comes
abbrev pub attach_in : Text → List Text → Option (Step × Reply)
attach_in reply [] = Some (Step.Attach, Reply.Attach (texts_equal reply (codes "done")))
attach_in reply (other ∷ others) = None

-- the supervisor leaves
abbrev pub detach_in : Text → List Text → Option (Step × Reply)
detach_in reply [] = Some (Step.Detach, Reply.Detach (texts_equal reply (codes "done")))
detach_in reply (other ∷ others) = None

-- an editor, a file, and a line
abbrev pub edit_in : Text → List Text → Option (Step × Reply)
edit_in reply [] = None
edit_in reply (editor ∷ []) = None
edit_in reply (editor ∷ file ∷ []) = None
edit_in reply (editor ∷ file ∷ word ∷ words) =
    Some
    (Step.Edit (u32_of editor) (file_of file) (joined (word ∷ words)), Reply.Edit (edit_of reply))

-- a tree that ends
abbrev pub end_in : List Text → Option (Step × Reply)
end_in [] = None
end_in (tree ∷ []) = Some (Step.End (u32_of tree), Reply.End)
end_in (tree ∷ other ∷ others) = None

-- a step's keyword, its reply, and the words after the keyword
unfoldable pub step_in : Text → Text → List Text → Option (Step × Reply)
step_in keyword reply words =
    if texts_equal keyword (codes "learn")
    then learn_in reply words
    else if texts_equal keyword (codes "make")
    then make_in reply words
    else if texts_equal keyword (codes "fail")
    then fail_in reply words
    else if texts_equal keyword (codes "ask")
    then ask_in reply words
    else if texts_equal keyword (codes "answer")
    then answer_in reply words
    else if texts_equal keyword (codes "attach")
    then attach_in reply words
    else if texts_equal keyword (codes "detach")
    then detach_in reply words
    else if texts_equal keyword (codes "edit") then edit_in reply words
    else if texts_equal keyword (codes "end") then end_in words else None

-- `step`, a number, a reply, a keyword, and the words after it
unfoldable pub step_of : List Text → Option (Step × Reply)
step_of [] = None
step_of (first ∷ []) = None
step_of (first ∷ number ∷ []) = None
step_of (first ∷ number ∷ reply ∷ []) = None
step_of (first ∷ number ∷ reply ∷ keyword ∷ words) = step_in keyword reply words
