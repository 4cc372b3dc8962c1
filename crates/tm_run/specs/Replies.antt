-- The reply in a step's line, one word. A word that a reply can't have is read as some reply all
-- the same: what is read counts only where its printed line is the line that was read.
use Rattle.std.specs.Prelude.{if◌then◌else◌, List, [], ◌∷◌, codes, Option}
use Rattle.tm_word.specs.Prelude.{Text, of_word, or_else, pieces, texts_equal}
use Rattle.tm_rules.specs.Types.{AnswerFault, EditReply, Held, LineKind, MakeReply, edit_text, kind_text, kinds}
use Rattle.tm_run.specs.Steps.{fault_text}
use Rattle.tm_run.specs.Fields.{u32_of, u64_of}

-- a domain that was made, or that was there
abbrev pub new_or_old : Text → Text → MakeReply
new_or_old word domain =
    if texts_equal word (codes "new") then MakeReply.New (u32_of domain)
    else MakeReply.Old (u32_of domain)

-- `new` or `old`, and a domain's number after a colon
abbrev pub made_in : List Text → MakeReply
made_in [] = MakeReply.Old 0
made_in (word ∷ []) = MakeReply.Old 0
made_in (word ∷ domain ∷ []) = new_or_old word domain
made_in (word ∷ domain ∷ other ∷ others) = MakeReply.Old 0

-- what became of a name that was to be made, cut at its colon
unfoldable pub make_of : Text → MakeReply
make_of word = made_in (pieces 58 word)

-- `held` and a serial after a colon; anything else for nobody
abbrev pub held_in : List Text → Held
held_in [] = Held.Nobody
held_in (word ∷ []) = Held.Nobody
held_in (word ∷ serial ∷ []) = Held.Serial (u64_of serial)
held_in (word ∷ serial ∷ other ∷ others) = Held.Nobody

-- what became of a question, cut at its colon
unfoldable pub held_of : Text → Held
held_of word = held_in (pieces 58 word)

-- why an answer may have no effect
abbrev pub faults : List AnswerFault
faults = AnswerFault.NoQuery ∷ AnswerFault.Answered ∷ AnswerFault.BadAnswer ∷ []

-- why an answer has no effect; anything else for none
unfoldable pub fault_of : Text → Option AnswerFault
fault_of word = of_word fault_text faults word

-- what is wrong with a policy line
unfoldable pub kind_of : Text → LineKind
kind_of word = or_else (of_word kind_text kinds word) LineKind.KernelDomain

-- what may become of a policy line that isn't bad and isn't done
abbrev pub edits : List EditReply
edits = EditReply.NotManager ∷ EditReply.NoDomain ∷ EditReply.NoProfile ∷ EditReply.NoSuchLine ∷ []

-- what became of a policy line that isn't bad
unfoldable pub edited_of : Text → EditReply
edited_of word = or_else (of_word edit_text edits word) EditReply.Done

-- the pieces of the word: alone, or `bad` and a kind after a colon
abbrev pub edited_in : List Text → EditReply
edited_in [] = EditReply.Done
edited_in (word ∷ []) = edited_of word
edited_in (word ∷ kind ∷ []) = EditReply.BadLine (kind_of kind)
edited_in (word ∷ kind ∷ other ∷ others) = EditReply.Done

-- what became of a policy line, cut at its colon
unfoldable pub edit_of : Text → EditReply
edit_of word = edited_in (pieces 58 word)
