-- The replies of steps: what is printed is a word, and is read again; what is read is in its range.
use Rattle.std.proofs.Common.{◌≡◌, Bool, true, false, cond, List, [], ◌∷◌, ◌++◌, Option, Some, None, refl, ap, ◌∙◌, arith}
use Rattle.std.specs.Prelude.{codes, decimal}
use Rattle.tm_word.specs.Prelude.{Text, is_word, pieces, texts_equal}
use Rattle.tm_rules.specs.Types.{AnswerFault, EditReply, FileKind, Held, LineKind, MakeReply, edit_text, policy_text}
use Rattle.tm_run.specs.Steps.{make_text, fail_text, held_text, answer_reply_text, change_text}
use Rattle.tm_run.specs.Fields.{u32_of, file_of}
use Rattle.tm_run.specs.Replies.{made_in, make_of, held_in, held_of, fault_of, kind_of, edited_of, edit_of}
use Rattle.tm_run.specs.Written.{is_made, is_held}
use Rattle.tm_run.proofs.TextLaws.{free_by}
use Rattle.tm_run.proofs.FieldLaws.{plain_wide, plain_is, wide_is, plain_below, wide_below, decimal_solid, front_word, one_piece, cut_front}

-- ---- words

pub made_is : (reply : MakeReply) → is_made reply ≡ true → is_word (make_text reply) ≡ true
made_is (MakeReply.New domain) h = front_word (codes "new:") (decimal domain) refl (decimal_solid domain (plain_wide domain h))
made_is (MakeReply.Old domain) h = front_word (codes "old:") (decimal domain) refl (decimal_solid domain (plain_wide domain h))

pub fail_is : (set : Bool) → is_word (fail_text set) ≡ true
fail_is true = refl
fail_is false = refl

pub held_is : (held : Held) → is_held held ≡ true → is_word (held_text held) ≡ true
held_is Held.Nobody h = refl
held_is (Held.Serial serial) h = front_word (codes "held:") (decimal serial) refl (decimal_solid serial h)

pub fault_is : (fault : Option AnswerFault) → is_word (answer_reply_text fault) ≡ true
fault_is None = refl
fault_is (Some AnswerFault.NoQuery) = refl
fault_is (Some AnswerFault.Answered) = refl
fault_is (Some AnswerFault.BadAnswer) = refl

pub change_is : (changed : Bool) → is_word (change_text changed) ≡ true
change_is true = refl
change_is false = refl

pub edit_is : (reply : EditReply) → is_word (edit_text reply) ≡ true
edit_is EditReply.Done = refl
edit_is EditReply.NotManager = refl
edit_is (EditReply.BadLine LineKind.Keyword) = refl
edit_is (EditReply.BadLine LineKind.Arity) = refl
edit_is (EditReply.BadLine LineKind.Name) = refl
edit_is (EditReply.BadLine LineKind.Number) = refl
edit_is (EditReply.BadLine LineKind.Address) = refl
edit_is (EditReply.BadLine LineKind.Domain) = refl
edit_is (EditReply.BadLine LineKind.Condition) = refl
edit_is (EditReply.BadLine LineKind.Profile) = refl
edit_is (EditReply.BadLine LineKind.Version) = refl
edit_is (EditReply.BadLine LineKind.KernelDomain) = refl
edit_is EditReply.NoDomain = refl
edit_is EditReply.NoProfile = refl
edit_is EditReply.NoSuchLine = refl

pub file_is : (file : FileKind) → is_word (policy_text file) ≡ true
file_is FileKind.Profile = refl
file_is FileKind.Exception = refl
file_is FileKind.Domain = refl
file_is FileKind.Manager = refl

-- ---- what is printed is read again

pub made_again : (reply : MakeReply) → is_made reply ≡ true → make_of (make_text reply) ≡ reply
unfolding make_of
made_again (MakeReply.New domain) h =
    let cut : pieces 58 (codes "new:" ++ decimal domain) ≡ codes "new" ∷ decimal domain ∷ [] = cut_front 58 (codes "new") (decimal domain) (free_by 58 (codes "new") refl) ∙ ap (λ (ps : List Text). codes "new" ∷ ps) (one_piece 58 domain (omega arith) (plain_wide domain h)) in
    ap made_in cut ∙ ap MakeReply.New (plain_is domain h)
made_again (MakeReply.Old domain) h =
    let cut : pieces 58 (codes "old:" ++ decimal domain) ≡ codes "old" ∷ decimal domain ∷ [] = cut_front 58 (codes "old") (decimal domain) (free_by 58 (codes "old") refl) ∙ ap (λ (ps : List Text). codes "old" ∷ ps) (one_piece 58 domain (omega arith) (plain_wide domain h)) in
    ap made_in cut ∙ ap MakeReply.Old (plain_is domain h)

pub set_again : (set : Bool) → texts_equal (fail_text set) (codes "set") ≡ set
set_again true = refl
set_again false = refl

pub held_again : (held : Held) → is_held held ≡ true → held_of (held_text held) ≡ held
unfolding held_of
held_again Held.Nobody h = refl
held_again (Held.Serial serial) h =
    let cut : pieces 58 (codes "held:" ++ decimal serial) ≡ codes "held" ∷ decimal serial ∷ [] = cut_front 58 (codes "held") (decimal serial) (free_by 58 (codes "held") refl) ∙ ap (λ (ps : List Text). codes "held" ∷ ps) (one_piece 58 serial (omega arith) h) in
    ap held_in cut ∙ ap Held.Serial (wide_is serial h)

pub fault_again : (fault : Option AnswerFault) → fault_of (answer_reply_text fault) ≡ fault
unfolding fault_of
fault_again None = refl
fault_again (Some AnswerFault.NoQuery) = refl
fault_again (Some AnswerFault.Answered) = refl
fault_again (Some AnswerFault.BadAnswer) = refl

pub change_again : (changed : Bool) → texts_equal (change_text changed) (codes "done") ≡ changed
change_again true = refl
change_again false = refl

pub edit_again : (reply : EditReply) → edit_of (edit_text reply) ≡ reply
unfolding edit_of edited_of kind_of
edit_again EditReply.Done = refl
edit_again EditReply.NotManager = refl
edit_again (EditReply.BadLine LineKind.Keyword) = refl
edit_again (EditReply.BadLine LineKind.Arity) = refl
edit_again (EditReply.BadLine LineKind.Name) = refl
edit_again (EditReply.BadLine LineKind.Number) = refl
edit_again (EditReply.BadLine LineKind.Address) = refl
edit_again (EditReply.BadLine LineKind.Domain) = refl
edit_again (EditReply.BadLine LineKind.Condition) = refl
edit_again (EditReply.BadLine LineKind.Profile) = refl
edit_again (EditReply.BadLine LineKind.Version) = refl
edit_again (EditReply.BadLine LineKind.KernelDomain) = refl
edit_again EditReply.NoDomain = refl
edit_again EditReply.NoProfile = refl
edit_again EditReply.NoSuchLine = refl

pub file_again : (file : FileKind) → file_of (policy_text file) ≡ file
unfolding file_of
file_again FileKind.Profile = refl
file_again FileKind.Exception = refl
file_again FileKind.Domain = refl
file_again FileKind.Manager = refl

-- ---- what is read is in its range

new_or_old_below : (b : Bool) (domain : Text) → is_made (cond b (MakeReply.New (u32_of domain)) (MakeReply.Old (u32_of domain))) ≡ true
new_or_old_below true domain = plain_below domain
new_or_old_below false domain = plain_below domain

made_in_below : (words : List Text) → is_made (made_in words) ≡ true
made_in_below [] = refl
made_in_below (word ∷ []) = refl
made_in_below (word ∷ domain ∷ []) = new_or_old_below (texts_equal word (codes "new")) domain
made_in_below (word ∷ domain ∷ other ∷ others) = refl

pub made_below : (word : Text) → is_made (make_of word) ≡ true
unfolding make_of
made_below word = made_in_below (pieces 58 word)

held_in_below : (words : List Text) → is_held (held_in words) ≡ true
held_in_below [] = refl
held_in_below (word ∷ []) = refl
held_in_below (word ∷ serial ∷ []) = wide_below serial
held_in_below (word ∷ serial ∷ other ∷ others) = refl

pub held_below : (word : Text) → is_held (held_of word) ≡ true
unfolding held_of
held_below word = held_in_below (pieces 58 word)
