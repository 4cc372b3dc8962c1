-- The lines of steps: their words are read again, and what is read can be written.
use Rattle.std.proofs.Common.{◌≡◌, ℕ, ◌&&◌, Bool, true, false, cond, not, List, [], ◌∷◌, ◌++◌, Option, Some, None, Result, Ok, Err, refl, subst}
use Rattle.std.specs.Prelude.{codes, decimal}
use Rattle.std.specs.List.{list_all}
use Rattle.std.proofs.lemmas.List.Splits.{join_with_byte-slice_split}
use Rattle.tm_word.specs.Prelude.{Text, is_empty, is_word, joined, texts_equal, words_of}
use Rattle.tm_word.proofs.WordLaws.{words_are}
use Rattle.tm_rules.specs.Types.{AnswerFault, EditReply, Entry, FileKind, Held, LearnReply, LineKind, MakeReply, Reply, Step, policy_text}
use Rattle.tm_rules.specs.Prelude.{DomainName, is_domain_name}
use Rattle.tm_domain.specs.Names.{is_path}
use Rattle.tm_domain.proofs.NameLaws.{same_texts, texts_same}
use Rattle.tm_line.specs.Domains.{domain_to_end}
use Rattle.tm_line.specs.DomainWords.{domain_parts}
use Rattle.tm_line.proofs.Steps.{both, all}
use Rattle.tm_line.proofs.DomainLaws.{to_end_again, to_end_right}
use Rattle.tm_line.proofs.WholeLaws.{words_again, parts_are}
use Rattle.tm_entry.specs.Entries.{entry_of, entry_words, is_entry}
use Rattle.tm_entry.proofs.EntryLaws.{entry_again, entry_read}
use Rattle.tm_entry.proofs.EntryText.{entry_are}
use Rattle.tm_run.specs.Steps.{reply_text, step_text, step_line}
use Rattle.tm_run.specs.Fields.{u32_of}
use Rattle.tm_run.specs.StepWords.{learned, learn_in, made, make_in, fail_in, ask_in, answer_in, attach_in, detach_in, edit_in, end_in, step_in, step_of}
use Rattle.tm_run.specs.Written.{is_plain, is_wide, is_line, is_right, is_made, is_held, is_reply_of, is_step}
use Rattle.tm_run.proofs.TextLaws.{one_word, Spells, spells_more, spells_joined, Line, last}
use Rattle.tm_run.proofs.FieldLaws.{plain_wide, decimal_is, plain_is, wide_is, plain_below, wide_below, reply_is, reply_again}
use Rattle.tm_run.proofs.ReplyLaws.{made_is, fail_is, held_is, fault_is, change_is, edit_is, file_is, made_again, set_again, held_again, fault_again, change_again, edit_again, file_again, made_below, held_below}

-- ---- the words of a step's line

-- the words of a step's line, which begin with `step`, are read as the step
pub record StepLine (number : ℕ) (pair : Step × Reply) : Type 0 where
  pub words : List Text
  pub line : Line (step_line number pair) (codes "step" ∷ words)
  pub reads : step_of (codes "step" ∷ words) ≡ Some pair

whole : (number : ℕ) (step : Step) (reply : Reply) (words : List Text) → is_wide number ≡ true → is_word (reply_text reply) ≡ true → Spells (step_text step) words
    → step_of (codes "step" ∷ decimal number ∷ reply_text reply ∷ words) ≡ Some (step, reply) → StepLine number (step, reply)
whole number step reply words h k s e =
    let front = spells_more (codes "step") (decimal number) (codes "step" ∷ []) (decimal number ∷ []) (one_word (codes "step") refl) (one_word (decimal number) (decimal_is number h)) in
    let replied = spells_more (codes "step " ++ decimal number) (reply_text reply) (codes "step" ∷ decimal number ∷ []) (reply_text reply ∷ []) front (one_word (reply_text reply) k) in
    let all_words = spells_more (codes "step " ++ decimal number ++ 32 ∷ reply_text reply) (step_text step) (codes "step" ∷ decimal number ∷ reply_text reply ∷ []) words replied s in
    record {
      words = decimal number ∷ reply_text reply ∷ words;
      line = last (codes "step " ++ decimal number ++ 32 ∷ reply_text reply ++ 32 ∷ step_text step) (codes "step" ∷ decimal number ∷ reply_text reply ∷ words) all_words;
      reads = e;
    }

-- a keyword and a number
numbered : (word : Text) (n : ℕ) → is_word word ≡ true → is_wide n ≡ true → Spells (word ++ 32 ∷ decimal n) (word ∷ decimal n ∷ [])
numbered word n h k = spells_more word (decimal n) (word ∷ []) (decimal n ∷ []) (one_word word h) (one_word (decimal n) (decimal_is n k))

-- the words of a line, of which there is one
record Words (line : Text) : Type 0 where
  first : Text
  more : List Text
  are : list_all is_word (first ∷ more) ≡ true
  joins : joined (first ∷ more) ≡ line

words_by : (line : Text) (words : List Text) → list_all is_word words ≡ true → not (is_empty words) ≡ true → joined words ≡ line → Words line
words_by line [] h k e = absurd cc
words_by line (first ∷ more) h k e = record { first = first; more = more; are = h; joins = e }

words_in : (line : Text) → is_line line ≡ true → Words line
unfolding is_line
words_in line h =
    let t = both (not (is_empty (words_of line))) (texts_equal (joined (words_of line)) line) h in
    words_by line (words_of line) (words_are line) t.0 (same_texts (joined (words_of line)) line t.1)

spells_line : (line : Text) (w : Words line) → Spells line (w.first ∷ w.more)
spells_line line w = subst (λ (text : Text). Spells text (w.first ∷ w.more)) w.joins (spells_joined (w.first ∷ w.more) w.are)

-- ---- each kind of step

learn_line : (number domain : ℕ) (entry : Entry) (reply : LearnReply) → is_wide number ≡ true → (is_plain domain && is_entry entry) ≡ true → StepLine number (Step.Learn domain entry, Reply.Learn reply)
unfolding step_of step_in
learn_line number domain entry reply h k =
    let t = both (is_plain domain) (is_entry entry) k in
    let place = numbered (codes "learn") domain refl (plain_wide domain t.0) in
    let text = spells_more (codes "learn " ++ decimal domain) (joined (entry_words entry)) (codes "learn" ∷ decimal domain ∷ []) (entry_words entry) place (spells_joined (entry_words entry) (entry_are entry t.1)) in
    whole number (Step.Learn domain entry) (Reply.Learn reply) (codes "learn" ∷ decimal domain ∷ entry_words entry) h (reply_is reply) text (rw (entry_again entry t.1, plain_is domain t.0, reply_again reply) refl)

make_line : (number domain : ℕ) (name : DomainName) (reply : MakeReply) → is_wide number ≡ true → (is_plain domain && is_domain_name is_path name) ≡ true → is_made reply ≡ true → StepLine number (Step.Make domain name, Reply.Make reply)
unfolding step_of step_in
make_line number domain name reply h k l =
    let t = both (is_plain domain) (is_domain_name is_path name) k in
    let place = numbered (codes "make") domain refl (plain_wide domain t.0) in
    let parts : Spells name (domain_parts name) = subst (λ (text : Text). Spells text (domain_parts name)) (join_with_byte-slice_split 32 name) (spells_joined (domain_parts name) (parts_are name t.1)) in
    let text = spells_more (codes "make " ++ decimal domain) name (codes "make" ∷ decimal domain ∷ []) (domain_parts name) place parts in
    whole number (Step.Make domain name) (Reply.Make reply) (codes "make" ∷ decimal domain ∷ domain_parts name) h (made_is reply l) text (rw (to_end_again name t.1, plain_is domain t.0, made_again reply l) refl)

fail_line : (number domain : ℕ) (set : Bool) → is_wide number ≡ true → is_plain domain ≡ true → StepLine number (Step.Fail domain, Reply.Fail set)
unfolding step_of step_in
fail_line number domain set h k =
    whole number (Step.Fail domain) (Reply.Fail set) (codes "fail" ∷ decimal domain ∷ []) h (fail_is set) (numbered (codes "fail") domain refl (plain_wide domain k)) (rw (plain_is domain k, set_again set) refl)

ask_line : (number domain retry : ℕ) (line : Text) (held : Held) → is_wide number ≡ true → (is_plain domain && is_plain retry && is_line line) ≡ true → is_held held ≡ true → StepLine number (Step.Ask domain retry line, Reply.Ask held)
unfolding step_of step_in
ask_line number domain retry line held h k l =
    let t = both (is_plain domain && is_plain retry) (is_line line) k in
    let n = both (is_plain domain) (is_plain retry) t.0 in
    let w = words_in line t.1 in
    let place = numbered (codes "ask") domain refl (plain_wide domain n.0) in
    let again = spells_more (codes "ask " ++ decimal domain) (decimal retry) (codes "ask" ∷ decimal domain ∷ []) (decimal retry ∷ []) place (one_word (decimal retry) (decimal_is retry (plain_wide retry n.1))) in
    let text = spells_more (codes "ask " ++ decimal domain ++ 32 ∷ decimal retry) line (codes "ask" ∷ decimal domain ∷ decimal retry ∷ []) (w.first ∷ w.more) again (spells_line line w) in
    whole number (Step.Ask domain retry line) (Reply.Ask held) (codes "ask" ∷ decimal domain ∷ decimal retry ∷ w.first ∷ w.more) h (held_is held l) text (rw (w.joins, plain_is domain n.0, plain_is retry n.1, held_again held l) refl)

answer_line : (number serial code : ℕ) (fault : Option AnswerFault) → is_wide number ≡ true → (is_wide serial && is_wide code) ≡ true → StepLine number (Step.Answer serial code, Reply.Answer fault)
unfolding step_of step_in
answer_line number serial code fault h k =
    let t = both (is_wide serial) (is_wide code) k in
    let query = numbered (codes "answer") serial refl t.0 in
    let text = spells_more (codes "answer " ++ decimal serial) (decimal code) (codes "answer" ∷ decimal serial ∷ []) (decimal code ∷ []) query (one_word (decimal code) (decimal_is code t.1)) in
    whole number (Step.Answer serial code) (Reply.Answer fault) (codes "answer" ∷ decimal serial ∷ decimal code ∷ []) h (fault_is fault) text (rw (wide_is serial t.0, wide_is code t.1, fault_again fault) refl)

attach_line : (number : ℕ) (changed : Bool) → is_wide number ≡ true → StepLine number (Step.Attach, Reply.Attach changed)
unfolding step_of step_in
attach_line number changed h = whole number Step.Attach (Reply.Attach changed) (codes "attach" ∷ []) h (change_is changed) (one_word (codes "attach") refl) (rw (change_again changed) refl)

detach_line : (number : ℕ) (changed : Bool) → is_wide number ≡ true → StepLine number (Step.Detach, Reply.Detach changed)
unfolding step_of step_in
detach_line number changed h = whole number Step.Detach (Reply.Detach changed) (codes "detach" ∷ []) h (change_is changed) (one_word (codes "detach") refl) (rw (change_again changed) refl)

edit_line : (number editor : ℕ) (file : FileKind) (line : Text) (reply : EditReply) → is_wide number ≡ true → (is_plain editor && is_line line) ≡ true → StepLine number (Step.Edit editor file line, Reply.Edit reply)
unfolding step_of step_in
edit_line number editor file line reply h k =
    let t = both (is_plain editor) (is_line line) k in
    let w = words_in line t.1 in
    let who = numbered (codes "edit") editor refl (plain_wide editor t.0) in
    let named = spells_more (codes "edit " ++ decimal editor) (policy_text file) (codes "edit" ∷ decimal editor ∷ []) (policy_text file ∷ []) who (one_word (policy_text file) (file_is file)) in
    let text = spells_more (codes "edit " ++ decimal editor ++ 32 ∷ policy_text file) line (codes "edit" ∷ decimal editor ∷ policy_text file ∷ []) (w.first ∷ w.more) named (spells_line line w) in
    whole number (Step.Edit editor file line) (Reply.Edit reply) (codes "edit" ∷ decimal editor ∷ policy_text file ∷ w.first ∷ w.more) h (edit_is reply) text (rw (w.joins, plain_is editor t.0, file_again file, edit_again reply) refl)

end_line : (number tree : ℕ) → is_wide number ≡ true → is_plain tree ≡ true → StepLine number (Step.End tree, Reply.End)
unfolding step_of step_in
end_line number tree h k = whole number (Step.End tree) Reply.End (codes "end" ∷ decimal tree ∷ []) h refl (numbered (codes "end") tree refl (plain_wide tree k)) (rw (plain_is tree k) refl)

-- ---- every step with a reply of its own kind

by_kind : (number : ℕ) (step : Step) (reply : Reply) → is_wide number ≡ true → is_right step ≡ true → is_reply_of step reply ≡ true → StepLine number (step, reply)
by_kind number (Step.Learn domain entry) (Reply.Learn reply) h k l = learn_line number domain entry reply h k
by_kind number (Step.Learn domain entry) _ h k l = absurd cc
by_kind number (Step.Make domain name) (Reply.Make reply) h k l = make_line number domain name reply h k l
by_kind number (Step.Make domain name) _ h k l = absurd cc
by_kind number (Step.Fail domain) (Reply.Fail set) h k l = fail_line number domain set h k
by_kind number (Step.Fail domain) _ h k l = absurd cc
by_kind number (Step.Ask domain retry line) (Reply.Ask held) h k l = ask_line number domain retry line held h k l
by_kind number (Step.Ask domain retry line) _ h k l = absurd cc
by_kind number (Step.Answer serial code) (Reply.Answer fault) h k l = answer_line number serial code fault h k
by_kind number (Step.Answer serial code) _ h k l = absurd cc
by_kind number Step.Attach (Reply.Attach changed) h k l = attach_line number changed h
by_kind number Step.Attach _ h k l = absurd cc
by_kind number Step.Detach (Reply.Detach changed) h k l = detach_line number changed h
by_kind number Step.Detach _ h k l = absurd cc
by_kind number (Step.Edit editor file line) (Reply.Edit reply) h k l = edit_line number editor file line reply h k
by_kind number (Step.Edit editor file line) _ h k l = absurd cc
by_kind number (Step.End tree) Reply.End h k l = end_line number tree h k
by_kind number (Step.End tree) _ h k l = absurd cc

pub step_again : (number : ℕ) (step : Step) (reply : Reply) → is_wide number ≡ true → is_step (step, reply) ≡ true → StepLine number (step, reply)
step_again number step reply h k = let t = both (is_right step) (is_reply_of step reply) k in by_kind number step reply h t.0 t.1

-- ---- what is read can be written

-- what was read, if something was, is a step that can be written
StepIs : Option (Step × Reply) → Type 0
StepIs None = Unit {0}
StepIs (Some pair) = is_step pair ≡ true

learned_is : (domain reply : Text) (words : List Text) (r : Result Entry LineKind) → entry_of words ≡ r → StepIs (learned (u32_of domain) reply r)
unfolding StepIs
learned_is domain reply words (Ok entry) e = all _ _ (all _ _ (plain_below domain) (entry_read words entry e)) refl
learned_is domain reply words (Err kind) e = tt

learn_is : (reply : Text) (words : List Text) → StepIs (learn_in reply words)
unfolding StepIs
learn_is reply [] = tt
learn_is reply (domain ∷ words) = learned_is domain reply words (entry_of words) refl

made_step : (domain reply : Text) (words : List Text) (r : Result DomainName LineKind) → domain_to_end words ≡ r → StepIs (made (u32_of domain) reply r)
unfolding StepIs
made_step domain reply words (Ok name) e = all _ _ (all _ _ (plain_below domain) (to_end_right words name e)) (made_below reply)
made_step domain reply words (Err kind) e = tt

make_is : (reply : Text) (words : List Text) → StepIs (make_in reply words)
unfolding StepIs
make_is reply [] = tt
make_is reply (domain ∷ words) = made_step domain reply words (domain_to_end words) refl

fail_step : (reply : Text) (words : List Text) → StepIs (fail_in reply words)
unfolding StepIs
fail_step reply [] = tt
fail_step reply (domain ∷ []) = all _ _ (plain_below domain) refl
fail_step reply (domain ∷ other ∷ others) = tt

-- words that were joined are a line
line_is : (word : Text) (words : List Text) → list_all is_word (word ∷ words) ≡ true → is_line (joined (word ∷ words)) ≡ true
unfolding is_line
line_is word words h = rw (words_again (word ∷ words) h) (texts_same (joined (word ∷ words)) (joined (word ∷ words)) refl)

words_after : (word : Text) (words : List Text) → list_all is_word (word ∷ words) ≡ true → list_all is_word words ≡ true
words_after word words h = (both (is_word word) (list_all is_word words) h).1

ask_is : (reply : Text) (words : List Text) → list_all is_word words ≡ true → StepIs (ask_in reply words)
unfolding StepIs
ask_is reply [] h = tt
ask_is reply (domain ∷ []) h = tt
ask_is reply (domain ∷ retry ∷ []) h = tt
ask_is reply (domain ∷ retry ∷ word ∷ words) h =
    let line = line_is word words (words_after retry (word ∷ words) (words_after domain (retry ∷ word ∷ words) h)) in
    all _ _ (all _ _ (all _ _ (plain_below domain) (plain_below retry)) line) (held_below reply)

answer_is : (reply : Text) (words : List Text) → StepIs (answer_in reply words)
unfolding StepIs
answer_is reply [] = tt
answer_is reply (serial ∷ []) = tt
answer_is reply (serial ∷ code ∷ []) = all _ _ (all _ _ (wide_below serial) (wide_below code)) refl
answer_is reply (serial ∷ code ∷ other ∷ others) = tt

attach_is : (reply : Text) (words : List Text) → StepIs (attach_in reply words)
unfolding StepIs
attach_is reply [] = refl
attach_is reply (other ∷ others) = tt

detach_is : (reply : Text) (words : List Text) → StepIs (detach_in reply words)
unfolding StepIs
detach_is reply [] = refl
detach_is reply (other ∷ others) = tt

edit_step : (reply : Text) (words : List Text) → list_all is_word words ≡ true → StepIs (edit_in reply words)
unfolding StepIs
edit_step reply [] h = tt
edit_step reply (editor ∷ []) h = tt
edit_step reply (editor ∷ file ∷ []) h = tt
edit_step reply (editor ∷ file ∷ word ∷ words) h =
    let line = line_is word words (words_after file (word ∷ words) (words_after editor (file ∷ word ∷ words) h)) in
    all _ _ (all _ _ (plain_below editor) line) refl

end_is : (words : List Text) → StepIs (end_in words)
unfolding StepIs
end_is [] = tt
end_is (tree ∷ []) = all _ _ (plain_below tree) refl
end_is (tree ∷ other ∷ others) = tt

in_case : (b : Bool) (one other : Option (Step × Reply)) → StepIs one → StepIs other → StepIs (cond b one other)
in_case true one other h k = h
in_case false one other h k = k

step_in_is : (keyword reply : Text) (words : List Text) → list_all is_word words ≡ true → StepIs (step_in keyword reply words)
unfolding step_in StepIs
step_in_is keyword reply words h =
    in_case (texts_equal keyword (codes "learn")) _ _ (learn_is reply words)
    (in_case (texts_equal keyword (codes "make")) _ _ (make_is reply words)
    (in_case (texts_equal keyword (codes "fail")) _ _ (fail_step reply words)
    (in_case (texts_equal keyword (codes "ask")) _ _ (ask_is reply words h)
    (in_case (texts_equal keyword (codes "answer")) _ _ (answer_is reply words)
    (in_case (texts_equal keyword (codes "attach")) _ _ (attach_is reply words)
    (in_case (texts_equal keyword (codes "detach")) _ _ (detach_is reply words)
    (in_case (texts_equal keyword (codes "edit")) _ _ (edit_step reply words h)
    (in_case (texts_equal keyword (codes "end")) _ _ (end_is words) tt))))))))

words_of_is : (words : List Text) → list_all is_word words ≡ true → StepIs (step_of words)
unfolding step_of StepIs
words_of_is [] h = tt
words_of_is (a ∷ []) h = tt
words_of_is (a ∷ b ∷ []) h = tt
words_of_is (a ∷ b ∷ c ∷ []) h = tt
words_of_is (a ∷ b ∷ c ∷ d ∷ words) h = step_in_is d c words (words_after d words (words_after c (d ∷ words) (words_after b (c ∷ d ∷ words) (words_after a (b ∷ c ∷ d ∷ words) h))))

pub step_is : (words : List Text) (pair : Step × Reply) → list_all is_word words ≡ true → step_of words ≡ Some pair → is_step pair ≡ true
unfolding StepIs
step_is words pair h e = subst StepIs e (words_of_is words h)
