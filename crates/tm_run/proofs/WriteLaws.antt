-- What is read can be written, and is printed as the lines that were read.
use Rattle.std.proofs.Common.{◌≡◌, ℕ, ◌+◌, Bool, true, false, cond, ◌&&◌, ◌||◌, List, [], ◌∷◌, ◌++◌, length, Option, Some, None, Result, Ok, Err, refl, sym, ap, subst, ◌∙◌, arith, append_assoc}
use Rattle.std.specs.Prelude.{codes}
use Rattle.std.specs.List.{list_all, flat_map, concat}
use Rattle.std.proofs.lemmas.List.{append-nil, length-append}
use Rattle.std.proofs.lemmas.List.Folds.{list_all-append}
use Rattle.std.proofs.lemmas.Grind.{flat_map-append}
use Rattle.tm_word.specs.Prelude.{Text, is_word, spell, spelled_word, texts_equal, words_of}
use Rattle.tm_word.proofs.Spelled.{word_found, word_small}
use Rattle.tm_rules.specs.Types.{Look, Reply, Run, Step, Take}
use Rattle.tm_word.proofs.WordLaws.{words_are}
use Rattle.tm_run.specs.StepWords.{step_of}
use Rattle.tm_domain.proofs.NameLaws.{same_texts}
use Rattle.tm_line.proofs.Steps.{both, all, to_not}
use Rattle.tm_run.specs.declared.reading.Reading.{Reading}
use Rattle.tm_run.specs.Steps.{step_line, steps_text}
use Rattle.tm_run.specs.RunText.{look_text, audit_line, take_line, take_text, takes_text, run_text}
use Rattle.tm_run.specs.Reading.{take_of, look_of, audit_of, has_number, with_step, with_take, with_look, with_audit, is_empty, starts, line_read, lines_of, fresh, go_on, run_from, run_in, run_of}
use Rattle.tm_run.specs.Written.{is_plain, is_wide, is_step, is_look, is_audit, is_take, is_written}
use Rattle.tm_run.proofs.TextLaws.{IsLine, lines_joined}
use Rattle.tm_run.proofs.FieldLaws.{plain_below, wide_below, reason_below, move_below, numbers_below, heard_below}
use Rattle.tm_run.proofs.StepLaws.{step_again, step_is}
use Rattle.tm_run.proofs.LineLaws.{take_first, look_line, audit_again}
use Rattle.tm_run.proofs.ReadLaws.{reading}

-- ---- what the words of a line are read as can be written

some_is : {A : Type 0} (x y : A) → Some x ≡ Some y → x ≡ y
some_is x y e = cc

-- a take that was begun
pub record Begun (t : Take) : Type 0 where
  pub pid : is_plain t.pid ≡ true
  pub before : is_plain t.before ≡ true
  pub after : is_plain t.after ≡ true
  pub looks : list_all is_look t.looks ≡ true

pub record IsFirst (t : Take) : Type 0 where
  pub begun : Begun t
  pub unseen : t.looks ≡ []

pub take_is : (words : List Text) (t : Take) → take_of words ≡ Some t → IsFirst t
unfolding take_of
take_is [] t e = absurd cc
take_is (a ∷ []) t e = absurd cc
take_is (a ∷ b ∷ []) t e = absurd cc
take_is (a ∷ b ∷ c ∷ []) t e = absurd cc
take_is (a ∷ b ∷ c ∷ d ∷ []) t e = absurd cc
take_is (a ∷ b ∷ c ∷ d ∷ f ∷ []) t e = absurd cc
take_is (a ∷ b ∷ c ∷ d ∷ f ∷ g ∷ []) t e = subst IsFirst (some_is _ _ e) (record { begun = record { pid = plain_below c; before = plain_below d; after = plain_below f; looks = refl }; unseen = refl })
take_is (a ∷ b ∷ c ∷ d ∷ f ∷ g ∷ h ∷ words) t e = absurd cc

pub look_is : (words : List Text) (look : Look) → look_of words ≡ Some look → is_look look ≡ true
unfolding look_of
look_is [] look e = absurd cc
look_is (a ∷ []) look e = absurd cc
look_is (a ∷ b ∷ []) look e = absurd cc
look_is (a ∷ b ∷ c ∷ []) look e = absurd cc
look_is (a ∷ b ∷ c ∷ d ∷ []) look e = absurd cc
look_is (a ∷ b ∷ c ∷ d ∷ f ∷ []) look e = absurd cc
look_is (a ∷ b ∷ c ∷ d ∷ f ∷ g ∷ []) look e = absurd cc
look_is (a ∷ b ∷ c ∷ d ∷ f ∷ g ∷ h ∷ []) look e =
    subst (λ (l : Look). is_look l ≡ true) (some_is _ _ e)
    (all _ _ (all _ _ (all _ _ (all _ _ (wide_below b) (reason_below d)) (move_below f)) (numbers_below g)) (heard_below h))
look_is (a ∷ b ∷ c ∷ d ∷ f ∷ g ∷ h ∷ i ∷ words) look e = absurd cc

-- a spelled word that isn't `-` isn't read as `-`, and one that isn't empty isn't read as empty
word_is : (word : Text) (r : Option Text) → spelled_word word ≡ r → texts_equal word (codes "-") ≡ false → texts_equal word [] ≡ false → is_audit r ≡ true
word_is word None e h k = refl
word_is word (Some text) e h k = all _ _ (all _ _ (word_small word text e) (to_not _ (undashed (texts_equal text (codes "-")) refl))) (to_not _ (filled (texts_equal text []) refl))
  where
    filled : (t : Bool) → texts_equal text [] ≡ t → t ≡ false
    filled true l =
        let same : word ≡ [] = word_found word text e ∙ ap spell (same_texts text [] l) in
        let yes : texts_equal word [] ≡ true = rw same refl in
        absurd (let wrong : true ≡ false = sym yes ∙ k in cc)
    filled false l = refl

    undashed : (t : Bool) → texts_equal text (codes "-") ≡ t → t ≡ false
    undashed true k =
        let same : word ≡ codes "-" = word_found word text e ∙ ap spell (same_texts text (codes "-") k) in
        let yes : texts_equal word (codes "-") ≡ true = rw same refl in
        absurd (let wrong : true ≡ false = sym yes ∙ h in cc)
    undashed false k = refl

dash_or_word : (word : Text) (t s : Bool) → texts_equal word (codes "-") ≡ t → texts_equal word [] ≡ s → is_audit (cond (t || s) None (spelled_word word)) ≡ true
dash_or_word word true s e f = refl
dash_or_word word false true e f = refl
dash_or_word word false false e f = word_is word (spelled_word word) refl e f

pub audit_is : (words : List Text) → is_audit (audit_of words) ≡ true
unfolding audit_of
audit_is [] = refl
audit_is (a ∷ []) = refl
audit_is (a ∷ b ∷ []) = dash_or_word b (texts_equal b (codes "-")) (texts_equal b []) refl refl
audit_is (a ∷ b ∷ c ∷ words) = refl

-- ---- what has been read, and its text

-- the text that the take that is begun adds
pub begun_text : Text → ℕ → Option Take → Text
begun_text front count None = front
begun_text front count (Some t) = front ++ (take_line (count + 1) t ++ flat_map look_text t.looks)

-- the first line and the lines of these steps
abbrev pub steps_front : List (Step × Reply) → Text
steps_front steps = codes "run 1\n" ++ steps_text 0 steps

pub text_of : List (Step × Reply) → List Take → Option Take → Text
text_of steps takes begun = begun_text (steps_front steps ++ takes_text 0 takes) (length takes) begun

pub IsBegun : Option Take → List Take → Type 0
IsBegun None takes = Unit {0}
IsBegun (Some t) takes = Begun t × (is_wide (length takes + 1) ≡ true)

pub record Good (steps : List (Step × Reply)) (takes : List Take) (begun : Option Take) : Type 0 where
  pub count : is_wide (length steps) ≡ true
  pub are_steps : list_all is_step steps ≡ true
  pub takes_count : is_wide (length takes) ≡ true
  pub are_takes : list_all is_take takes ≡ true
  pub going : IsBegun begun takes

-- one line more was read
pub record Grown (steps : List (Step × Reply)) (takes : List Take) (begun : Option Take) (line : Text) (next : Reading) : Type 0 where
  pub good : Good next.steps next.takes next.begun
  pub text : text_of next.steps next.takes next.begun ≡ text_of steps takes begun ++ line
  pub ends : IsLine line

one_more : {A : Type 0} (p : A → Bool) (xs : List A) (x : A) → list_all p xs ≡ true → p x ≡ true → list_all p (xs ++ x ∷ []) ≡ true
one_more p xs x h k = list_all-append p xs (x ∷ []) ∙ rw (h, k) refl

longer : {A : Type 0} (xs : List A) (x : A) → length (xs ++ x ∷ []) ≡ length xs + 1
longer xs x = length-append xs (x ∷ [])

chosen : {A : Type 0} (b : Bool) (x y : A) → cond b (Some x) None ≡ Some y → (b ≡ true) × (x ≡ y)
chosen true x y e = (refl, cc)
chosen false x y e = absurd cc

steps_more : (count : ℕ) (steps : List (Step × Reply)) (pair : Step × Reply) → steps_text count (steps ++ pair ∷ []) ≡ steps_text count steps ++ step_line (count + length steps + 1) pair
steps_more count [] pair = append-nil (step_line (count + 1) pair) ∙ ap (λ n. step_line n pair) (omega arith)
steps_more count (first ∷ steps) pair =
    let line = step_line (count + 1) first in
    let rest = steps_text (count + 1) steps in
    ap (λ (x : Text). line ++ x) (steps_more (count + 1) steps pair) ∙ sym (append_assoc line rest (step_line (count + 1 + length steps + 1) pair)) ∙ ap (λ n. line ++ rest ++ step_line n pair) (omega arith)

takes_more : (count : ℕ) (takes : List Take) (t : Take) → takes_text count (takes ++ t ∷ []) ≡ takes_text count takes ++ take_text (count + length takes + 1) t
takes_more count [] t = append-nil (take_text (count + 1) t) ∙ ap (λ n. take_text n t) (omega arith)
takes_more count (first ∷ takes) t =
    let text = take_text (count + 1) first in
    let rest = takes_text (count + 1) takes in
    ap (λ (x : Text). text ++ x) (takes_more (count + 1) takes t) ∙ sym (append_assoc text rest (take_text (count + 1 + length takes + 1) t)) ∙ ap (λ n. text ++ rest ++ take_text n t) (omega arith)

-- behind a front the lines are one line more
behind : (front text more line : Text) → more ≡ text ++ line → front ++ more ≡ front ++ text ++ line
behind front text more line e = ap (λ (x : Text). front ++ x) e ∙ sym (append_assoc front text line)

without_takes : (front line longer : Text) → longer ≡ front ++ line → longer ++ [] ≡ (front ++ []) ++ line
without_takes front line longer e = append-nil longer ∙ e ∙ ap (λ (x : Text). x ++ line) (sym (append-nil front))

-- ---- what one line more adds

step_added : (steps : List (Step × Reply)) (pair : Step × Reply) → is_wide (length steps + 1) ≡ true → is_step pair ≡ true → Good steps [] None
    → Grown steps [] None (step_line (length steps + 1) pair) (reading (steps ++ pair ∷ []) [] None)
unfolding text_of begun_text IsBegun
step_added steps pair h k g =
    let more : is_wide (length (steps ++ pair ∷ [])) ≡ true = rw (longer steps pair) h in
    let number : 0 + length steps + 1 ≡ length steps + 1 = omega arith in
    record {
      good = record { count = more; are_steps = one_more is_step steps pair g.are_steps k; takes_count = refl; are_takes = refl; going = tt };
      text = without_takes (steps_front steps) (step_line (length steps + 1) pair) (steps_front (steps ++ pair ∷ [])) (behind (codes "run 1\n") (steps_text 0 steps) (steps_text 0 (steps ++ pair ∷ [])) (step_line (length steps + 1) pair) (steps_more 0 steps pair ∙ ap (λ n. steps_text 0 steps ++ step_line n pair) number));
      ends = (step_again (length steps + 1) pair.0 pair.1 h k).line.ends;
    }

take_added : (steps : List (Step × Reply)) (takes : List Take) (t : Take) → is_wide (length takes + 1) ≡ true → IsFirst t → Good steps takes None → Grown steps takes None (take_line (length takes + 1) t) (reading steps takes (Some t))
unfolding text_of begun_text IsBegun
take_added steps takes t h f g =
    let front = steps_front steps ++ takes_text 0 takes in
    let first = take_line (length takes + 1) t in
    record {
      good = record { count = g.count; are_steps = g.are_steps; takes_count = g.takes_count; are_takes = g.are_takes; going = (f.begun, h) };
      text = ap (λ (ls : List Look). front ++ (first ++ flat_map look_text ls)) f.unseen ∙ ap (λ (x : Text). front ++ x) (append-nil first);
      ends = (take_first (length takes + 1) t h f.begun.pid f.begun.before f.begun.after).ends;
    }

regroup : (a b c d : Text) → a ++ (b ++ (c ++ d)) ≡ (a ++ (b ++ c)) ++ d
regroup a b c d = simp append_assoc

one_look : (looks : List Look) (look : Look) → flat_map look_text (looks ++ look ∷ []) ≡ flat_map look_text looks ++ look_text look
one_look looks look = flat_map-append look_text looks (look ∷ []) ∙ ap (λ (x : Text). flat_map look_text looks ++ x) (append-nil (look_text look))

look_added : (steps : List (Step × Reply)) (takes : List Take) (t : Take) (look : Look) → is_look look ≡ true → Good steps takes (Some t)
    → Grown steps takes (Some t) (look_text look) (reading steps takes (Some (record t { looks = t.looks ++ look ∷ [] })))
unfolding text_of begun_text IsBegun
look_added steps takes t look h g =
    let front = steps_front steps ++ takes_text 0 takes in
    let first = take_line (length takes + 1) t in
    let b = g.going.0 in
    let more : Begun (record t { looks = t.looks ++ look ∷ [] }) = record { pid = b.pid; before = b.before; after = b.after; looks = one_more is_look t.looks look b.looks h } in
    record {
      good = record { count = g.count; are_steps = g.are_steps; takes_count = g.takes_count; are_takes = g.are_takes; going = (more, g.going.1) };
      text = ap (λ (x : Text). front ++ (first ++ x)) (one_look t.looks look) ∙ regroup front first (flat_map look_text t.looks) (look_text look);
      ends = (look_line look h).ends;
    }

pub audit_added : (steps : List (Step × Reply)) (takes : List Take) (t : Take) (audit : Option Text) → is_audit audit ≡ true → Good steps takes (Some t)
    → Grown steps takes (Some t) (audit_line audit) (reading steps (takes ++ record t { audit = audit } ∷ []) None)
unfolding text_of begun_text IsBegun
audit_added steps takes t audit h g =
    let front = steps_front steps ++ takes_text 0 takes in
    let done : Take = record t { audit = audit } in
    let first = take_line (length takes + 1) t in
    let b = g.going.0 in
    let more : is_wide (length (takes ++ done ∷ [])) ≡ true = rw (longer takes done) g.going.1 in
    let is : is_take done ≡ true = all _ _ (all _ _ (all _ _ (all _ _ b.pid b.before) b.after) b.looks) h in
    let number : 0 + length takes + 1 ≡ length takes + 1 = omega arith in
    record {
      good = record { count = g.count; are_steps = g.are_steps; takes_count = more; are_takes = one_more is_take takes done g.are_takes is; going = tt };
      text = behind (steps_front steps) (takes_text 0 takes) (takes_text 0 (takes ++ done ∷ [])) (take_text (length takes + 1) done) (takes_more 0 takes done ∙ ap (λ n. takes_text 0 takes ++ take_text n done) number) ∙ sym (append_assoc front (first ++ flat_map look_text t.looks) (audit_line audit));
      ends = (audit_again audit h).line.ends;
    }

-- ---- a line that was read

grown_as : (steps : List (Step × Reply)) (takes : List Take) (begun : Option Take) (a line : Text) (r next : Reading) → Grown steps takes begun a r → texts_equal a line ≡ true → r ≡ next → Grown steps takes begun line next
grown_as steps takes begun a line r next g h e =
    subst (λ (n : Reading). Grown steps takes begun line n) e (subst (λ (l : Text). Grown steps takes begun l r) (same_texts a line h) g)

step_by : (steps : List (Step × Reply)) (line : Text) (words : List Text) (o : Option (Step × Reply)) (next : Reading) → list_all is_word words ≡ true → step_of words ≡ o → with_step (reading steps [] None) line o ≡ Some next → Good steps [] None → Grown steps [] None line next
step_by steps line words None next w e f g = absurd cc
step_by steps line words (Some pair) next w e f g =
    let c = chosen (has_number (length steps) && texts_equal (step_line (length steps + 1) pair) line) (reading (steps ++ pair ∷ []) [] None) next f in
    let t = both (has_number (length steps)) (texts_equal (step_line (length steps + 1) pair) line) c.0 in
    grown_as steps [] None (step_line (length steps + 1) pair) line (reading (steps ++ pair ∷ []) [] None) next (step_added steps pair t.0 (step_is words pair w e) g) t.1 c.1

take_by : (steps : List (Step × Reply)) (takes : List Take) (line : Text) (words : List Text) (o : Option Take) (next : Reading) → take_of words ≡ o → with_take (reading steps takes None) line o ≡ Some next → Good steps takes None → Grown steps takes None line next
take_by steps takes line words None next e f g = absurd cc
take_by steps takes line words (Some t) next e f g =
    let c = chosen (has_number (length takes) && texts_equal (take_line (length takes + 1) t) line) (reading steps takes (Some t)) next f in
    let p = both (has_number (length takes)) (texts_equal (take_line (length takes + 1) t) line) c.0 in
    grown_as steps takes None (take_line (length takes + 1) t) line (reading steps takes (Some t)) next (take_added steps takes t p.0 (take_is words t e) g) p.1 c.1

look_by : (steps : List (Step × Reply)) (takes : List Take) (t : Take) (line : Text) (words : List Text) (o : Option Look) (next : Reading) → look_of words ≡ o → with_look (reading steps takes None) t line o ≡ Some next → Good steps takes (Some t) → Grown steps takes (Some t) line next
look_by steps takes t line words None next e f g = absurd cc
look_by steps takes t line words (Some look) next e f g =
    let c = chosen (texts_equal (look_text look) line) (reading steps takes (Some (record t { looks = t.looks ++ look ∷ [] }))) next f in
    grown_as steps takes (Some t) (look_text look) line (reading steps takes (Some (record t { looks = t.looks ++ look ∷ [] }))) next (look_added steps takes t look (look_is words look e) g) c.0 c.1

audit_by : (steps : List (Step × Reply)) (takes : List Take) (t : Take) (line : Text) (words : List Text) (next : Reading) → with_audit (reading steps takes None) t line (audit_of words) ≡ Some next → Good steps takes (Some t) → Grown steps takes (Some t) line next
audit_by steps takes t line words next f g =
    let audit = audit_of words in
    let c = chosen (texts_equal (audit_line audit) line) (reading steps (takes ++ record t { audit = audit } ∷ []) None) next f in
    grown_as steps takes (Some t) (audit_line audit) line (reading steps (takes ++ record t { audit = audit } ∷ []) None) next (audit_added steps takes t audit (audit_is words) g) c.0 c.1

outside_by : (steps : List (Step × Reply)) (takes : List Take) (line : Text) (words : List Text) (b : Bool) (next : Reading) → list_all is_word words ≡ true
    → cond b (with_take (reading steps takes None) line (take_of words)) (cond (is_empty takes) (with_step (reading steps takes None) line (step_of words)) None) ≡ Some next → Good steps takes None → Grown steps takes None line next
outside_by steps takes line words true next w f g = take_by steps takes line words (take_of words) next refl f g
outside_by steps [] line words false next w f g = step_by steps line words (step_of words) next w refl f g
outside_by steps (t ∷ takes) line words false next w f g = absurd cc

within_by : (steps : List (Step × Reply)) (takes : List Take) (t : Take) (line : Text) (words : List Text) (b : Bool) (next : Reading)
    → cond b (with_audit (reading steps takes None) t line (audit_of words)) (with_look (reading steps takes None) t line (look_of words)) ≡ Some next → Good steps takes (Some t) → Grown steps takes (Some t) line next
within_by steps takes t line words true next f g = audit_by steps takes t line words next f g
within_by steps takes t line words false next f g = look_by steps takes t line words (look_of words) next refl f g

pub grown : (steps : List (Step × Reply)) (takes : List Take) (begun : Option Take) (line : Text) (next : Reading) → line_read (reading steps takes begun) line ≡ Some next → Good steps takes begun → Grown steps takes begun line next
unfolding line_read
grown steps takes None line next e g = outside_by steps takes line (words_of line) (starts (codes "take") (words_of line)) next (words_are line) e g
grown steps takes (Some t) line next e g = within_by steps takes t line (words_of line) (starts (codes "audit") (words_of line)) next e g

-- ---- all lines that were read

pub fresh_good : Good [] [] None
unfolding IsBegun
fresh_good = record { count = refl; are_steps = refl; takes_count = refl; are_takes = refl; going = tt }

abbrev pub run_by : List (Step × Reply) → List Take → Run
run_by steps takes = record { steps = steps; takes = takes }

-- a run that can be written, with this text
abbrev pub IsPrinted : Text → Run → Type 0
IsPrinted text run = (is_written run ≡ true) × (run_text run ≡ text)

pub printed_by : (steps : List (Step × Reply)) (takes : List Take) → Good steps takes None → IsPrinted (text_of steps takes None) (run_by steps takes)
unfolding is_written run_text text_of begun_text
printed_by steps takes g = (all _ _ (all _ _ (all _ _ g.count g.are_steps) g.takes_count) g.are_takes, refl)

done_run : Run → Result Run ℕ
done_run run = Ok run

ok_is : (x y : Run) → done_run x ≡ done_run y → x ≡ y
unfolding done_run
ok_is x y e = cc

all_grown : (lines : List Text) (number : ℕ) (steps : List (Step × Reply)) (takes : List Take) (begun : Option Take) (run : Run) → run_from number (reading steps takes begun) lines ≡ Ok run → Good steps takes begun → IsPrinted (text_of steps takes begun ++ concat lines) run
unfolding done_run
all_grown [] number steps takes None run e g =
    subst (IsPrinted (text_of steps takes None ++ [])) (ok_is _ _ e) (subst (λ (x : Text). IsPrinted x (run_by steps takes)) (sym (append-nil (text_of steps takes None))) (printed_by steps takes g))
all_grown [] number steps takes (Some t) run e g = absurd cc
all_grown (line ∷ lines) number steps takes begun run e g = by_line (line_read (reading steps takes begun) line) refl e (λ next. all_grown lines (number + 1) next.steps next.takes next.begun run)
  where
    by_line : (o : Option Reading) → line_read (reading steps takes begun) line ≡ o → go_on number o (λ next. run_from (number + 1) next lines) ≡ Ok run
        → ((next : Reading) → run_from (number + 1) next lines ≡ Ok run → Good next.steps next.takes next.begun → IsPrinted (text_of next.steps next.takes next.begun ++ concat lines) run)
        → IsPrinted (text_of steps takes begun ++ (line ++ concat lines)) run
    by_line None h f more = absurd cc
    by_line (Some next) h f more =
        let step = grown steps takes begun line next h g in
        subst (λ (x : Text). IsPrinted x run) (ap (λ (x : Text). x ++ concat lines) step.text ∙ append_assoc (text_of steps takes begun) line (concat lines)) (more next f step.good)

pub fresh_text : text_of [] [] None ≡ codes "run 1\n"
unfolding text_of begun_text
fresh_text = refl

lines_printed : (lines : List Text) (run : Run) → run_in lines ≡ Ok run → IsPrinted (concat lines) run
lines_printed [] run e = absurd cc
lines_printed (line ∷ lines) run e = by_first (texts_equal line (codes "run 1\n")) refl e
  where
    by_first : (b : Bool) → texts_equal line (codes "run 1\n") ≡ b → cond b (run_from 2 fresh lines) (Err 1) ≡ Ok run → IsPrinted (line ++ concat lines) run
    by_first true h f =
        subst (λ (x : Text). IsPrinted (x ++ concat lines) run) (fresh_text ∙ sym (same_texts line (codes "run 1\n") h)) (all_grown lines 2 [] [] None run f fresh_good)
    by_first false h f = absurd cc

pub run_found : (text : Text) (run : Run) → run_of text ≡ Ok run → (is_written run ≡ true) × (run_text run ≡ text)
unfolding run_of
run_found text run e = subst (λ (x : Text). IsPrinted x run) (lines_joined text) (lines_printed (lines_of text) run e)
