-- Conditions: what is written is read again, and what is read can be written.
use Rattle.std.proofs.Common.{◌≡◌, ℕ, zero, suc, ◌+◌, ◌<◌, ◌==◌, Bool, true, false, ◌&&◌, List, [], ◌∷◌, ◌++◌, map, length, get_or, take, drop, Option, Some, None, Ok, Err, refl, sym, ap, subst, ◌∙◌, arith, append_assoc}
use Rattle.std.specs.List.{list_all, position, position_from}
use Rattle.std.proofs.Math.Seq.{take-append_seam, drop-append-add}
use Rattle.std.proofs.lemmas.List.{append-nil}
use Rattle.std.proofs.lemmas.List.Folds.{list_all-append}
use Rattle.std.proofs.lemmas.List.Quantifiers.{position-Some}
use Rattle.std.proofs.lemmas.Iterator.Adapters.{position_from-zero}
use Rattle.tm_word.specs.Prelude.{Text, ◌>>=◌}
use Rattle.tm_rules.specs.Types.{Attr, Clause, Cond, LineKind, Right}
use Rattle.tm_line.proofs.Steps.{bind_ok, ok_is, both, all, not_true}
use Rattle.tm_cond.specs.Attributes.{attr_word, attr_text, numeric_word, other_word, without_last}
use Rattle.tm_cond.specs.Reading.{right_word, right_text, clause, operated, left_side, sides, clause_at, clause_word, operator, clause_text, cond_with, log_table, log_word, logged, with_word, cond_from, cond_of, log_words, cond_words}
use Rattle.tm_cond.specs.Written.{is_attr, is_side, is_clause, is_cond}
use Rattle.tm_cond.proofs.PieceLaws.{without_last_again, without_last_found, named_fits}
use Rattle.tm_cond.proofs.LeftLaws.{not_equals, attr_again, attr_read}
use Rattle.tm_cond.proofs.SideLaws.{side_again, side_read}

-- ---- the cut at the first `=`

cut_from : (left right : Text) (i : ℕ) → list_all not_equals left ≡ true → position_from (λ b. b == 61) i (left ++ 61 ∷ right) ≡ Some (i + length left)
cut_from [] right i h = ap Some (omega arith)
cut_from (b ∷ left) right i h =
    let split = both (not_equals b) (list_all not_equals left) h in
    rw (not_true (b == 61) split.0) (cut_from left right (i + 1) split.1 ∙ ap Some (omega arith))

cut_again : (left right : Text) → list_all not_equals left ≡ true → position (λ b. b == 61) (left ++ 61 ∷ right) ≡ Some (length left)
cut_again left right h = position_from-zero (λ b. b == 61) (left ++ 61 ∷ right) ∙ cut_from left right 0 h ∙ ap Some (omega arith)

rest_again : (left right : Text) → drop (length left + 1) (left ++ 61 ∷ right) ≡ right
rest_again left right = drop-append-add left (61 ∷ right) 1

clause_cut : (left right : Text) → list_all not_equals left ≡ true → clause_word (left ++ 61 ∷ right) ≡ sides (left_side left) right
unfolding clause_word
clause_cut left right h = rw (cut_again left right h, take-append_seam left (61 ∷ right), rest_again left right) refl

front_of : (text : Text) (k : ℕ) → k < length text → ((i : ℕ) → i < k → (get_or text i 0 == 61) ≡ false) → list_all not_equals (take k text) ≡ true
front_of [] k within h = absurd (omega (arith, within))
front_of (b ∷ text) zero within h = refl
front_of (b ∷ text) (suc k) within h =
    let head : (b == 61) ≡ false = h 0 (omega arith) in
    rw head (front_of text k (omega (arith, within)) (λ i low. h (suc i) (omega (arith, low))))

-- ---- clauses

marked_uncut : (left : Text) → list_all not_equals left ≡ true → list_all not_equals (left ++ 33 ∷ []) ≡ true
marked_uncut left h = list_all-append not_equals left (33 ∷ []) ∙ all (list_all not_equals left) true h refl

sides_again : (attr : Attr) (equal : Bool) (right : Right) → attr_word (attr_text attr) ≡ Ok attr → is_side attr right ≡ true → sides (attr_text attr, equal) (right_text right) ≡ Ok (clause attr equal right)
unfolding sides
sides_again attr equal right h k = rw (h, side_again attr right k) refl

marked_text : (left right : Text) → left ++ (operator false ++ right) ≡ (left ++ 33 ∷ []) ++ 61 ∷ right
marked_text left right = sym (append_assoc left (33 ∷ []) (61 ∷ right))

clause_by : (attr : Attr) (equal : Bool) (right : Right) → is_attr attr ≡ true → is_side attr right ≡ true → clause_word (attr_text attr ++ (operator equal ++ right_text right)) ≡ Ok (clause attr equal right)
clause_by attr true right h k =
    let is = attr_again attr h in
    clause_cut (attr_text attr) (right_text right) is.uncut ∙ rw is.unmarked (sides_again attr true right is.reads k)
clause_by attr false right h k =
    let is = attr_again attr h in
    let left = attr_text attr ++ 33 ∷ [] in
    ap clause_word (marked_text (attr_text attr) (right_text right)) ∙ clause_cut left (right_text right) (marked_uncut (attr_text attr) is.uncut) ∙ rw (without_last_again 33 (attr_text attr)) (sides_again attr false right is.reads k)

pub clause_again : (c : Clause) → is_clause c ≡ true → clause_word (clause_text c) ≡ Ok c
unfolding is_clause clause_text
clause_again c h =
    let split = both (is_attr c.left) (is_side c.left c.right) h in
    ap clause_word (append_assoc (attr_text c.left) (operator c.equal) (right_text c.right)) ∙ clause_by c.left c.equal c.right split.0 split.1

left_uncut : (text : Text) (front : Option Text) → without_last 33 text ≡ front → list_all not_equals text ≡ true → list_all not_equals (operated front text).0 ≡ true
left_uncut text None e h = h
left_uncut text (Some front) e h =
    let whole = without_last_found 33 text front e in
    (both (list_all not_equals front) true (sym (list_all-append not_equals front (33 ∷ [])) ∙ subst (λ t. list_all not_equals t ≡ true) whole h)).0

sides_read : (left : Text × Bool) (text : Text) (c : Clause) → list_all not_equals left.0 ≡ true → sides left text ≡ Ok c → is_clause c ≡ true
unfolding sides is_clause
sides_read left text c h e =
    let attr = bind_ok (attr_word left.0) (λ attr. right_word attr text >>= λ right. Ok (clause attr left.1 right)) c e in
    let right = bind_ok (right_word attr.0 text) (λ right. Ok (clause attr.0 left.1 right)) c attr.2 in
    subst (λ d. (is_attr d.left && is_side d.left d.right) ≡ true) (ok_is (clause attr.0 left.1 right.0) c right.2)
    (all (is_attr attr.0) (is_side attr.0 right.0) (attr_read left.0 attr.0 h attr.1) (side_read attr.0 text right.0 right.1))

cut_read : (word : Text) (place : Option ℕ) (c : Clause) → position (λ b. b == 61) word ≡ place → clause_at place word ≡ Ok c → is_clause c ≡ true
cut_read word None c h e = absurd cc
cut_read word (Some k) c h e =
    let cut = position-Some (λ b. b == 61) word k 0 h in
    let uncut = front_of word k cut.0 cut.2 in
    sides_read (left_side (take k word)) (drop (k + 1) word) c (left_uncut (take k word) (without_last 33 (take k word)) refl uncut) e

pub clause_read : (word : Text) (c : Clause) → clause_word word ≡ Ok c → is_clause c ≡ true
unfolding clause_word
clause_read word c e = cut_read word (position (λ b. b == 61) word) c refl e

-- ---- all words

log_is_none : (word : Text) (log : Bool) → log_word word ≡ Some log → clause_word word ≡ Err LineKind.Condition
unfolding log_word clause_word sides attr_word numeric_word other_word without_last
log_is_none word log e = named_fits (λ t b. clause_word t ≡ Err LineKind.Condition) log_table word log (refl, (refl, tt)) e

not_log : (word : Text) (c : Clause) (log : Option Bool) → clause_word word ≡ Ok c → log_word word ≡ log → log_word word ≡ None
not_log word c None h e = e
not_log word c (Some log) h e = let wrong = log_is_none word log e in absurd cc

pub words_again : (cs before : List Clause) (log : Option Bool) (words : List Text) → list_all is_clause cs ≡ true → cond_from (cond_with before log) (map clause_text cs ++ words) ≡ cond_from (cond_with (before ++ cs) log) words
unfolding cond_from
words_again [] before log words h = ap (λ all. cond_from (cond_with all log) words) (sym (append-nil before))
words_again (c ∷ cs) before log words h =
    let split = both (is_clause c) (list_all is_clause cs) h in
    let read = clause_again c split.0 in
    let plain = not_log (clause_text c) c (log_word (clause_text c)) read refl in
    rw (plain, read) (words_again cs (before ++ c ∷ []) log words split.1)
    ∙ ap (λ all. cond_from (cond_with all log) words) (append_assoc before (c ∷ []) cs)

log_again : (cs : List Clause) (log : Option Bool) → cond_from (cond_with cs None) (log_words log) ≡ Ok (cond_with cs log)
unfolding cond_from log_word
log_again cs None = refl
log_again cs (Some true) = refl
log_again cs (Some false) = refl

pub cond_again : (c : Cond) → is_cond c ≡ true → cond_of (cond_words c) ≡ Ok c
unfolding is_cond cond_of cond_words
cond_again c h = words_again c.clauses [] None (log_words c.grant_log) h ∙ log_again c.clauses c.grant_log

logged_read : (before : Option Bool) (cs : List Clause) (log : Bool) (next : Cond) → list_all is_clause cs ≡ true → logged before cs log ≡ Ok next → list_all is_clause next.clauses ≡ true
logged_read (Some old) cs log next h e = absurd cc
logged_read None cs log next h e = subst (λ (n : Cond). list_all is_clause n.clauses ≡ true) (ok_is (cond_with cs (Some log)) next e) h

with_read : (log : Option Bool) (before : Cond) (word : Text) (next : Cond) → list_all is_clause before.clauses ≡ true → with_word log before word ≡ Ok next → list_all is_clause next.clauses ≡ true
with_read (Some log) before word next h e = logged_read before.grant_log before.clauses log next h e
with_read None before word next h e =
    let c = bind_ok (clause_word word) (λ c. Ok (cond_with (before.clauses ++ c ∷ []) before.grant_log)) next e in
    let fits : list_all is_clause (before.clauses ++ c.0 ∷ []) ≡ true = list_all-append is_clause before.clauses (c.0 ∷ []) ∙ rw (h, clause_read word c.0 c.1) refl in
    subst (λ (n : Cond). list_all is_clause n.clauses ≡ true) (ok_is (cond_with (before.clauses ++ c.0 ∷ []) before.grant_log) next c.2) fits

from_read : (before : Cond) (words : List Text) (c : Cond) → list_all is_clause before.clauses ≡ true → cond_from before words ≡ Ok c → list_all is_clause c.clauses ≡ true
unfolding cond_from
from_read before [] c h e = subst (λ (n : Cond). list_all is_clause n.clauses ≡ true) (ok_is before c e) h
from_read before (word ∷ words) c h e =
    let next = bind_ok (with_word (log_word word) before word) (λ next. cond_from next words) c e in
    from_read next.0 words c (with_read (log_word word) before word next.0 h next.1) next.2

pub cond_read : (words : List Text) (c : Cond) → cond_of words ≡ Ok c → is_cond c ≡ true
unfolding is_cond cond_of
cond_read words c e = from_read (cond_with [] None) words c refl e
