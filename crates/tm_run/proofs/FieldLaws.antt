-- The fields of lines: what is printed is a word, and is read again; what is read is in its range.
use Rattle.std.proofs.Common.{◌≡◌, ℕ, ◌<◌, ◌≤◌, ◌^◌, ◌==◌, nat_lt, nat_le, Bool, true, false, cond, List, [], ◌∷◌, ◌++◌, length, map, Option, Some, None, refl, ap, ◌∙◌, arith, rules, eq-eqb}
use Rattle.std.specs.Prelude.{codes, decimal}
use Rattle.std.specs.List.{list_all, flat_map, slice_split}
use Rattle.std.specs.Char.{digit_value}
use Rattle.std.proofs.lemmas.List.{append-nil}
use Rattle.std.proofs.lemmas.Bool.{lt-ltb, ltb-true}
use Rattle.std.proofs.lemmas.Bool.Decides.{nat_tests}
use Rattle.std.proofs.lemmas.Fmt.{decimal_is_IsNumeral, decimal_nonempty}
use Rattle.tm_word.specs.Prelude.{Text, is_solid, is_word, pieces, row_of, texts_equal}
use Rattle.tm_rules.specs.Types.{Answered, Base, EntryPlace, Heard, LearnReply, Mode, Move, NumberUnion, Range, Reason, learn_text}
use Rattle.tm_number.specs.Numbers.{number}
use Rattle.tm_addr.proofs.Free.{Free, free_digits, split_free, split_at}
use Rattle.tm_domain.proofs.NameLaws.{same_texts}
use Rattle.tm_number.specs.Numbers.{plain_of}
use Rattle.tm_line.specs.Printing.{number_spelling}
use Rattle.tm_line.specs.Written.{is_number}
use Rattle.tm_line.proofs.Steps.{both, all}
use Rattle.tm_line.proofs.WholeLaws.{solid_append, word_from, number_is}
use Rattle.tm_number.proofs.NumberLaws.{plain_again, plain_small}
use Rattle.tm_word.proofs.Named.{named_or}
use Rattle.tm_run.specs.RunText.{mode_word, place_text, reason_text, move_text, numbers_text, answer_text, heard_text}
use Rattle.tm_run.specs.Fields.{or_zero, number_of, u8_of, u32_of, u64_of, mode_of, reasons, case_of, reason_in, reason_of, way_of, move_in, move_of, numbers_of, answer_of, heard_in, heard_of, reply_of}
use Rattle.tm_run.specs.Written.{is_plain, is_wide, is_place, is_reason, is_move, is_heard}
use Rattle.tm_run.proofs.TextLaws.{word_solid, free_by}

-- ---- numbers

pub plain_wide : (n : ℕ) → is_plain n ≡ true → is_wide n ≡ true
plain_wide n h = lt-ltb n (2 ^ 64) (omega (arith, ltb-true n (2 ^ 32) h))

small_wide : (n : ℕ) → nat_lt n 256 ≡ true → is_wide n ≡ true
small_wide n h = lt-ltb n (2 ^ 64) (omega (arith, ltb-true n 256 h))

pub decimal_is : (n : ℕ) → is_wide n ≡ true → is_word (decimal n) ≡ true
unfolding is_number number_spelling
decimal_is n h =
    let r : Range = record { low = number Base.Decimal n; high = number Base.Decimal n } in
    let same : (n == n) ≡ true = eq-eqb n n refl in
    let le : nat_le n n ≡ true = search (rules, nat_tests) in
    rw same at (number_is (NumberUnion.One r) (rw (h, le) refl))

pub decimal_solid : (n : ℕ) → is_wide n ≡ true → is_solid (decimal n) ≡ true
decimal_solid n h = word_solid (decimal n) (decimal_is n h)

-- a byte that is no digit isn't in a number
decimal_free : (c n : ℕ) → 10 ≤ digit_value c → is_wide n ≡ true → Free c (decimal n)
decimal_free c n h k = free_digits c 10 (decimal n) h (decimal_is_IsNumeral n (ltb-true n (2 ^ 64) k)).0.1

number_again : (limit n : ℕ) → nat_lt n limit ≡ true → is_wide n ≡ true → number_of limit (decimal n) ≡ n
unfolding number_of
number_again limit n h k = ap or_zero (plain_again limit n (ltb-true n limit h) (ltb-true n (2 ^ 64) k))

pub plain_is : (n : ℕ) → is_plain n ≡ true → u32_of (decimal n) ≡ n
plain_is n h = number_again (2 ^ 32) n h (plain_wide n h)

pub wide_is : (n : ℕ) → is_wide n ≡ true → u64_of (decimal n) ≡ n
wide_is n h = number_again (2 ^ 64) n h h

small_is : (n : ℕ) → nat_lt n 256 ≡ true → u8_of (decimal n) ≡ n
small_is n h = number_again 256 n h (small_wide n h)

number_by : (limit : ℕ) (word : Text) (r : Option ℕ) → plain_of limit word ≡ r → nat_lt 0 limit ≡ true → nat_lt (or_zero r) limit ≡ true
number_by limit word (Some n) e h = lt-ltb n limit (plain_small limit n word e)
number_by limit word None e h = h

number_below : (limit : ℕ) (word : Text) → nat_lt 0 limit ≡ true → nat_lt (number_of limit word) limit ≡ true
unfolding number_of
number_below limit word h = number_by limit word (plain_of limit word) refl h

pub plain_below : (word : Text) → is_plain (u32_of word) ≡ true
plain_below word = number_below (2 ^ 32) word refl

pub wide_below : (word : Text) → is_wide (u64_of word) ≡ true
wide_below word = number_below (2 ^ 64) word refl

small_below : (word : Text) → nat_lt (u8_of word) 256 ≡ true
small_below word = number_below 256 word refl

-- ---- words

pub front_word : (front text : Text) → is_word front ≡ true → is_solid text ≡ true → is_word (front ++ text) ≡ true
front_word [] text h k = absurd cc
front_word (b ∷ front) text h k = word_from b (front ++ text) (solid_append (b ∷ front) text (word_solid (b ∷ front) h) k)

pub mode_is : (mode : Option Mode) → is_word (mode_word mode) ≡ true
mode_is None = refl
mode_is (Some Mode.Disabled) = refl
mode_is (Some Mode.Learning) = refl
mode_is (Some Mode.Permissive) = refl
mode_is (Some Mode.Enforcing) = refl

pub reply_is : (reply : LearnReply) → is_word (learn_text reply) ≡ true
reply_is LearnReply.Added = refl
reply_is LearnReply.There = refl
reply_is LearnReply.Quota = refl
reply_is LearnReply.Mode = refl

place_is : (place : EntryPlace) → is_place place ≡ true → is_word (place_text place) ≡ true
place_is (EntryPlace.Own place) h = front_word (codes "entry:") (decimal place) refl (decimal_solid place (plain_wide place h))
place_is (EntryPlace.Acl group place) h =
    let t = both (nat_lt group 256) (is_plain place) h in
    front_word (codes "group:") (decimal group ++ 58 ∷ decimal place) refl (solid_append (decimal group) (58 ∷ decimal place) (decimal_solid group (small_wide group t.0)) (solid_append (58 ∷ []) (decimal place) refl (decimal_solid place (plain_wide place t.1))))

pub reason_is : (reason : Reason) → is_reason reason ≡ true → is_word (reason_text reason) ≡ true
reason_is (Reason.Entry place) h = place_is place h
reason_is Reason.Disabled h = refl
reason_is Reason.Permissive h = refl
reason_is Reason.Quota h = refl
reason_is Reason.Learn h = refl
reason_is Reason.Ask h = refl
reason_is Reason.NoEntry h = refl
reason_is Reason.NotReady h = refl
reason_is Reason.NoManual h = refl

pub move_is : (move : Move) → is_move move ≡ true → is_word (move_text move) ≡ true
move_is Move.Stay h = refl
move_is (Move.Enter domain) h = front_word (codes "enter:") (decimal domain) refl (decimal_solid domain (plain_wide domain h))
move_is Move.Make h = refl
move_is Move.Fail h = refl

others_solid : (numbers : List ℕ) → list_all is_wide numbers ≡ true → is_solid (flat_map (λ other. 44 ∷ decimal other) numbers) ≡ true
others_solid [] h = refl
others_solid (n ∷ numbers) h =
    let t = both (is_wide n) (list_all is_wide numbers) h in
    solid_append (44 ∷ decimal n) (flat_map (λ other. 44 ∷ decimal other) numbers) (solid_append (44 ∷ []) (decimal n) refl (decimal_solid n t.0)) (others_solid numbers t.1)

pub numbers_are : (numbers : List ℕ) → list_all is_wide numbers ≡ true → is_word (numbers_text numbers) ≡ true
numbers_are [] h = refl
numbers_are (n ∷ numbers) h =
    let t = both (is_wide n) (list_all is_wide numbers) h in
    front_word (decimal n) (flat_map (λ other. 44 ∷ decimal other) numbers) (decimal_is n t.0) (others_solid numbers t.1)

answer_is : (answer : Option Answered) → is_word (answer_text answer) ≡ true
answer_is None = refl
answer_is (Some Answered.Yes) = refl
answer_is (Some Answered.No) = refl
answer_is (Some Answered.Retry) = refl
answer_is (Some Answered.Detached) = refl

pub heard_is : (heard : Option Heard) → is_heard heard ≡ true → is_word (heard_text heard) ≡ true
heard_is None h = refl
heard_is (Some heard) h = front_word (answer_text heard.answer) (64 ∷ decimal heard.version) (answer_is heard.answer) (solid_append (64 ∷ []) (decimal heard.version) refl (decimal_solid heard.version h))

-- ---- what is printed is read again

pub mode_again : (mode : Option Mode) → mode_of (mode_word mode) ≡ mode
unfolding mode_of
mode_again None = refl
mode_again (Some Mode.Disabled) = refl
mode_again (Some Mode.Learning) = refl
mode_again (Some Mode.Permissive) = refl
mode_again (Some Mode.Enforcing) = refl

pub reply_again : (reply : LearnReply) → reply_of (learn_text reply) ≡ reply
unfolding reply_of
reply_again LearnReply.Added = refl
reply_again LearnReply.There = refl
reply_again LearnReply.Quota = refl
reply_again LearnReply.Mode = refl

-- the pieces of a number are the number
pub one_piece : (c n : ℕ) → 10 ≤ digit_value c → is_wide n ≡ true → slice_split (λ b. b == c) (decimal n) ≡ decimal n ∷ []
one_piece c n h k = split_free c (decimal n) (decimal_free c n h k)

pub cut_front : (c : ℕ) (front text : Text) → Free c front → slice_split (λ b. b == c) (front ++ c ∷ text) ≡ front ∷ slice_split (λ b. b == c) text
cut_front c front text h = split_at c front text (eq-eqb c c refl) h

place_again : (place : EntryPlace) → is_place place ≡ true → reason_in (pieces 58 (place_text place)) ≡ Reason.Entry place
place_again (EntryPlace.Own place) h =
    let cut : pieces 58 (codes "entry:" ++ decimal place) ≡ codes "entry" ∷ decimal place ∷ [] = cut_front 58 (codes "entry") (decimal place) (free_by 58 (codes "entry") refl) ∙ ap (λ (ps : List Text). codes "entry" ∷ ps) (one_piece 58 place (omega arith) (plain_wide place h)) in
    ap reason_in cut ∙ ap (λ n. Reason.Entry (EntryPlace.Own n)) (plain_is place h)
place_again (EntryPlace.Acl group place) h =
    let t = both (nat_lt group 256) (is_plain place) h in
    let second : pieces 58 (decimal group ++ 58 ∷ decimal place) ≡ decimal group ∷ decimal place ∷ [] = cut_front 58 (decimal group) (decimal place) (decimal_free 58 group (omega arith) (small_wide group t.0)) ∙ ap (λ (ps : List Text). decimal group ∷ ps) (one_piece 58 place (omega arith) (plain_wide place t.1)) in
    let cut : pieces 58 (codes "group:" ++ decimal group ++ 58 ∷ decimal place) ≡ codes "group" ∷ decimal group ∷ decimal place ∷ [] = cut_front 58 (codes "group") (decimal group ++ 58 ∷ decimal place) (free_by 58 (codes "group") refl) ∙ ap (λ (ps : List Text). codes "group" ∷ ps) second in
    ap reason_in cut ∙ ap (λ g. Reason.Entry (EntryPlace.Acl g (u32_of (decimal place)))) (small_is group t.0) ∙ ap (λ n. Reason.Entry (EntryPlace.Acl group n)) (plain_is place t.1)

pub reason_again : (reason : Reason) → is_reason reason ≡ true → reason_of (reason_text reason) ≡ reason
unfolding reason_of case_of
reason_again (Reason.Entry place) h = place_again place h
reason_again Reason.Disabled h = refl
reason_again Reason.Permissive h = refl
reason_again Reason.Quota h = refl
reason_again Reason.Learn h = refl
reason_again Reason.Ask h = refl
reason_again Reason.NoEntry h = refl
reason_again Reason.NotReady h = refl
reason_again Reason.NoManual h = refl

enter_again : (domain : ℕ) → is_plain domain ≡ true → move_in (pieces 58 (codes "enter:" ++ decimal domain)) ≡ Move.Enter domain
enter_again domain h =
    let cut : pieces 58 (codes "enter:" ++ decimal domain) ≡ codes "enter" ∷ decimal domain ∷ [] = cut_front 58 (codes "enter") (decimal domain) (free_by 58 (codes "enter") refl) ∙ ap (λ (ps : List Text). codes "enter" ∷ ps) (one_piece 58 domain (omega arith) (plain_wide domain h)) in
    ap move_in cut ∙ ap Move.Enter (plain_is domain h)

pub move_again : (move : Move) → is_move move ≡ true → move_of (move_text move) ≡ move
unfolding move_of way_of
move_again Move.Stay h = refl
move_again (Move.Enter domain) h = enter_again domain h
move_again Move.Make h = refl
move_again Move.Fail h = refl

-- the numbers after the first, each after a comma
listed : (n : ℕ) (numbers : List ℕ) → is_wide n ≡ true → list_all is_wide numbers ≡ true → pieces 44 (decimal n ++ flat_map (λ other. 44 ∷ decimal other) numbers) ≡ decimal n ∷ map decimal numbers
listed n [] h k = ap (pieces 44) (append-nil (decimal n)) ∙ one_piece 44 n (omega arith) h
listed n (m ∷ numbers) h k =
    let t = both (is_wide m) (list_all is_wide numbers) k in
    cut_front 44 (decimal n) (decimal m ++ flat_map (λ other. 44 ∷ decimal other) numbers) (decimal_free 44 n (omega arith) h) ∙ ap (λ (ps : List Text). decimal n ∷ ps) (listed m numbers t.0 t.1)

each_again : (numbers : List ℕ) → list_all is_wide numbers ≡ true → map u64_of (map decimal numbers) ≡ numbers
each_again [] h = refl
each_again (n ∷ numbers) h =
    let t = both (is_wide n) (list_all is_wide numbers) h in
    ap (λ m. m ∷ map u64_of (map decimal numbers)) (wide_is n t.0) ∙ ap (λ (ns : List ℕ). n ∷ ns) (each_again numbers t.1)

-- a text that begins with another byte isn't `-`
begins_else : (text more : Text) → 0 < length text → Free 45 text → ¬ (text ++ more ≡ codes "-")
begins_else [] more h k e = absurd (omega (arith, h))
begins_else (b ∷ text) more h k e = let same : b ≡ 45 = cc in let yes : (b == 45) ≡ true = eq-eqb b 45 same in absurd (let no = k.0 in cc)

not_dash : (text : Text) (t : Bool) → texts_equal text (codes "-") ≡ t → ¬ (text ≡ codes "-") → t ≡ false
not_dash text true e h = absurd (h (same_texts text (codes "-") e))
not_dash text false e h = refl

pub numbers_again : (numbers : List ℕ) → list_all is_wide numbers ≡ true → numbers_of (numbers_text numbers) ≡ numbers
unfolding numbers_of
numbers_again [] h = refl
numbers_again (n ∷ numbers) h =
    let t = both (is_wide n) (list_all is_wide numbers) h in
    let text = decimal n ++ flat_map (λ other. 44 ∷ decimal other) numbers in
    let other : texts_equal text (codes "-") ≡ false = not_dash text _ refl (begins_else (decimal n) (flat_map (λ other. 44 ∷ decimal other) numbers) (decimal_nonempty n (ltb-true n (2 ^ 64) t.0)) (decimal_free 45 n (omega arith) t.0)) in
    rw other (ap (map u64_of) (listed n numbers t.0 t.1) ∙ each_again (n ∷ numbers) h)

answer_again : (answer : Option Answered) → answer_of (answer_text answer) ≡ answer
unfolding answer_of
answer_again None = refl
answer_again (Some Answered.Yes) = refl
answer_again (Some Answered.No) = refl
answer_again (Some Answered.Retry) = refl
answer_again (Some Answered.Detached) = refl

answer_free : (answer : Option Answered) → Free 64 (answer_text answer)
answer_free None = free_by 64 (codes "nobody") refl
answer_free (Some Answered.Yes) = free_by 64 (codes "yes") refl
answer_free (Some Answered.No) = free_by 64 (codes "no") refl
answer_free (Some Answered.Retry) = free_by 64 (codes "retry") refl
answer_free (Some Answered.Detached) = free_by 64 (codes "detached") refl

heard_by : Option Answered → ℕ → Option Heard
heard_by answer version = Some (record { answer = answer; version = version })

pub heard_again : (heard : Option Heard) → is_heard heard ≡ true → heard_of (heard_text heard) ≡ heard
unfolding heard_of heard_by
heard_again None h = refl
heard_again (Some heard) h =
    let cut : pieces 64 (answer_text heard.answer ++ 64 ∷ decimal heard.version) ≡ answer_text heard.answer ∷ decimal heard.version ∷ [] = cut_front 64 (answer_text heard.answer) (decimal heard.version) (answer_free heard.answer) ∙ ap (λ (ps : List Text). answer_text heard.answer ∷ ps) (one_piece 64 heard.version (omega arith) h) in
    ap heard_in cut ∙ ap (λ (a : Option Answered). heard_by a (u64_of (decimal heard.version))) (answer_again heard.answer) ∙ ap (heard_by heard.answer) (wide_is heard.version h)

-- ---- what is read is in its range

case_below : (word : Text) → is_reason (case_of word) ≡ true
unfolding case_of
case_below word = named_or is_reason (map (row_of reason_text) reasons) word Reason.NoManual refl refl

reason_in_below : (words : List Text) → is_reason (reason_in words) ≡ true
reason_in_below [] = refl
reason_in_below (word ∷ []) = case_below word
reason_in_below (word ∷ place ∷ []) = plain_below place
reason_in_below (word ∷ group ∷ place ∷ []) = all _ _ (small_below group) (plain_below place)
reason_in_below (word ∷ group ∷ place ∷ other ∷ others) = refl

pub reason_below : (word : Text) → is_reason (reason_of word) ≡ true
unfolding reason_of
reason_below word = reason_in_below (pieces 58 word)

any_way : (a b : Bool) → is_move (cond a Move.Stay (cond b Move.Make Move.Fail)) ≡ true
any_way true b = refl
any_way false true = refl
any_way false false = refl

way_below : (word : Text) → is_move (way_of word) ≡ true
unfolding way_of
way_below word = any_way (texts_equal word (codes "stay")) (texts_equal word (codes "make"))

move_in_below : (words : List Text) → is_move (move_in words) ≡ true
move_in_below [] = refl
move_in_below (word ∷ []) = way_below word
move_in_below (word ∷ domain ∷ []) = plain_below domain
move_in_below (word ∷ domain ∷ other ∷ others) = refl

pub move_below : (word : Text) → is_move (move_of word) ≡ true
unfolding move_of
move_below word = move_in_below (pieces 58 word)

each_below : (words : List Text) → list_all is_wide (map u64_of words) ≡ true
each_below [] = refl
each_below (word ∷ words) = all _ _ (wide_below word) (each_below words)

if_numbers : (b : Bool) (xs : List ℕ) → list_all is_wide xs ≡ true → list_all is_wide (cond b [] xs) ≡ true
if_numbers true xs h = refl
if_numbers false xs h = h

pub numbers_below : (word : Text) → list_all is_wide (numbers_of word) ≡ true
unfolding numbers_of
numbers_below word = if_numbers (texts_equal word (codes "-")) (map u64_of (pieces 44 word)) (each_below (pieces 44 word))

heard_in_below : (words : List Text) → is_heard (heard_in words) ≡ true
heard_in_below [] = refl
heard_in_below (word ∷ []) = refl
heard_in_below (answer ∷ version ∷ []) = wide_below version
heard_in_below (answer ∷ version ∷ other ∷ others) = refl

pub heard_below : (word : Text) → is_heard (heard_of word) ≡ true
unfolding heard_of
heard_below word = heard_in_below (pieces 64 word)
