-- Parts by the part of each record are parts of records; each record is in one that is there.
use Rattle.std.proofs.Common.{◌≡◌, ℕ, zero, suc, ◌+◌, ◌<◌, ◌==◌, nat_lt, Bool, true, false, cond, ◌&&◌, ◌||◌, List, [], ◌∷◌, ◌++◌, length, refl, ap, ◌∙◌, eq-eqb, eqb-true, arith}
use Rattle.std.specs.Prelude.{map, if◌then◌else◌}
use Rattle.std.specs.List.{filter, list_all}
use Rattle.std.proofs.lemmas.Bool.{ltb-true}
use Rattle.tm_word.specs.Prelude.{Text}
use Rattle.tm_sort.specs.declared.record.Record.{Record}
use Rattle.tm_sort.specs.declared.rules.Rule.{Rule}
use Rattle.tm_sort.specs.declared.parts.Part.{Part}
use Rattle.tm_sort.specs.Records.{record_text, records_text}
use Rattle.tm_sort.specs.Rules.{is_header, is_rule}
use Rattle.tm_script.specs.Written.{is_list}
use Rattle.tm_sort.specs.Routes.{accepts, dest}
use Rattle.tm_sort.specs.Parts.{part_numbers, is_part, sent_to, part_of, named_numbers, parts_of, count_in, text_in, part_in, total, PartsShare}

both : (a b : Bool) → (a && b) ≡ true → (a ≡ true) × (b ≡ true)
both true b e = (refl, e)
both false b e = absurd cc

-- ---- by the part of each record

count_same : (rules : List Rule) (number : ℕ) (items : List Record) → count_in number (map (dest rules) items) ≡ length (sent_to rules items number)
count_same rules number [] = refl
count_same rules number (item ∷ items) = by_dest (dest rules item == number) (count_same rules number items)
  where
    by_dest : (t : Bool) → count_in number (map (dest rules) items) ≡ length (sent_to rules items number)
        → (if t then count_in number (map (dest rules) items) + 1 else count_in number (map (dest rules) items)) ≡ length (cond t (item ∷ sent_to rules items number) (sent_to rules items number))
    by_dest true h = omega (arith, h)
    by_dest false h = h

text_same : (rules : List Rule) (number : ℕ) (items : List Record) → text_in number (map (dest rules) items) items ≡ records_text (sent_to rules items number)
text_same rules number [] = refl
text_same rules number (item ∷ items) = by_dest (dest rules item == number) (text_same rules number items)
  where
    by_dest : (t : Bool) → text_in number (map (dest rules) items) items ≡ records_text (sent_to rules items number)
        → (if t then record_text item ++ text_in number (map (dest rules) items) items else text_in number (map (dest rules) items) items)
        ≡ records_text (cond t (item ∷ sent_to rules items number) (sent_to rules items number))
    by_dest true h = ap (λ t. record_text item ++ t) h
    by_dest false h = h

abbrev part_by : ℕ → ℕ → Text → Part
part_by number count text = record { number = number; count = count; text = text }

part_same : (rules : List Rule) (items : List Record) (number : ℕ) → part_in (map (dest rules) items) items number ≡ part_of rules items number
part_same rules items number =
    ap (λ n. part_by number n (text_in number (map (dest rules) items) items)) (count_same rules number items) ∙ ap (part_by number (length (sent_to rules items number))) (text_same rules number items)

each_same : (rules : List Rule) (items : List Record) (numbers : List ℕ) → map (part_in (map (dest rules) items) items) numbers ≡ map (part_of rules items) numbers
each_same rules items [] = refl
each_same rules items (n ∷ numbers) = ap (λ p. p ∷ map (part_in (map (dest rules) items) items) numbers) (part_same rules items n) ∙ ap (λ ps. part_of rules items n ∷ ps) (each_same rules items numbers)

pub parts_same : (rules : List Rule) (items : List Record) (dests : List ℕ) (parts : List Part) → dests ≡ map (dest rules) items → parts ≡ map (part_in dests items) (filter (is_part rules) part_numbers) → parts ≡ parts_of rules items
unfolding parts_of
parts_same rules items dests parts d e = e ∙ ap (λ ds. map (part_in ds items) (named_numbers rules)) d ∙ each_same rules items (named_numbers rules)

-- ---- each record is in one part

or_front : (a b : Bool) → a ≡ true → (a || b) ≡ true
or_front a b h = rw h refl

or_between : (a b c : Bool) → (a || c) ≡ true → (a || (b || c)) ≡ true
or_between true b c h = refl
or_between false true c h = refl
or_between false false c h = h

or_middle : (a b c : Bool) → b ≡ true → (a || (b || c)) ≡ true
or_middle true b c h = refl
or_middle false b c h = or_front b c h

dest_named : (rules : List Rule) (item : Record) → is_part rules (dest rules item) ≡ true
dest_named [] item = refl
dest_named (rule ∷ rules) item = by_rule (accepts rule item) (dest_named rules item)
  where
    by_rule : (t : Bool) → is_part rules (dest rules item) ≡ true → is_part (rule ∷ rules) (if t then rule.dest else dest rules item) ≡ true
    by_rule true h = or_middle (rule.dest == 0) (rule.dest == rule.dest) _ (eq-eqb rule.dest rule.dest refl)
    by_rule false h = or_between (dest rules item == 0) (rule.dest == dest rules item) _ h

rule_small : (rule : Rule) → is_rule rule ≡ true → rule.dest < 16
unfolding is_rule
rule_small rule h =
    let t = both (nat_lt rule.dest 16 && is_header rule.header) (is_list rule.domain && is_list rule.line) h in
    ltb-true rule.dest 16 (both (nat_lt rule.dest 16) (is_header rule.header) t.0).0

dest_small : (rules : List Rule) (item : Record) → list_all is_rule rules ≡ true → dest rules item < 16
dest_small [] item h = omega arith
dest_small (rule ∷ rules) item h =
    let t = both (is_rule rule) (list_all is_rule rules) h in
    by_rule (accepts rule item) (rule_small rule t.0) (dest_small rules item t.1)
  where
    by_rule : (t : Bool) → rule.dest < 16 → dest rules item < 16 → (if t then rule.dest else dest rules item) < 16
    by_rule true h k = h
    by_rule false h k = k

-- how often a number stands in a list
abbrev times : ℕ → List ℕ → ℕ
times d [] = 0
times d (n ∷ ns) = if d == n then times d ns + 1 else times d ns

-- a record more is one more in each place where its part's number stands
one_more : (rules : List Rule) (items : List Record) (item : Record) (numbers : List ℕ)
    → total (λ number. length (sent_to rules (item ∷ items) number)) numbers ≡ total (λ number. length (sent_to rules items number)) numbers + times (dest rules item) numbers
one_more rules items item [] = omega arith
one_more rules items item (n ∷ numbers) = by_dest (dest rules item == n) (one_more rules items item numbers)
  where
    by_dest : (t : Bool)
        → total (λ number. length (sent_to rules (item ∷ items) number)) numbers ≡ total (λ number. length (sent_to rules items number)) numbers + times (dest rules item) numbers
        → length (cond t (item ∷ sent_to rules items n) (sent_to rules items n)) + total (λ number. length (sent_to rules (item ∷ items) number)) numbers
        ≡ (length (sent_to rules items n) + total (λ number. length (sent_to rules items number)) numbers) + (if t then times (dest rules item) numbers + 1 else times (dest rules item) numbers)
    by_dest true h = omega (arith, h)
    by_dest false h = omega (arith, h)

-- numbers that aren't named don't count
named_once : (rules : List Rule) (d : ℕ) (numbers : List ℕ) → is_part rules d ≡ true → times d (filter (is_part rules) numbers) ≡ times d numbers
named_once rules d [] h = refl
named_once rules d (n ∷ numbers) h = by_name (is_part rules n) refl (d == n) refl (named_once rules d numbers h)
  where
    by_name : (t : Bool) → is_part rules n ≡ t → (s : Bool) → (d == n) ≡ s → times d (filter (is_part rules) numbers) ≡ times d numbers
        → times d (cond t (n ∷ filter (is_part rules) numbers) (filter (is_part rules) numbers)) ≡ (if s then times d numbers + 1 else times d numbers)
    by_name true e true f k = rw f (ap (λ m. m + 1) k)
    by_name true e false f k = rw f k
    by_name false e true f k = absurd (let no : is_part rules d ≡ false = ap (is_part rules) (eqb-true d n f) ∙ e in cc)
    by_name false e false f k = k

once : (d : ℕ) → d < 16 → times d part_numbers ≡ 1
once zero h = refl
once (suc zero) h = refl
once (suc (suc zero)) h = refl
once (suc (suc (suc zero))) h = refl
once (suc (suc (suc (suc zero)))) h = refl
once (suc (suc (suc (suc (suc zero))))) h = refl
once (suc (suc (suc (suc (suc (suc zero)))))) h = refl
once (suc (suc (suc (suc (suc (suc (suc zero))))))) h = refl
once (suc (suc (suc (suc (suc (suc (suc (suc zero)))))))) h = refl
once (suc (suc (suc (suc (suc (suc (suc (suc (suc zero))))))))) h = refl
once (suc (suc (suc (suc (suc (suc (suc (suc (suc (suc zero)))))))))) h = refl
once (suc (suc (suc (suc (suc (suc (suc (suc (suc (suc (suc zero))))))))))) h = refl
once (suc (suc (suc (suc (suc (suc (suc (suc (suc (suc (suc (suc zero)))))))))))) h = refl
once (suc (suc (suc (suc (suc (suc (suc (suc (suc (suc (suc (suc (suc zero))))))))))))) h = refl
once (suc (suc (suc (suc (suc (suc (suc (suc (suc (suc (suc (suc (suc (suc zero)))))))))))))) h = refl
once (suc (suc (suc (suc (suc (suc (suc (suc (suc (suc (suc (suc (suc (suc (suc zero))))))))))))))) h = refl
once (suc (suc (suc (suc (suc (suc (suc (suc (suc (suc (suc (suc (suc (suc (suc (suc d)))))))))))))))) h = absurd (omega (arith, h))

none_sent : (numbers : List ℕ) (rules : List Rule) → total (λ number. length (sent_to rules [] number)) numbers ≡ 0
none_sent [] rules = refl
none_sent (n ∷ numbers) rules = let more = none_sent numbers rules in omega (arith, more)

all_sent : (rules : List Rule) (items : List Record) → list_all is_rule rules ≡ true → total (λ number. length (sent_to rules items number)) (named_numbers rules) ≡ length items
all_sent rules [] h = none_sent (named_numbers rules) rules
all_sent rules (item ∷ items) h =
    let more = one_more rules items item (named_numbers rules) in
    let here = named_once rules (dest rules item) part_numbers (dest_named rules item) ∙ once (dest rules item) (dest_small rules item h) in
    let rest = all_sent rules items h in
    omega (arith, more, here, rest)

pub parts_share : (rules : List Rule) (items : List Record) → list_all is_rule rules ≡ true → PartsShare rules items
parts_share rules items h = record { named = dest_named rules; small = λ item. dest_small rules item h; all = all_sent rules items h }
