-- Records sorted into parts, and the summary.
use Rattle.std.specs.Prelude.{◌≡◌, ℕ, ◌+◌, ◌<◌, ◌==◌, ◌||◌, Bool, true, List, [], ◌∷◌, ◌++◌, length, map, codes, decimal, if◌then◌else◌}
use Rattle.std.specs.List.{filter, flat_map, list_all, list_any}
use Rattle.tm_word.specs.Prelude.{Text}
use Rattle.tm_sort.specs.declared.record.Record.{Record}
use Rattle.tm_sort.specs.declared.rules.Rule.{Rule}
use Rattle.tm_sort.specs.declared.parts.Part.{Part}
use Rattle.tm_sort.specs.Records.{record_text, records_text}
use Rattle.tm_sort.specs.Rules.{is_rule}
use Rattle.tm_sort.specs.Routes.{dest}

-- the parts that there can be
abbrev pub part_numbers : List ℕ
part_numbers = 0 ∷ 1 ∷ 2 ∷ 3 ∷ 4 ∷ 5 ∷ 6 ∷ 7 ∷ 8 ∷ 9 ∷ 10 ∷ 11 ∷ 12 ∷ 13 ∷ 14 ∷ 15 ∷ []

-- part 0 is always there, and the others where a rule names them
abbrev pub is_part : List Rule → ℕ → Bool
is_part rules number = number == 0 || list_any (λ (rule : Rule). rule.dest == number) rules

-- the records that a part takes, in order
abbrev pub sent_to : List Rule → List Record → ℕ → List Record
sent_to rules items number = filter (λ item. dest rules item == number) items

-- a part of records
abbrev pub part_of : List Rule → List Record → ℕ → Part
part_of rules items number = record { number = number; count = length (sent_to rules items number); text = records_text (sent_to rules items number) }

-- the numbers of the parts that are there, rising
abbrev pub named_numbers : List Rule → List ℕ
named_numbers rules = filter (is_part rules) part_numbers

-- the parts that are there, by rising number
unfoldable pub parts_of : List Rule → List Record → List Part
parts_of rules items = map (part_of rules items) (named_numbers rules)

-- ---- the same by the part of each record

abbrev pub count_in : ℕ → List ℕ → ℕ
count_in number [] = 0
count_in number (d ∷ ds) = if d == number then count_in number ds + 1 else count_in number ds

abbrev pub text_in : ℕ → List ℕ → List Record → Text
text_in number ds [] = []
text_in number [] (item ∷ items) = []
text_in number (d ∷ ds) (item ∷ items) = if d == number then record_text item ++ text_in number ds items else text_in number ds items

abbrev pub part_in : List ℕ → List Record → ℕ → Part
part_in dests items number = record { number = number; count = count_in number dests; text = text_in number dests items }

-- ---- the summary

-- `sent N K`
abbrev pub sent_line : Part → Text
sent_line part = codes "sent " ++ decimal part.number ++ codes " " ++ decimal part.count ++ 10 ∷ []

-- how many records there are, and a line for each part
abbrev pub summary_text : ℕ → List Part → Text
summary_text records parts = codes "records " ++ decimal records ++ 10 ∷ [] ++ flat_map sent_line parts

-- ---- the laws

-- how often a number stands in a list
abbrev pub total : (ℕ → ℕ) → List ℕ → ℕ
total count [] = 0
total count (n ∷ ns) = count n + total count ns

-- each record is in the one part that its first accepting rule names, which is there; so the parts
-- have as many records as there are
pub record PartsShare (rules : List Rule) (items : List Record) : Type 0 where
  pub named : (item : Record) → is_part rules (dest rules item) ≡ true
  pub small : (item : Record) → dest rules item < 16
  pub all : total (λ number. length (sent_to rules items number)) (named_numbers rules) ≡ length items

abbrev pub PartsShareRecords : Type 0
PartsShareRecords = (rules : List Rule) (items : List Record) → list_all is_rule rules ≡ true → PartsShare rules items
