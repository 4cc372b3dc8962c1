-- the one printed text of an address and of a range of addresses
use Rattle.std.specs.Prelude.{ℕ, ◌+◌, ◌/◌, ◌%◌, ◌<◌, ◌^◌, ◌==◌, nat_lt, nat_le, Bool, false, if◌then◌else◌, List, [], ◌∷◌, ◌++◌, take, drop}
use Rattle.std.specs.Fmt.{digits, decimal}
use Rattle.tm_number.specs.declared.Addr.{Addr}
use Rattle.tm_number.specs.declared.AddrRange.{AddrRange}
use Rattle.tm_addr.specs.declared.printing.Run.{Run}

-- four decimals joined by dots
unfoldable pub v4_spelling : ℕ → List ℕ
v4_spelling a = decimal (a / 16777216) ++ 46 ∷ (decimal (a / 65536 % 256) ++ 46 ∷ (decimal (a / 256 % 256) ++ 46 ∷ decimal (a % 256)))

-- the group at a place, from 0 for the lowest
abbrev pub group_at : ℕ → ℕ → ℕ
group_at a place = a / 65536 ^ place % 65536

-- the eight groups of an address, the highest first
unfoldable pub groups_in : ℕ → List ℕ
groups_in a = group_at a 7 ∷ group_at a 6 ∷ group_at a 5 ∷ group_at a 4 ∷ group_at a 3 ∷ group_at a 2 ∷ group_at a 1 ∷ group_at a 0 ∷ []

-- how many zero groups stand at the front
abbrev pub zeros : List ℕ → ℕ
zeros [] = 0
zeros (group ∷ rest) = if group == 0 then zeros rest + 1 else 0

abbrev pub run : ℕ → ℕ → Run
run place length = record { place = place; length = length }

abbrev pub longer : Run → Run → Run
longer best here = if nat_lt best.length here.length then here else best

-- the longest run of zero groups, the first of equal ones: the best before a place, against those
-- that begin from there on
unfoldable pub longest : Run → ℕ → List ℕ → Run
longest best place [] = best
longest best place (group ∷ rest) = longest (longer best (run place (zeros (group ∷ rest)))) (place + 1) rest

-- lower-case hexadecimal without leading zeros
abbrev pub group_spelling : ℕ → List ℕ
group_spelling group = digits 16 false group

-- joined by colons
abbrev pub joined : List ℕ → List ℕ
joined [] = []
joined (group ∷ []) = group_spelling group
joined (group ∷ next ∷ rest) = group_spelling group ++ 58 ∷ joined (next ∷ rest)

-- `::` in the place of a run of at least two zero groups
abbrev pub shortened : List ℕ → Run → List ℕ
shortened all zeros_run =
    if nat_le 2 zeros_run.length then joined (take zeros_run.place all) ++ 58 ∷ 58 ∷ joined (drop (zeros_run.place + zeros_run.length) all) else joined all

unfoldable pub v6_spelling : ℕ → List ℕ
v6_spelling a = shortened (groups_in a) (longest (run 0 0) 0 (groups_in a))

-- the value fits its family
abbrev pub IsAddr : Addr → Type 0
IsAddr (Addr.V4 a) = a < 2 ^ 32
IsAddr (Addr.V6 a) = a < 2 ^ 128

-- the printed text of an address
abbrev pub addr_spelling : Addr → List ℕ
addr_spelling (Addr.V4 a) = v4_spelling a
addr_spelling (Addr.V6 a) = v6_spelling a

abbrev pub same_addr : Addr → Addr → Bool
same_addr (Addr.V4 a) (Addr.V4 b) = a == b
same_addr (Addr.V6 a) (Addr.V6 b) = a == b
same_addr _ _ = false

-- equal ends as one address
abbrev pub addr_range_spelling : AddrRange → List ℕ
addr_range_spelling r = if same_addr r.low r.high then addr_spelling r.low else addr_spelling r.low ++ 45 ∷ addr_spelling r.high
