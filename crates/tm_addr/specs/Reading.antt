-- texts of addresses and of ranges of addresses: what reading gives
use Rattle.std.specs.Prelude.{ℕ, ◌+◌, ◌-◌, ◌*◌, ◌/◌, ◌%◌, ◌^◌, ◌==◌, nat_le, Bool, true, false, ◌&&◌, if◌then◌else◌, List, [], ◌∷◌, length, take, drop, Option, Some, None, option_and_then, option_map, Result, Ok, Err}
use Rattle.std.specs.List.{list_any, position, slice_split}
use Rattle.std.specs.Str.Parse.{digits_value}
use Rattle.tm_number.specs.declared.Addr.{Addr}
use Rattle.tm_number.specs.declared.AddrRange.{AddrRange}
use Rattle.tm_number.specs.Numbers.{is_numeral, plain_of}
use Rattle.tm_number.specs.Addresses.{addr_le}
use Rattle.tm_addr.specs.declared.reading.Groups.{Groups}
use Rattle.tm_addr.specs.declared.reading.AddrFault.{AddrFault}
use Rattle.tm_addr.specs.declared.reading.AddrFault.TheVariants.{NotAnAddress, Mixed, Backwards}

infixl 10 ◌>>=◌
abbrev pub ◌>>=◌ : {A B : Type 0} → Option A → (A → Option B) → Option B
o >>= f = option_and_then f o

-- IPv4

-- a plain number, 0 to 255
abbrev pub octet_of : List ℕ → Option ℕ
octet_of piece = plain_of 256 piece

unfoldable pub quad_of : List ℕ → List ℕ → List ℕ → List ℕ → Option ℕ
quad_of first second third fourth = do
  a ← octet_of first
  b ← octet_of second
  c ← octet_of third
  d ← octet_of fourth
  Some (((a * 256 + b) * 256 + c) * 256 + d)

-- four such numbers
abbrev pub v4_at : List (List ℕ) → Option ℕ
v4_at [] = None
v4_at (a ∷ []) = None
v4_at (a ∷ b ∷ []) = None
v4_at (a ∷ b ∷ c ∷ []) = None
v4_at (a ∷ b ∷ c ∷ d ∷ []) = quad_of a b c d
v4_at (a ∷ b ∷ c ∷ d ∷ e ∷ rest) = None

-- joined by dots
unfoldable pub v4_of : List ℕ → Option ℕ
v4_of text = v4_at (slice_split (λ b. b == 46) text)

-- IPv6

-- one to four hexadecimal digits
unfoldable pub group_of : List ℕ → Option ℕ
group_of piece = if nat_le (length piece) 4 && is_numeral 16 piece then Some (digits_value 16 piece) else None

-- groups in a row: their value, and how many they are
abbrev pub groups : ℕ → ℕ → Groups
groups value count = record { value = value; count = count }

abbrev pub no_groups : Groups
no_groups = groups 0 0

abbrev pub with_group : Groups → ℕ → Groups
with_group before group = groups (before.value * 65536 + group) (before.count + 1)

-- an IPv4 address stands for two groups
abbrev pub with_quad : Groups → ℕ → Groups
with_quad before a = with_group (with_group before (a / 65536)) (a % 65536)

-- the last piece is a group, or an IPv4 address where one may stand
abbrev pub with_last : Bool → Groups → List ℕ → Option ℕ → Option Groups
with_last dotted before piece (Some group) = Some (with_group before group)
with_last true before piece None = option_map (λ a. with_quad before a) (v4_of piece)
with_last false before piece None = None

unfoldable pub last_of : Bool → Groups → List ℕ → Option Groups
last_of dotted before piece = with_last dotted before piece (group_of piece)

-- each other piece is a group
unfoldable pub groups_after : Bool → Groups → List (List ℕ) → Option Groups
groups_after dotted before [] = Some before
groups_after dotted before (piece ∷ []) = last_of dotted before piece
groups_after dotted before (piece ∷ next ∷ rest) = group_of piece >>= λ group. groups_after dotted (with_group before group) (next ∷ rest)

-- an address has eight groups at most
abbrev pub few : Option Groups → Option Groups
few None = None
few (Some found) = if nat_le found.count 8 then Some found else None

-- nothing, or groups joined by colons
unfoldable pub side_of : Bool → List ℕ → Option Groups
side_of dotted [] = Some no_groups
side_of dotted (b ∷ text) = few (groups_after dotted no_groups (slice_split (λ b. b == 58) (b ∷ text)))

-- the place of the first two colons side by side
abbrev pub is_gap : List ℕ → Bool
is_gap [] = false
is_gap (b ∷ []) = false
is_gap (b ∷ c ∷ text) = b == 58 && c == 58

abbrev pub gap_at : ℕ → List ℕ → Option ℕ
gap_at place [] = None
gap_at place (b ∷ text) = if is_gap (b ∷ text) then Some place else gap_at (place + 1) text

-- without `::` all eight groups
abbrev pub whole : Groups → Option ℕ
whole found = if found.count == 8 then Some found.value else None

-- `::` stands for one zero group or more between the highest groups and the lowest
abbrev pub around : Groups → Groups → Option ℕ
around front back = if nat_le (front.count + back.count) 7 then Some (front.value * 65536 ^ (8 - front.count) + back.value) else None

abbrev pub v6_at : Option ℕ → List ℕ → Option ℕ
v6_at None text = side_of true text >>= whole
v6_at (Some place) text = side_of false (take place text) >>= λ front. side_of true (drop (place + 2) text) >>= λ back. around front back

unfoldable pub v6_of : List ℕ → Option ℕ
v6_of text = v6_at (gap_at 0 text) text

-- Addresses and ranges

abbrev pub found_as : (ℕ → Addr) → Option ℕ → Result Addr AddrFault
found_as family (Some a) = Ok (family a)
found_as family None = Err NotAnAddress

-- an address with a colon is IPv6, any other IPv4
unfoldable pub addr_of : List ℕ → Result Addr AddrFault
addr_of text = if list_any (λ b. b == 58) text then found_as Addr.V6 (v6_of text) else found_as Addr.V4 (v4_of text)

abbrev pub range : Addr → Addr → AddrRange
range low high = record { low = low; high = high }

abbrev pub same_family : Addr → Addr → Bool
same_family (Addr.V4 a) (Addr.V4 b) = true
same_family (Addr.V6 a) (Addr.V6 b) = true
same_family _ _ = false

-- both ends of one family and in order
abbrev pub ends_of : Result Addr AddrFault → Result Addr AddrFault → Result AddrRange AddrFault
ends_of (Ok low) (Ok high) = if same_family low high then (if addr_le low high then Ok (range low high) else Err Backwards) else Err Mixed
ends_of (Ok low) (Err fault) = Err fault
ends_of (Err fault) high = Err fault

abbrev pub single : Result Addr AddrFault → Result AddrRange AddrFault
single (Ok a) = Ok (range a a)
single (Err fault) = Err fault

abbrev pub range_at : Option ℕ → List ℕ → Result AddrRange AddrFault
range_at None text = single (addr_of text)
range_at (Some place) text = ends_of (addr_of (take place text)) (addr_of (drop (place + 1) text))

-- one address, or two with a `-` between them
unfoldable pub range_of : List ℕ → Result AddrRange AddrFault
range_of text = range_at (position (λ b. b == 45) text) text
