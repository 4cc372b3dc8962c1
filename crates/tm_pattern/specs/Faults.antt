-- What is wrong with a text that is no pattern, by its tokens, and which fault is the first.
use Rattle.std.specs.Prelude.{◌≡◌, ℕ, ◌<◌, ◌≤◌, ◌&&◌, ◌||◌, not, if◌then◌else◌, Bool, true, false, List, [], ◌∷◌, ◌++◌, length, reverse, ◌⊎◌}
use Rattle.tm_word.specs.declared.Repeat.{Repeat}
use Rattle.tm_pattern.specs.declared.token.Token.{Token}
use Rattle.tm_pattern.specs.declared.token.Token.TheVariants as token
use Rattle.tm_pattern.specs.declared.token.Placed.{Placed}
use Rattle.tm_pattern.specs.declared.reading.PatternFault.{PatternFault}
use Rattle.tm_pattern.specs.declared.reading.PatternFault.TheVariants.{BadElement, LoneBrace, EmptyPart, NoMemory}
use Rattle.tm_pattern.specs.Tokens.{tokens}
use Rattle.tm_pattern.specs.Reading.{same_repeat, closes, is_slash, begins_with_slash}

-- What stands before a place is told the nearest first, and what stands after it in its order.

-- an opening of this kind stands before, in the same component
abbrev pub opens_at : Repeat → Token → Bool → Bool
opens_at kind token.Slash more = false
opens_at kind (token.Open other) more = if same_repeat kind other then true else more
opens_at kind _ more = more

abbrev pub opens : Repeat → List Placed → Bool
opens kind [] = false
opens kind (item ∷ before) = opens_at kind item.token (opens kind before)

-- nothing that a pattern has: a byte outside 33 to 126, or an escape that is none
abbrev pub is_bad : Token → Bool
is_bad token.Bad = true
is_bad _ = false

-- an opening has to stand directly after a slash, with its closing behind it in its component; a
-- closing directly before a slash, with its opening before it in its component
abbrev pub is_lone : List Placed → Token → List Placed → Bool
is_lone before (token.Open kind) after = not (begins_with_slash before && closes kind after)
is_lone before (token.Close kind) after = not (opens kind before && begins_with_slash after)
is_lone before _ after = false

-- a part has to come after a `\-` and after an opening
abbrev pub is_begun : Token → Bool
is_begun token.Minus = true
is_begun (token.Open kind) = true
is_begun _ = false

abbrev pub needs_part : List Placed → Bool
needs_part [] = false
needs_part (item ∷ before) = is_begun item.token

-- nothing of a component stands before
abbrev pub is_fresh : List Placed → Bool
is_fresh [] = true
is_fresh (item ∷ before) = is_slash item.token

-- a part ends at this token and is empty, and has to come: what is subtracted, what is repeated, or
-- what something is subtracted from
abbrev pub is_empty_part : List Placed → Token → Bool
is_empty_part before token.Minus = needs_part before || is_fresh before
is_empty_part before token.Slash = needs_part before
is_empty_part before (token.Close kind) = needs_part before
is_empty_part before _ = false

-- a fault at a token
abbrev pub IsFaultAt : List Placed → Placed → List Placed → PatternFault → Type 0
IsFaultAt before item after (BadElement place) =
    (is_bad item.token ≡ true) × (place ≡ item.place)
IsFaultAt before item after (LoneBrace place) =
    (is_lone before item.token after ≡ true) × (place ≡ item.place)
IsFaultAt before item after (EmptyPart place) =
    (is_empty_part before item.token ≡ true) × (place ≡ item.place)
IsFaultAt before item after NoMemory = ⊥

-- a fault at some token of a text
abbrev pub HasFaultWithin : List ℕ → PatternFault → Type 0
HasFaultWithin text fault =
    (before : List Placed) × (item : Placed) × (after : List Placed)
    × (tokens 0 0 text ≡ before ++ item ∷ after) × IsFaultAt (reverse before) item after fault

-- a text ends where a part has to come
abbrev pub HasFaultAtEnd : List ℕ → PatternFault → Type 0
HasFaultAtEnd text fault =
    (needs_part (reverse (tokens 0 0 text)) ≡ true) × (fault ≡ EmptyPart (length text))

-- a fault of a text
abbrev pub HasFault : List ℕ → PatternFault → Type 0
HasFault text fault = HasFaultWithin text fault ⊎ HasFaultAtEnd text fault

-- where a fault is
abbrev pub place_of : PatternFault → ℕ
place_of (BadElement place) = place
place_of (LoneBrace place) = place
place_of (EmptyPart place) = place
place_of NoMemory = 0

-- the order of faults at one place
abbrev pub rank_of : PatternFault → ℕ
rank_of (BadElement place) = 0
rank_of (LoneBrace place) = 1
rank_of (EmptyPart place) = 2
rank_of NoMemory = 3

-- a fault is told rather than another: the one at a smaller place, and at one place the one of a
-- smaller rank
abbrev pub IsNotAfter : PatternFault → PatternFault → Type 0
IsNotAfter fault other =
    (place_of fault < place_of other)
    ⊎ ((place_of fault ≡ place_of other) × (rank_of fault ≤ rank_of other))

-- the first of a text's faults
pub record IsFirstFault (text : List ℕ) (fault : PatternFault) : Type 0 where
  pub there : HasFault text fault
  pub first : (other : PatternFault) → HasFault text other → IsNotAfter fault other
