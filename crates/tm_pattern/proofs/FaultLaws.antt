-- The fault that reading a pattern gives is the first one, and what is read has none.
use mathlib.Core.List.{reverse_aux}
use Rattle.std.proofs.Common.{◌≡◌, ℕ, zero, suc, ◌+◌, ◌-◌, ◌≤◌, ◌==◌, nat_lt, Bool, true, false, cond, ◌&&◌, not, List, [], ◌∷◌, ◌++◌, length, Option, Some, None, Result, Ok, Err, ◌⊎◌, inl, inr, refl, sym, ap, subst, ◌∙◌, arith}
use Rattle.std.proofs.lemmas.Bool.{ne_eqb}
use Rattle.tm_word.specs.Prelude.{octal_value, ◌>>=◌}
use Rattle.tm_word.specs.declared.Element.{Element}
use Rattle.tm_word.specs.declared.Component.{Component}
use Rattle.tm_word.specs.declared.Repeat.{Repeat}
use Rattle.tm_word.specs.declared.Repeat.TheVariants.{Once, OneOrMore, ZeroOrMore}
use Rattle.tm_pattern.specs.declared.token.Token.{Token}
use Rattle.tm_pattern.specs.declared.token.Token.TheVariants as token
use Rattle.tm_pattern.specs.declared.token.Placed.{Placed}
use Rattle.tm_pattern.specs.declared.token.Sized.{Sized}
use Rattle.tm_pattern.specs.declared.reading.PatternFault.{PatternFault}
use Rattle.tm_pattern.specs.declared.reading.PatternFault.TheVariants.{BadElement, LoneBrace, EmptyPart, NoMemory}
use Rattle.tm_pattern.specs.declared.reading.Stage.{Stage}
use Rattle.tm_pattern.specs.declared.reading.Stage.TheVariants as stage
use Rattle.tm_pattern.specs.declared.reading.State.{State}
use Rattle.tm_pattern.specs.Tokens.{named, octal_token, octal_at, named_or_octal, escape_at, token_at, tokens, sized}
use Rattle.tm_pattern.specs.Reading.{same_repeat, closes, begins_with_slash, is_slash, added, opened, closed, cut_front, cut, begun, finished, stepped, step, ended_at, ended, parsed, pattern_of}
use Rattle.tm_pattern.specs.Faults.{opens, is_bad, is_lone, needs_part, is_fresh, is_empty_part, IsFaultAt, HasFault, place_of, rank_of, IsNotAfter, IsFirstFault}
use Rattle.tm_pattern.proofs.ReadLaws.{chosen, both, ok_is, never_ok}

-- ---- the first fault at one token

-- the fault of a token that is bad, alone, or ends an empty part
abbrev fault_here : Bool → Bool → Bool → ℕ → Option PatternFault
fault_here bad lone empty place =
    cond bad (Some (BadElement place)) (cond lone (Some (LoneBrace place)) (cond empty (Some (EmptyPart place)) None))

abbrev fault_at : List Placed → Token → List Placed → ℕ → Option PatternFault
fault_at before t after place = fault_here (is_bad t) (is_lone before t after) (is_empty_part before t) place

-- one of the faults that these tests tell
abbrev IsHere : Bool → Bool → Bool → ℕ → PatternFault → Type 0
IsHere bad lone empty place (BadElement at) = (bad ≡ true) × (at ≡ place)
IsHere bad lone empty place (LoneBrace at) = (lone ≡ true) × (at ≡ place)
IsHere bad lone empty place (EmptyPart at) = (empty ≡ true) × (at ≡ place)
IsHere bad lone empty place NoMemory = ⊥

here_from : (before : List Placed) (item : Placed) (after : List Placed) (fault : PatternFault) → IsFaultAt before item after fault
    → IsHere (is_bad item.token) (is_lone before item.token after) (is_empty_part before item.token) item.place fault
here_from before item after (BadElement at) h = h
here_from before item after (LoneBrace at) h = h
here_from before item after (EmptyPart at) h = h
here_from before item after NoMemory h = h

here_to : (before : List Placed) (item : Placed) (after : List Placed) (fault : PatternFault)
    → IsHere (is_bad item.token) (is_lone before item.token after) (is_empty_part before item.token) item.place fault → IsFaultAt before item after fault
here_to before item after (BadElement at) h = h
here_to before item after (LoneBrace at) h = h
here_to before item after (EmptyPart at) h = h
here_to before item after NoMemory h = h

some_fault : (x y : PatternFault) → Some x ≡ Some y → x ≡ y
some_fault x y e = cc

record IsLeast (bad lone empty : Bool) (place : ℕ) (fault : PatternFault) : Type 0 where
  there : IsHere bad lone empty place fault
  first : (other : PatternFault) → IsHere bad lone empty place other → IsNotAfter fault other
  at : place_of fault ≡ place

at_one : (fault other : PatternFault) → place_of fault ≡ place_of other → rank_of fault ≤ rank_of other → IsNotAfter fault other
at_one fault other same low = inr (same, low)

least : (bad lone empty : Bool) (place : ℕ) (fault : PatternFault) → fault_here bad lone empty place ≡ Some fault → IsLeast bad lone empty place fault
least true lone empty place fault e = subst (IsLeast true lone empty place) (some_fault (BadElement place) fault e) (record { there = (refl, refl); first = first; at = refl })
  where
    first : (other : PatternFault) → IsHere true lone empty place other → IsNotAfter (BadElement place) other
    first (BadElement at) h = at_one (BadElement place) (BadElement at) (sym h.1) (omega arith)
    first (LoneBrace at) h = at_one (BadElement place) (LoneBrace at) (sym h.1) (omega arith)
    first (EmptyPart at) h = at_one (BadElement place) (EmptyPart at) (sym h.1) (omega arith)
    first NoMemory h = absurd h
least false true empty place fault e = subst (IsLeast false true empty place) (some_fault (LoneBrace place) fault e) (record { there = (refl, refl); first = first; at = refl })
  where
    first : (other : PatternFault) → IsHere false true empty place other → IsNotAfter (LoneBrace place) other
    first (BadElement at) h = absurd cc
    first (LoneBrace at) h = at_one (LoneBrace place) (LoneBrace at) (sym h.1) (omega arith)
    first (EmptyPart at) h = at_one (LoneBrace place) (EmptyPart at) (sym h.1) (omega arith)
    first NoMemory h = absurd h
least false false true place fault e = subst (IsLeast false false true place) (some_fault (EmptyPart place) fault e) (record { there = (refl, refl); first = first; at = refl })
  where
    first : (other : PatternFault) → IsHere false false true place other → IsNotAfter (EmptyPart place) other
    first (BadElement at) h = absurd cc
    first (LoneBrace at) h = absurd cc
    first (EmptyPart at) h = at_one (EmptyPart place) (EmptyPart at) (sym h.1) (omega arith)
    first NoMemory h = absurd h
least false false false place fault e = absurd cc

none_here : (bad lone empty : Bool) (place : ℕ) (other : PatternFault) → fault_here bad lone empty place ≡ None → ¬ IsHere bad lone empty place other
none_here true lone empty place other e h = absurd cc
none_here false true empty place other e h = absurd cc
none_here false false true place other e h = absurd cc
none_here false false false place (BadElement at) e h = absurd cc
none_here false false false place (LoneBrace at) e h = absurd cc
none_here false false false place (EmptyPart at) e h = absurd cc
none_here false false false place NoMemory e h = h

-- ---- marks

-- the marks of a text are openings and closings of what is repeated
abbrev is_mark : Repeat → Bool
is_mark Once = false
is_mark OneOrMore = true
is_mark ZeroOrMore = true

abbrev is_real : Token → Bool
is_real (token.Open kind) = is_mark kind
is_real (token.Close kind) = is_mark kind
is_real _ = true

abbrev all_real : List Placed → Bool
all_real [] = true
all_real (item ∷ items) = is_real item.token && all_real items

abbrev real_or : Option Token → Bool
real_or None = true
real_or (Some t) = is_real t

either : (b : Bool) (x y : Option Token) → real_or x ≡ true → real_or y ≡ true → real_or (cond b x y) ≡ true
either true x y h k = h
either false x y h k = k

named_real : (d : ℕ) → real_or (named d) ≡ true
named_real d =
    either (d == 92) _ _ refl (either (d == 42) _ _ refl (either (d == 64) _ _ refl (either (d == 63) _ _ refl
    (either (d == 36) _ _ refl (either (d == 43) _ _ refl (either (d == 88) _ _ refl (either (d == 120) _ _ refl
    (either (d == 65) _ _ refl (either (d == 97) _ _ refl (either (d == 45) _ _ refl (either (d == 123) _ _ refl
    (either (d == 125) _ _ refl (either (d == 40) _ _ refl (either (d == 41) _ _ refl refl))))))))))))))

octal_real : (o : Option ℕ) → is_real (octal_token o).token ≡ true
octal_real None = refl
octal_real (Some b) = refl

octal_at_real : (text : List ℕ) → is_real (octal_at text).token ≡ true
octal_at_real [] = refl
octal_at_real (a ∷ []) = refl
octal_at_real (a ∷ b ∷ []) = refl
octal_at_real (a ∷ b ∷ c ∷ text) = octal_real (octal_value a b c)

or_octal_real : (o : Option Token) (text : List ℕ) → real_or o ≡ true → is_real (named_or_octal o text).token ≡ true
or_octal_real (Some t) text h = h
or_octal_real None text h = octal_at_real text

escape_real : (text : List ℕ) → is_real (escape_at text).token ≡ true
escape_real [] = refl
escape_real (b ∷ text) = or_octal_real (named b) (b ∷ text) (named_real b)

token_real : (b : ℕ) (text : List ℕ) → is_real (token_at b text).token ≡ true
unfolding token_at
token_real b text = one (b == 47) (sized token.Slash 0) _ refl (one (b == 92) (escape_at text) _ (escape_real text) (one (nat_lt 32 b && nat_lt b 127) _ _ refl refl))
  where
    one : (t : Bool) (x y : Sized) → is_real x.token ≡ true → is_real y.token ≡ true → is_real (cond t x y).token ≡ true
    one true x y h k = h
    one false x y h k = k

tokens_real : (text : List ℕ) (place skip : ℕ) → all_real (tokens place skip text) ≡ true
tokens_real [] place skip = refl
tokens_real (b ∷ text) place zero = rw (token_real b text, tokens_real text (place + 1) (token_at b text).more) refl
tokens_real (b ∷ text) place (suc k) =
    let no : (suc k == 0) ≡ false = ne_eqb (suc k) 0 (λ h. absurd (omega (arith, h))) in
    rw no (tokens_real text (place + 1) (suc k - 1))

-- ---- places

-- places rise from this one on, up to the end
abbrev Rises : ℕ → ℕ → List Placed → Type 0
Rises end at [] = at ≤ end
Rises end at (item ∷ items) = (at ≤ item.place) × Rises end (item.place + 1) items

rises_from : (items : List Placed) (end low at : ℕ) → low ≤ at → Rises end at items → Rises end low items
rises_from [] end low at le h = omega arith
rises_from (item ∷ items) end low at le h = (omega arith, h.1)

tokens_rise : (text : List ℕ) (place skip : ℕ) → Rises (place + length text) place (tokens place skip text)
tokens_rise [] place skip = omega arith
tokens_rise (b ∷ text) place zero =
    let same : place + 1 + length text ≡ place + suc (length text) = omega arith in
    (omega arith, subst (λ (end : ℕ). Rises end (place + 1) (tokens (place + 1) (token_at b text).more text)) same (tokens_rise text (place + 1) (token_at b text).more))
tokens_rise (b ∷ text) place (suc k) =
    let no : (suc k == 0) ≡ false = ne_eqb (suc k) 0 (λ h. absurd (omega (arith, h))) in
    let same : place + 1 + length text ≡ place + suc (length text) = omega arith in
    rw no (subst (λ (end : ℕ). Rises end place (tokens (place + 1) (suc k - 1) text)) same
    (rises_from (tokens (place + 1) (suc k - 1) text) (place + 1 + length text) place (place + 1) (omega arith) (tokens_rise text (place + 1) (suc k - 1))))

-- ---- faults from a token on

abbrev FaultFrom : List Placed → List Placed → ℕ → PatternFault → Type 0
FaultFrom before [] end fault = (needs_part before ≡ true) × (fault ≡ EmptyPart end)
FaultFrom before (item ∷ after) end fault = IsFaultAt before item after fault ⊎ FaultFrom (item ∷ before) after end fault

at_its_place : (before : List Placed) (item : Placed) (after : List Placed) (fault : PatternFault) → IsFaultAt before item after fault → place_of fault ≡ item.place
at_its_place before item after (BadElement at) h = h.1
at_its_place before item after (LoneBrace at) h = h.1
at_its_place before item after (EmptyPart at) h = h.1
at_its_place before item after NoMemory h = absurd h

later : (items before : List Placed) (end at : ℕ) (fault : PatternFault) → Rises end at items → FaultFrom before items end fault → at ≤ place_of fault
later [] before end at fault rises h = let e : place_of fault ≡ end = ap place_of h.1 in omega arith
later (item ∷ items) before end at fault rises (inl h) = let e = at_its_place before item items fault h in let le = rises.0 in omega arith
later (item ∷ items) before end at fault rises (inr h) = let le = later items (item ∷ before) end (item.place + 1) fault rises.1 h in let low = rises.0 in omega arith

from_token : (middle before : List Placed) (item : Placed) (after : List Placed) (end : ℕ) (fault : PatternFault) → IsFaultAt (reverse_aux middle before) item after fault → FaultFrom before (middle ++ item ∷ after) end fault
from_token [] before item after end fault h = inl h
from_token (m ∷ middle) before item after end fault h = inr (from_token middle (m ∷ before) item after end fault h)

from_end : (items before : List Placed) (end : ℕ) → needs_part (reverse_aux items before) ≡ true → FaultFrom before items end (EmptyPart end)
from_end [] before end h = (h, refl)
from_end (m ∷ items) before end h = inr (from_end items (m ∷ before) end h)

abbrev FaultOf : List Placed → List Placed → ℕ → PatternFault → Type 0
FaultOf before items end fault =
    ((middle : List Placed) × (item : Placed) × (after : List Placed) × (items ≡ middle ++ item ∷ after) × IsFaultAt (reverse_aux middle before) item after fault)
    ⊎ ((needs_part (reverse_aux items before) ≡ true) × (fault ≡ EmptyPart end))

to_fault : (items before : List Placed) (end : ℕ) (fault : PatternFault) → FaultFrom before items end fault → FaultOf before items end fault
to_fault [] before end fault h = inr h
to_fault (m ∷ items) before end fault (inl h) = inl ([], m, items, refl, h)
to_fault (m ∷ items) before end fault (inr h) =
    elim (to_fault items (m ∷ before) end fault h) [ inl f ↦ inl (m ∷ f.0, f.1, f.2, ap (λ xs. m ∷ xs) f.3, f.4) | inr e ↦ inr e ]

has_from : (text : List ℕ) (fault : PatternFault) → HasFault text fault → FaultFrom [] (tokens 0 0 text) (length text) fault
has_from text fault (inl h) = subst (λ (items : List Placed). FaultFrom [] items (length text) fault) (sym h.3) (from_token h.0 [] h.1 h.2 (length text) fault h.4)
has_from text fault (inr h) = subst (FaultFrom [] (tokens 0 0 text) (length text)) (sym h.1) (from_end (tokens 0 0 text) [] (length text) h.0)

has_to : (text : List ℕ) (fault : PatternFault) → FaultFrom [] (tokens 0 0 text) (length text) fault → HasFault text fault
has_to text fault h = to_fault (tokens 0 0 text) [] (length text) fault h

-- ---- the machine, after what stands before

abbrev needs_at : Stage → Bool
needs_at stage.Needs = true
needs_at _ = false

abbrev fresh_at : Stage → Bool
fresh_at stage.Start = true
fresh_at stage.After = true
fresh_at _ = false

abbrev slash_at : Stage → Bool
slash_at stage.After = true
slash_at _ = false

-- a closing has been read before a slash, or an opening still has its closing
abbrev Follows : Stage → Repeat → List Placed → Type 0
Follows stage.Closed kind rest = begins_with_slash rest ≡ true
Follows _ kind rest = is_mark kind ≡ true → closes kind rest ≡ true

record IsReached (before : List Placed) (s : State) (at : Stage) (rest : List Placed) : Type 0 where
  needs : needs_part before ≡ needs_at at
  fresh : is_fresh before ≡ fresh_at at
  slash : begins_with_slash before ≡ slash_at at
  marks : (kind : Repeat) → is_mark kind ≡ true → opens kind before ≡ same_repeat s.repeat kind
  follows : Follows at s.repeat rest

abbrev failed : {A : Type 0} → PatternFault → Result A PatternFault
failed fault = Err fault

abbrev fault_of : Result State PatternFault → Option PatternFault
fault_of (Ok s) = None
fault_of (Err fault) = Some fault

once_at_slash : (kind : Repeat) → (is_mark kind ≡ true → false ≡ true) → same_repeat kind Once ≡ true
once_at_slash Once h = refl
once_at_slash OneOrMore h = absurd (let e = h refl in cc)
once_at_slash ZeroOrMore h = absurd (let e = h refl in cc)

slash_or : (s : State) (place : ℕ) (b : Bool) → b ≡ true → fault_of (cond b (Ok (begun (finished s) stage.After)) (Err (LoneBrace place))) ≡ None
slash_or s place true e = refl
slash_or s place false e = absurd cc

open_or : (s : State) (kind : Repeat) (place : ℕ) (slash b : Bool) → slash ≡ true
    → fault_of (cond b (Ok (opened s kind)) (Err (LoneBrace place))) ≡ fault_here false (not (slash && b)) false place
open_or s kind place true true e = refl
open_or s kind place true false e = refl
open_or s kind place false b e = absurd cc

close_or : (s : State) (place : ℕ) (same opens slash needs : Bool) → opens ≡ same → needs ≡ false
    → fault_of (cond (same && slash) (Ok (closed s)) (Err (LoneBrace place))) ≡ fault_here false (not (opens && slash)) needs place
close_or s place true true true false e h = refl
close_or s place true true false false e h = refl
close_or s place false false slash false e h = refl
close_or s place true false slash needs e h = absurd cc
close_or s place false true slash needs e h = absurd cc
close_or s place same opens slash true e h = absurd cc

close_empty : (place : ℕ) (same opens slash needs : Bool) → opens ≡ same → needs ≡ true
    → fault_of (cond (same && slash) (Err (EmptyPart place)) (Err (LoneBrace place))) ≡ fault_here false (not (opens && slash)) needs place
close_empty place true true true true e h = refl
close_empty place true true false true e h = refl
close_empty place false false slash true e h = refl
close_empty place true false slash needs e h = absurd cc
close_empty place false true slash needs e h = absurd cc
close_empty place same opens slash false e h = absurd cc

fresh_opens : (kind : Repeat) (before : List Placed) → is_fresh before ≡ true → opens kind before ≡ false
fresh_opens kind [] e = refl
fresh_opens kind (item ∷ before) e = by item.token e
  where
    by : (t : Token) → is_slash t ≡ true → opens kind (record item { token = t } ∷ before) ≡ false
    by token.Slash e = refl
    by token.Bad e = absurd cc
    by token.Minus e = absurd cc
    by (token.Element x) e = absurd cc
    by (token.Open other) e = absurd cc
    by (token.Close other) e = absurd cc

lone_open : (place : ℕ) (slash b : Bool) → slash ≡ false → Some (LoneBrace place) ≡ fault_here false (not (slash && b)) false place
lone_open place false b e = refl
lone_open place true b e = absurd cc

lone_close : (place : ℕ) (opens slash needs : Bool) → opens ≡ false → Some (LoneBrace place) ≡ fault_here false (not (opens && slash)) needs place
lone_close place false slash needs e = refl
lone_close place true slash needs e = absurd cc

-- which fault a step gives
steps_to : (before : List Placed) (s : State) (at : Stage) (item : Placed) (t : Token) (rest : List Placed) → item.token ≡ t → is_real t ≡ true
    → IsReached before s at (item ∷ rest) → fault_of (stepped s at t item.place rest) ≡ fault_at before t rest item.place
steps_to before s stage.Start item token.Bad rest is real h = refl
steps_to before s stage.After item token.Bad rest is real h = refl
steps_to before s stage.Needs item token.Bad rest is real h = refl
steps_to before s stage.Has item token.Bad rest is real h = refl
steps_to before s stage.Closed item token.Bad rest is real h = refl
steps_to before s stage.Start item (token.Element e) rest is real h = refl
steps_to before s stage.After item (token.Element e) rest is real h = refl
steps_to before s stage.Needs item (token.Element e) rest is real h = refl
steps_to before s stage.Has item (token.Element e) rest is real h = refl
steps_to before s stage.Closed item (token.Element e) rest is real h = absurd (let no : is_slash item.token ≡ true = h.follows in let f = rw is at no in cc)
steps_to before s stage.Start item token.Slash rest is real h =
    slash_or s item.place (same_repeat s.repeat Once) (once_at_slash s.repeat (rw is at h.follows)) ∙ rw h.needs refl
steps_to before s stage.After item token.Slash rest is real h =
    slash_or s item.place (same_repeat s.repeat Once) (once_at_slash s.repeat (rw is at h.follows)) ∙ rw h.needs refl
steps_to before s stage.Needs item token.Slash rest is real h = rw h.needs refl
steps_to before s stage.Has item token.Slash rest is real h =
    slash_or s item.place (same_repeat s.repeat Once) (once_at_slash s.repeat (rw is at h.follows)) ∙ rw h.needs refl
steps_to before s stage.Closed item token.Slash rest is real h = rw h.needs refl
steps_to before s stage.Start item (token.Open kind) rest is real h = lone_open item.place (begins_with_slash before) (closes kind rest) h.slash
steps_to before s stage.After item (token.Open kind) rest is real h = open_or s kind item.place (begins_with_slash before) (closes kind rest) h.slash
steps_to before s stage.Needs item (token.Open kind) rest is real h = lone_open item.place (begins_with_slash before) (closes kind rest) h.slash
steps_to before s stage.Has item (token.Open kind) rest is real h = lone_open item.place (begins_with_slash before) (closes kind rest) h.slash
steps_to before s stage.Closed item (token.Open kind) rest is real h = absurd (let no : is_slash item.token ≡ true = h.follows in let f = rw is at no in cc)
steps_to before s stage.Start item (token.Close kind) rest is real h = lone_close item.place (opens kind before) (begins_with_slash rest) (needs_part before) (fresh_opens kind before h.fresh)
steps_to before s stage.After item (token.Close kind) rest is real h = lone_close item.place (opens kind before) (begins_with_slash rest) (needs_part before) (fresh_opens kind before h.fresh)
steps_to before s stage.Needs item (token.Close kind) rest is real h = close_empty item.place (same_repeat s.repeat kind) (opens kind before) (begins_with_slash rest) (needs_part before) (h.marks kind real) h.needs
steps_to before s stage.Has item (token.Close kind) rest is real h = close_or s item.place (same_repeat s.repeat kind) (opens kind before) (begins_with_slash rest) (needs_part before) (h.marks kind real) h.needs
steps_to before s stage.Closed item (token.Close kind) rest is real h = absurd (let no : is_slash item.token ≡ true = h.follows in let f = rw is at no in cc)
steps_to before s stage.Start item token.Minus rest is real h = rw (h.needs, h.fresh) refl
steps_to before s stage.After item token.Minus rest is real h = rw (h.needs, h.fresh) refl
steps_to before s stage.Needs item token.Minus rest is real h = rw h.needs refl
steps_to before s stage.Has item token.Minus rest is real h = rw (h.needs, h.fresh) refl
steps_to before s stage.Closed item token.Minus rest is real h = absurd (let no : is_slash item.token ≡ true = h.follows in let f = rw is at no in cc)

-- what is reached by a step

same_back : (a b : Repeat) → same_repeat a b ≡ same_repeat b a
same_back Once Once = refl
same_back Once OneOrMore = refl
same_back Once ZeroOrMore = refl
same_back OneOrMore Once = refl
same_back OneOrMore OneOrMore = refl
same_back OneOrMore ZeroOrMore = refl
same_back ZeroOrMore Once = refl
same_back ZeroOrMore OneOrMore = refl
same_back ZeroOrMore ZeroOrMore = refl

opened_here : (a b : Repeat) (more : Bool) → more ≡ false → cond (same_repeat a b) true more ≡ same_repeat b a
opened_here a b false e = or_false (same_repeat a b) ∙ same_back a b
  where
    or_false : (t : Bool) → cond t true false ≡ t
    or_false true = refl
    or_false false = refl
opened_here a b true e = absurd cc

once_opens : (kind : Repeat) → is_mark kind ≡ true → false ≡ same_repeat Once kind
once_opens Once e = absurd cc
once_opens OneOrMore e = refl
once_opens ZeroOrMore e = refl

element_reaches : (before : List Placed) (s : State) (at : Stage) (item : Placed) (e : Element) (rest : List Placed) → item.token ≡ token.Element e
    → IsReached before s at (item ∷ rest) → (is_mark s.repeat ≡ true → closes s.repeat rest ≡ true) → IsReached (item ∷ before) (added s e) stage.Has rest
element_reaches before s at item e rest is h follows = record { needs = rw is refl; fresh = rw is refl; slash = rw is refl; marks = λ kind m. rw is (h.marks kind m); follows = follows }

slash_reaches : (before : List Placed) (s : State) (item : Placed) (rest : List Placed) → item.token ≡ token.Slash → IsReached (item ∷ before) (begun (finished s) stage.After) stage.After rest
slash_reaches before s item rest is = record { needs = rw is refl; fresh = rw is refl; slash = rw is refl; marks = λ kind m. rw is (once_opens kind m); follows = λ m. absurd cc }

open_reaches : (before : List Placed) (s : State) (item : Placed) (kind : Repeat) (rest : List Placed) → item.token ≡ token.Open kind
    → IsReached before s stage.After (item ∷ rest) → closes kind rest ≡ true → IsReached (item ∷ before) (opened s kind) stage.Needs rest
open_reaches before s item kind rest is h closing = record {
  needs = rw is refl;
  fresh = rw is refl;
  slash = rw is refl;
  marks = λ other m. rw is (opened_here other kind (opens other before) (fresh_opens other before h.fresh));
  follows = λ m. closing;
}

close_reaches : (before : List Placed) (s : State) (item : Placed) (kind : Repeat) (rest : List Placed) → item.token ≡ token.Close kind
    → IsReached before s stage.Has (item ∷ rest) → begins_with_slash rest ≡ true → IsReached (item ∷ before) (closed s) stage.Closed rest
close_reaches before s item kind rest is h slash = record { needs = rw is refl; fresh = rw is refl; slash = rw is refl; marks = λ other m. rw is (h.marks other m); follows = slash }

cut_reaches : (before : List Placed) (s : State) (front : Option (List Element)) (item : Placed) (rest : List Placed) → item.token ≡ token.Minus
    → IsReached before s stage.Has (item ∷ rest) → IsReached (item ∷ before) (cut_front s front) stage.Needs rest
cut_reaches before s None item rest is h = record { needs = rw is refl; fresh = rw is refl; slash = rw is refl; marks = λ kind m. rw is (h.marks kind m); follows = λ m. rw is at (h.follows m) }
cut_reaches before s (Some first) item rest is h = record { needs = rw is refl; fresh = rw is refl; slash = rw is refl; marks = λ kind m. rw is (h.marks kind m); follows = λ m. rw is at (h.follows m) }

to : (before rest : List Placed) (s next : State) → s ≡ next → IsReached before s s.stage rest → IsReached before next next.stage rest
to before rest s next e h = subst (λ (x : State). IsReached before x x.stage rest) e h

cut_stage : (s : State) (front : Option (List Element)) → (cut_front s front).stage ≡ stage.Needs
cut_stage s None = refl
cut_stage s (Some first) = refl

slash_to : (before : List Placed) (s : State) (item : Placed) (rest : List Placed) (next : State) (b : Bool) → item.token ≡ token.Slash
    → cond b (Ok (begun (finished s) stage.After)) (Err (LoneBrace item.place)) ≡ Ok next → IsReached (item ∷ before) next next.stage rest
slash_to before s item rest next b is e =
    let c = chosen b (begun (finished s) stage.After) next (LoneBrace item.place) e in
    to (item ∷ before) rest (begun (finished s) stage.After) next c.1 (slash_reaches before s item rest is)

err_is : {A : Type 0} (x y : PatternFault) → failed {A = A} x ≡ failed y → x ≡ y
err_is x y e = cc

not_err : (b : Bool) (x : List Component) (f fault : PatternFault) → b ≡ true → ¬ (cond b (Ok x) (Err f) ≡ Err fault)
not_err true x f fault is e = absurd cc
not_err false x f fault is e = absurd cc

-- a step that gives no fault reaches the next state
reaches : (before : List Placed) (s : State) (at : Stage) (item : Placed) (t : Token) (rest : List Placed) (next : State) → item.token ≡ t
    → IsReached before s at (item ∷ rest) → stepped s at t item.place rest ≡ Ok next → IsReached (item ∷ before) next next.stage rest
reaches before s stage.Start item token.Bad rest next is h e = absurd cc
reaches before s stage.After item token.Bad rest next is h e = absurd cc
reaches before s stage.Needs item token.Bad rest next is h e = absurd cc
reaches before s stage.Has item token.Bad rest next is h e = absurd cc
reaches before s stage.Closed item token.Bad rest next is h e = absurd cc
reaches before s stage.Start item (token.Element x) rest next is h e = to (item ∷ before) rest (added s x) next (ok_is _ _ e) (element_reaches before s stage.Start item x rest is h (λ m. rw is at (h.follows m)))
reaches before s stage.After item (token.Element x) rest next is h e = to (item ∷ before) rest (added s x) next (ok_is _ _ e) (element_reaches before s stage.After item x rest is h (λ m. rw is at (h.follows m)))
reaches before s stage.Needs item (token.Element x) rest next is h e = to (item ∷ before) rest (added s x) next (ok_is _ _ e) (element_reaches before s stage.Needs item x rest is h (λ m. rw is at (h.follows m)))
reaches before s stage.Has item (token.Element x) rest next is h e = to (item ∷ before) rest (added s x) next (ok_is _ _ e) (element_reaches before s stage.Has item x rest is h (λ m. rw is at (h.follows m)))
reaches before s stage.Closed item (token.Element x) rest next is h e = absurd cc
reaches before s stage.Start item token.Slash rest next is h e = slash_to before s item rest next (same_repeat s.repeat Once) is e
reaches before s stage.After item token.Slash rest next is h e = slash_to before s item rest next (same_repeat s.repeat Once) is e
reaches before s stage.Needs item token.Slash rest next is h e = absurd cc
reaches before s stage.Has item token.Slash rest next is h e = slash_to before s item rest next (same_repeat s.repeat Once) is e
reaches before s stage.Closed item token.Slash rest next is h e = to (item ∷ before) rest (begun (finished s) stage.After) next (ok_is _ _ e) (slash_reaches before s item rest is)
reaches before s stage.Start item (token.Open kind) rest next is h e = absurd cc
reaches before s stage.After item (token.Open kind) rest next is h e =
    let c = chosen (closes kind rest) (opened s kind) next (LoneBrace item.place) e in
    to (item ∷ before) rest (opened s kind) next c.1 (open_reaches before s item kind rest is h c.0)
reaches before s stage.Needs item (token.Open kind) rest next is h e = absurd cc
reaches before s stage.Has item (token.Open kind) rest next is h e = absurd cc
reaches before s stage.Closed item (token.Open kind) rest next is h e = absurd cc
reaches before s stage.Start item (token.Close kind) rest next is h e = absurd cc
reaches before s stage.After item (token.Close kind) rest next is h e = absurd cc
reaches before s stage.Needs item (token.Close kind) rest next is h e = absurd (never_ok _ _ _ next e)
reaches before s stage.Has item (token.Close kind) rest next is h e =
    let c = chosen (same_repeat s.repeat kind && begins_with_slash rest) (closed s) next (LoneBrace item.place) e in
    let slash = both (same_repeat s.repeat kind) (begins_with_slash rest) c.0 in
    to (item ∷ before) rest (closed s) next c.1 (close_reaches before s item kind rest is h slash.1)
reaches before s stage.Closed item (token.Close kind) rest next is h e = absurd cc
reaches before s stage.Start item token.Minus rest next is h e = absurd cc
reaches before s stage.After item token.Minus rest next is h e = absurd cc
reaches before s stage.Needs item token.Minus rest next is h e = absurd cc
reaches before s stage.Has item token.Minus rest next is h e =
    to (item ∷ before) rest (cut s) next (ok_is _ _ e) (subst (λ (at : Stage). IsReached (item ∷ before) (cut s) at rest) (sym (cut_stage s s.front)) (cut_reaches before s s.front item rest is h))
reaches before s stage.Closed item token.Minus rest next is h e = absurd cc

-- ---- the whole of it

-- the end of the text
ends : (before : List Placed) (s : State) (at : Stage) (end : ℕ) (fault : PatternFault) → IsReached before s at [] → ended_at s at end ≡ Err fault → (needs_part before ≡ true) × (fault ≡ EmptyPart end)
ends before s stage.Needs end fault h e = (h.needs, sym (err_is _ _ e))
ends before s stage.Closed end fault h e = absurd (let no : false ≡ true = h.follows in cc)
ends before s stage.Start end fault h e = absurd (not_err (same_repeat s.repeat Once) (finished s) (LoneBrace end) fault (once_at_slash s.repeat h.follows) e)
ends before s stage.After end fault h e = absurd (not_err (same_repeat s.repeat Once) (finished s) (LoneBrace end) fault (once_at_slash s.repeat h.follows) e)
ends before s stage.Has end fault h e = absurd (not_err (same_repeat s.repeat Once) (finished s) (LoneBrace end) fault (once_at_slash s.repeat h.follows) e)

ends_well : (before : List Placed) (s : State) (at : Stage) (end : ℕ) (p : List Component) → IsReached before s at [] → ended_at s at end ≡ Ok p → needs_part before ≡ false
ends_well before s stage.Needs end p h e = absurd cc
ends_well before s stage.Closed end p h e = absurd cc
ends_well before s stage.Start end p h e = h.needs
ends_well before s stage.After end p h e = h.needs
ends_well before s stage.Has end p h e = h.needs

record IsFirstFrom (before items : List Placed) (end : ℕ) (fault : PatternFault) : Type 0 where
  there : FaultFrom before items end fault
  first : (other : PatternFault) → FaultFrom before items end other → IsNotAfter fault other

first_at : (before : List Placed) (item : Placed) (rest : List Placed) (end : ℕ) (fault : PatternFault) → Rises end (item.place + 1) rest
    → fault_at before item.token rest item.place ≡ Some fault → IsFirstFrom before (item ∷ rest) end fault
first_at before item rest end fault rises e =
    let l = least (is_bad item.token) (is_lone before item.token rest) (is_empty_part before item.token) item.place fault e in
    record {
      there = inl (here_to before item rest fault l.there);
      first = λ other h. elim h [ inl here ↦ l.first other (here_from before item rest other here) | inr more ↦ inl (let low = later rest (item ∷ before) end (item.place + 1) other rises more in let at = l.at in omega arith) ];
    }

none_at : (before : List Placed) (item : Placed) (rest : List Placed) (other : PatternFault) → fault_at before item.token rest item.place ≡ None → ¬ IsFaultAt before item rest other
none_at before item rest other e h = none_here (is_bad item.token) (is_lone before item.token rest) (is_empty_part before item.token) item.place other e (here_from before item rest other h)

first_from : (rest before : List Placed) (s : State) (end at : ℕ) (fault : PatternFault) → all_real rest ≡ true → Rises end at rest → IsReached before s s.stage rest
    → parsed s rest end ≡ Err fault → IsFirstFrom before rest end fault
unfolding parsed ended step
first_from [] before s end at fault real rises h e =
    let f = ends before s s.stage end fault h e in
    record { there = f; first = λ other o. at_one fault other (ap place_of (f.1 ∙ sym o.1)) (let same = ap rank_of (f.1 ∙ sym o.1) in omega arith) }
first_from (item ∷ rest) before s end at fault real rises h e =
    let split = both (is_real item.token) (all_real rest) real in
    by split.0 split.1 (stepped s s.stage item.token item.place rest) refl (λ next i. first_from rest (item ∷ before) next end (item.place + 1) fault split.1 rises.1 i) e
  where
    by : is_real item.token ≡ true → all_real rest ≡ true → (r : Result State PatternFault) → stepped s s.stage item.token item.place rest ≡ r
        → ((next : State) → IsReached (item ∷ before) next next.stage rest → parsed next rest end ≡ Err fault → IsFirstFrom (item ∷ before) rest end fault)
        → (r >>= λ next. parsed next rest end) ≡ Err fault → IsFirstFrom before (item ∷ rest) end fault
    by one more (Err f) is go e =
        first_at before item rest end fault rises.1 (sym (steps_to before s s.stage item item.token rest refl one h) ∙ ap fault_of is ∙ ap Some (err_is _ _ e))
    by one more (Ok next) is go e =
        let i = go next (reaches before s s.stage item item.token rest next refl h is) e in
        let none = sym (steps_to before s s.stage item item.token rest refl one h) ∙ ap fault_of is in
        record {
          there = inr i.there;
          first = λ other o. elim o [ inl here ↦ absurd (none_at before item rest other none here) | inr later ↦ i.first other later ];
        }

none_from : (rest before : List Placed) (s : State) (end : ℕ) (p : List Component) (other : PatternFault) → all_real rest ≡ true → IsReached before s s.stage rest
    → parsed s rest end ≡ Ok p → ¬ FaultFrom before rest end other
unfolding parsed ended step
none_from [] before s end p other real h e o = absurd (let no = ends_well before s s.stage end p h e in let yes = o.0 in cc)
none_from (item ∷ rest) before s end p other real h e o =
    let split = both (is_real item.token) (all_real rest) real in
    by split.0 (stepped s s.stage item.token item.place rest) refl (λ next i. none_from rest (item ∷ before) next end p other split.1 i) e o
  where
    by : is_real item.token ≡ true → (r : Result State PatternFault) → stepped s s.stage item.token item.place rest ≡ r
        → ((next : State) → IsReached (item ∷ before) next next.stage rest → parsed next rest end ≡ Ok p → ¬ FaultFrom (item ∷ before) rest end other)
        → (r >>= λ next. parsed next rest end) ≡ Ok p → ¬ FaultFrom before (item ∷ rest) end other
    by one (Err f) is go e o = absurd cc
    by one (Ok next) is go e (inr later) = go next (reaches before s s.stage item item.token rest next refl h is) e later
    by one (Ok next) is go e (inl here) =
        none_at before item rest other (sym (steps_to before s s.stage item item.token rest refl one h) ∙ ap fault_of is) here

starts : (rest : List Placed) → IsReached [] (begun [] stage.Start) stage.Start rest
starts rest = record { needs = refl; fresh = refl; slash = refl; marks = once_opens; follows = λ m. absurd cc }

pub first_fault : (text : List ℕ) (fault : PatternFault) → pattern_of text ≡ Err fault → IsFirstFault text fault
unfolding pattern_of
first_fault text fault e =
    let f = first_from (tokens 0 0 text) [] (begun [] stage.Start) (length text) 0 fault (tokens_real text 0 0) (rises text) (starts (tokens 0 0 text)) e in
    record { there = has_to text fault f.there; first = λ other o. f.first other (has_from text other o) }
  where
    rises : (text : List ℕ) → Rises (length text) 0 (tokens 0 0 text)
    rises text = let same : 0 + length text ≡ length text = omega arith in subst (λ (end : ℕ). Rises end 0 (tokens 0 0 text)) same (tokens_rise text 0 0)

pub no_fault : (text : List ℕ) (p : List Component) → pattern_of text ≡ Ok p → (fault : PatternFault) → ¬ HasFault text fault
unfolding pattern_of
no_fault text p e fault h = none_from (tokens 0 0 text) [] (begun [] stage.Start) (length text) p fault (tokens_real text 0 0) (starts (tokens 0 0 text)) e (has_from text fault h)
