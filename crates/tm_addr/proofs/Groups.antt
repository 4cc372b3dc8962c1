-- Groups that are read one after another.
use Rattle.std.proofs.Common.{◌≡◌, ℕ, ◌<◌, ◌==◌, Bool, true, false, ◌≤◌, ◌^◌, List, [], ◌∷◌, length, Option, Some, None, option_map, nat_le, nat_lt, cond, rules, refl, ap, ◌∙◌, arith}
use Rattle.std.proofs.lemmas.Bool.{lt-leb, lt-ltb}
use Rattle.std.proofs.lemmas.Bool.Decides.{nat_tests}
use Rattle.std.specs.List.{slice_split}
use Rattle.std.specs.Str.Parse.{digits_value}
use Rattle.std.proofs.Math.Nat.{pow-le-pow_right}
use Rattle.tm_addr.specs.declared.reading.Groups.{Groups}
use Rattle.tm_addr.specs.Reading.{◌>>=◌, with_group, with_quad, with_last, last_of, groups_after, few, group_of, v4_of}
use Rattle.tm_number.proofs.Cuts.{pieces_of}

-- a piece with others after it
pub goes_on : (dotted : Bool) (before : Groups) (piece rest : List ℕ) → groups_after dotted before (piece ∷ slice_split (λ b. b == 58) rest) ≡ (group_of piece >>= λ group. groups_after dotted (with_group before group) (slice_split (λ b. b == 58) rest))
unfolding groups_after
goes_on dotted before piece rest = let p = pieces_of (λ b. b == 58) rest in rw p.are refl

none_few : (found : Groups) → 8 < found.count → few (Some found) ≡ None
none_few found h = let no : nat_le found.count 8 ≡ false = lt-leb _ _ h in rw no refl

quads : (before : Groups) (o : Option ℕ) → 8 < before.count → few (option_map (λ a. with_quad before a) o) ≡ None
quads before (Some a) h = none_few (with_quad before a) (omega arith)
quads before None h = refl

lasts : (dotted : Bool) (before : Groups) (piece : List ℕ) (o : Option ℕ) → 8 < before.count → few (with_last dotted before piece o) ≡ None
lasts dotted before piece (Some group) h = none_few (with_group before group) (omega arith)
lasts true before piece None h = quads before (v4_of piece) h
lasts false before piece None h = refl

nexts : (dotted : Bool) (before : Groups) (o : Option ℕ) (pieces : List (List ℕ)) → ((group : ℕ) → few (groups_after dotted (with_group before group) pieces) ≡ None) → few (o >>= λ group. groups_after dotted (with_group before group) pieces) ≡ None
nexts dotted before None pieces more = refl
nexts dotted before (Some group) pieces more = more group

-- more than eight groups are too many, whatever follows
pub too_many : (dotted : Bool) (before : Groups) (pieces : List (List ℕ)) → 8 < before.count → few (groups_after dotted before pieces) ≡ None
unfolding groups_after last_of
too_many dotted before [] h = none_few before h
too_many dotted before (piece ∷ []) h = lasts dotted before piece (group_of piece) h
too_many dotted before (piece ∷ next ∷ rest) h = nexts dotted before (group_of piece) (next ∷ rest) (λ group. too_many dotted (with_group before group) (next ∷ rest) (omega arith))

-- four hexadecimal digits are below 2^16
pub small_group : (piece : List ℕ) → length piece ≤ 4 → digits_value 16 piece < 16 ^ length piece → digits_value 16 piece < 65536
small_group piece h k = let le : 16 ^ length piece ≤ 16 ^ 4 = pow-le-pow_right (omega arith) h in omega (arith, le, k)

pub value_is : (b : Bool) (v n : ℕ) → Some v ≡ cond b (Some n) None → v ≡ n
value_is true v n e = cc
value_is false v n e = absurd cc

pub value_there : (n : ℕ) → n < 65536 → None ≡ cond (nat_lt n (2 ^ 64)) (Some n) None → ⊥
value_there n h e =
    let yes : nat_lt n (2 ^ 64) ≡ true = lt-ltb _ _ (omega arith) in
    let none : None ≡ Some n = rw yes at e in
    cc

pub no_group : (dotted : Bool) (before : Groups) (piece rest : List ℕ) (pieces : List (List ℕ)) → pieces ≡ piece ∷ slice_split (λ b. b == 58) rest → group_of piece ≡ None → few (groups_after dotted before pieces) ≡ None
no_group dotted before piece rest pieces e h =
    ap (λ xs. few (groups_after dotted before xs)) e ∙ ap few (goes_on dotted before piece rest) ∙ ap (λ o. few (o >>= λ group. groups_after dotted (with_group before group) (slice_split (λ b. b == 58) rest))) h

pub one_more : (dotted : Bool) (before : Groups) (piece rest : List ℕ) (pieces : List (List ℕ)) (g : ℕ) → pieces ≡ piece ∷ slice_split (λ b. b == 58) rest → group_of piece ≡ Some g
    → few (groups_after dotted before pieces) ≡ few (groups_after dotted (with_group before g) (slice_split (λ b. b == 58) rest))
one_more dotted before piece rest pieces g e h =
    ap (λ xs. few (groups_after dotted before xs)) e ∙ ap few (goes_on dotted before piece rest) ∙ ap (λ o. few (o >>= λ group. groups_after dotted (with_group before group) (slice_split (λ b. b == 58) rest))) h

few_by : (b : Bool) (found more : Groups) → Some more ≡ cond b (Some found) None → more ≡ found
few_by true found more e = cc
few_by false found more e = absurd cc

pub few_some : (found more : Groups) → Some more ≡ few (Some found) → more ≡ found
few_some found more e = few_by (nat_le found.count 8) found more e

few_not : (b : Bool) (found : Groups) → nat_le found.count 8 ≡ b → None ≡ cond b (Some found) None → 8 < found.count
few_not true found h e = absurd cc
few_not false found h e = search (rules, nat_tests)

pub few_none : (found : Groups) → None ≡ few (Some found) → 8 < found.count
few_none found e = few_not (nat_le found.count 8) found refl e
