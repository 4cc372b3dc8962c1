-- Trees that rest, and turns that are passed over.
use Rattle.std.proofs.Common.{◌≡◌, ◌≤◌, ◌<◌, ℕ, zero, suc, ◌+◌, List, [], ◌∷◌, ◌++◌, map, Bool, true, false, not, refl, sym, ap, ◌∙◌, subst, arith}
use Rattle.std.specs.Prelude.{Option, Some, None, option_map, is_some, if◌then◌else◌, ◌==◌, ◌||◌, unwrap_or}
use Rattle.std.specs.Option.{option_and_then}
use Rattle.std.specs.List.{AllByRecursion, list_any}
use Rattle.std.proofs.lemmas.Bool.{eqb-true, eqb-false, ne_eqb}
use Rattle.tm_rules.specs.Types.{Turn}
use Rattle.tm_rules.specs.Prelude.{Grammar}
use Rattle.tm_legal.specs.Prelude.{CanGoOn, Player, Scene, Settled, event, numbers_to, player_event, settle, supervisor_step, tree_event, turn, turns}
use Rattle.std.specs.Ordering.{nat_cmp, is_eq}
use Rattle.std.specs.Cmp.{ranked, nat_cmp_is}
use Rattle.std.specs.List.Sorted.{IsStrictlySortedBy}
use Rattle.std.specs.declared.cmp.Ordering.{Ordering}
use Rattle.std.specs.declared.cmp.Ordering.TheVariants.{Less, Equal, Greater}
use Rattle.tm_legal.proofs.PlayLaws.{turns-append}
use Rattle.tm_core.specs.Resting.{Rests}
use Rattle.tm_core.specs.Rounds.{HasPlayed}
use Rattle.tm_core.proofs.Leaving.{Goes, Leaves, stays-still, tree-goes, editor-goes, supervisor-goes, answered_by, StaysOn, nothing-is, All-both, All-later, Led, led-own, led-can, led-turn}

-- it rests where others have moved, and its query wasn't answered
pub rests-on : (g : Grammar) (desk : Bool) (p q : Player) (tree_of : ℕ → Option ℕ) (number : ℕ) (moved : ℕ → Bool) (heard : Option ℕ) → CanGoOn g p → Goes moved heard p q → ((t : ℕ) → number ≡ suc t → moved t ≡ false)
    → ((serial : ℕ) → heard ≡ Some serial → tree_of serial ≡ Some number → ⊥) → Rests g desk p tree_of number → Rests g desk q tree_of number
unfolding tree_event
rests-on g desk p q tree_of zero moved heard can goes others unheard rests = record { still = refl; found = λ serial waits. absurd cc }
rests-on g desk p q tree_of (suc t) moved heard can goes others unheard rests =
    let leaves : Leaves heard t p q = record { calm = goes.calm; way = goes.ways t (others t refl) } in
    record {
      still = stays-still g p q desk t heard can leaves (λ serial is waits. unheard serial is (rests.found serial waits)) rests.still;
      found = λ serial waits. rests.found serial (rw (← leaves.way) waits);
    }

-- a turn of a tree or of an editor
abbrev pub IsNoDesk : Turn → Type 0
IsNoDesk (Turn.Tree number) = Unit {0}
IsNoDesk (Turn.Editor number) = Unit {0}
IsNoDesk _ = ⊥

module _ (scene : Scene) (p : Player) (tree_of : ℕ → Option ℕ) (number : ℕ) (led : Led scene p) (rests : Rests scene.grammar (is_some scene.book) p tree_of number) where
  by_goes : (next : Player) (moved : ℕ → Bool) → Goes moved None p next → ((t : ℕ) → number ≡ suc t → moved t ≡ false) → Rests scene.grammar (is_some scene.book) next tree_of number
  by_goes next moved goes others = rests-on scene.grammar (is_some scene.book) p next tree_of number moved None (led-can scene p led) goes others (λ serial heard found. absurd cc) rests

  by_tree : (k : ℕ) (next : Player) → tree_event scene.grammar p (is_some scene.book) (suc k) ≡ Some next → Rests scene.grammar (is_some scene.book) next tree_of number
  by_tree k next is = by_goes next (λ t. t == k) (tree-goes scene.grammar p (is_some scene.book) k (led-own scene p led) next is) others
    where
      others : (t : ℕ) → number ≡ suc t → (t == k) ≡ false
      others t same = ne_eqb t k (λ e. nothing-is next ⊥ (sym rests.still ∙ ap (tree_event scene.grammar p (is_some scene.book)) (same ∙ ap suc e) ∙ is))

  pub event-rests : (who : Turn) (next : Player) → IsNoDesk who → event scene p who ≡ Some next → Rests scene.grammar (is_some scene.book) next tree_of number
  unfolding event player_event tree_event
  event-rests (Turn.Tree zero) next no_desk is = nothing-is next (Rests scene.grammar (is_some scene.book) next tree_of number) is
  event-rests (Turn.Tree (suc k)) next no_desk is = by_tree k next is
  event-rests (Turn.Editor e) next no_desk is = by_goes next (λ t. false) (editor-goes scene.grammar p e next (led-own scene p led) is) (λ t same. refl)
  event-rests Turn.Desk next no_desk is = absurd no_desk
  event-rests Turn.Attach next no_desk is = absurd no_desk
  event-rests (Turn.Answer serial code) next no_desk is = absurd no_desk
  event-rests Turn.Detach next no_desk is = absurd no_desk

  -- what a turn of a tree or of an editor leaves of a tree that rests
  pub turn-rests : (who : Turn) → IsNoDesk who → Rests scene.grammar (is_some scene.book) (turn scene p who) tree_of number
  unfolding turn
  turn-rests who no_desk = go (event scene p who) refl
    where
      go : (o : Option Player) → event scene p who ≡ o → Rests scene.grammar (is_some scene.book) (unwrap_or o p) tree_of number
      go None is = rests
      go (Some next) is = event-rests who next no_desk is

pub turns-rest : (scene : Scene) (p : Player) (tree_of : ℕ → Option ℕ) (number : ℕ) (list : List Turn) → Led scene p → AllByRecursion IsNoDesk list → Rests scene.grammar (is_some scene.book) p tree_of number → Rests scene.grammar (is_some scene.book) (turns scene p list) tree_of number
unfolding turns
turns-rest scene p tree_of number [] led no_desk rests = rests
turns-rest scene p tree_of number (who ∷ list) led no_desk rests = turns-rest scene (turn scene p who) tree_of number list (led-turn scene p who led) no_desk.1 (turn-rests scene p tree_of number led rests who no_desk.0)

-- the supervisor's turn, where it doesn't leave and doesn't answer the query that the tree waits
-- for
pub desk-rests-on : (scene : Scene) (p next : Player) (who : Turn) (tree_of : ℕ → Option ℕ) (number : ℕ) → Led scene p → StaysOn who → ((serial : ℕ) → answered_by who ≡ Some serial → tree_of serial ≡ Some number → ⊥)
    → option_and_then (λ step. option_map (λ (s : Settled). s.player) (settle scene.grammar p step)) (supervisor_step scene.grammar p (is_some scene.book) who) ≡ Some next
    → Rests scene.grammar (is_some scene.book) p tree_of number → Rests scene.grammar (is_some scene.book) next tree_of number
desk-rests-on scene p next who tree_of number led stays unheard is rests =
    rests-on scene.grammar (is_some scene.book) p next tree_of number (λ t. false) (answered_by who) (led-can scene p led) (supervisor-goes scene.grammar p (is_some scene.book) who next (led-own scene p led) stays is) (λ t same. refl) unheard rests

-- Trees that rest are passed over

-- so many numbers after this one
abbrev pub numbers_after : ℕ → ℕ → List ℕ
numbers_after lo zero = []
numbers_after lo (suc n) = suc lo ∷ numbers_after (suc lo) n

after-last : (lo n : ℕ) → numbers_after lo n ++ suc (lo + n) ∷ [] ≡ numbers_after lo (suc n)
after-last lo zero = ap (λ k. suc k ∷ []) (let same : lo + 0 ≡ lo = omega arith in same)
after-last lo (suc n) = ap (λ ks. suc lo ∷ ks) (ap (λ k. numbers_after (suc lo) n ++ suc k ∷ []) (let same : lo + suc n ≡ suc lo + n = omega arith in same) ∙ after-last (suc lo) n)

numbers-are : (n : ℕ) → numbers_to n ≡ numbers_after 0 n
numbers-are zero = refl
numbers-are (suc n) = ap (λ ks. ks ++ suc n ∷ []) (numbers-are n) ∙ ap (λ k. numbers_after 0 n ++ suc k ∷ []) (let same : n ≡ 0 + n = omega arith in same) ∙ after-last 0 n

-- a number is among these
abbrev pub is_among : List ℕ → ℕ → Bool
is_among keys t = list_any (λ k. is_eq (nat_cmp t k)) keys

pub equal-is : (t k : ℕ) → is_eq (nat_cmp t k) ≡ true → t ≡ k
equal-is t k is = go (nat_cmp t k) refl is
  where
    go : (r : Ordering) → nat_cmp t k ≡ r → is_eq r ≡ true → t ≡ k
    go Less e is = absurd cc
    go Equal e is = ranked t k Equal (sym e)
    go Greater e is = absurd cc

pub same-among : (k : ℕ) (ks : List ℕ) → is_among (k ∷ ks) k ≡ true
same-among k ks = rw (← nat_cmp_is k k Equal refl) refl

pub later-among : (k t : ℕ) (ks : List ℕ) → is_among ks t ≡ true → is_among (k ∷ ks) t ≡ true
later-among k t ks is = go (is_eq (nat_cmp t k))
  where
    go : (b : Bool) → (b || is_among ks t) ≡ true
    go true = refl
    go false = is

not-among : (k t : ℕ) (ks : List ℕ) → is_among ks t ≡ false → (t ≡ k → ⊥) → is_among (k ∷ ks) t ≡ false
not-among k t ks not other = go (is_eq (nat_cmp t k)) refl
  where
    go : (b : Bool) → is_eq (nat_cmp t k) ≡ b → (b || is_among ks t) ≡ false
    go true e = absurd (other (equal-is t k e))
    go false e = not

all-above : (k : ℕ) (ks : List ℕ) → AllByRecursion (λ y. nat_cmp k y ≡ Less) ks → AllByRecursion (λ y. k < y) ks
all-above k [] all = tt
all-above k (y ∷ ks) all = (ranked k y Less (sym all.0), all-above k ks all.1)

-- what is below all of them isn't among them
below-among : (t : ℕ) (ks : List ℕ) → AllByRecursion (λ y. t < y) ks → is_among ks t ≡ false
below-among t [] all = refl
below-among t (y ∷ ks) all = not-among y t ks (below-among t ks all.1) (λ e. let lt = all.0 in absurd (omega (arith, lt, e)))

module _ (scene : Scene) (tree_of : ℕ → Option ℕ) where
  -- each of so many numbers after this one rests, or is among these
  abbrev pub RestBut : Player → List ℕ → ℕ → ℕ → Type 0
  RestBut p keys lo n = (t : ℕ) → lo < t → t ≤ lo + n → is_among keys t ≡ false → Rests scene.grammar (is_some scene.book) p tree_of t

  still-turn : (p : Player) (t : ℕ) → Rests scene.grammar (is_some scene.book) p tree_of t → event scene p (Turn.Tree t) ≡ None
  unfolding event player_event
  still-turn p t rests = rests.still

  pub pass-over : (n lo : ℕ) (keys : List ℕ) (p : Player) → Led scene p → IsStrictlySortedBy nat_cmp keys → AllByRecursion (λ k. lo < k) keys → AllByRecursion (λ k. k ≤ lo + n) keys → RestBut p keys lo n
      → turns scene p (map Turn.Tree (numbers_after lo n)) ≡ turns scene p (map Turn.Tree keys)
  unfolding turns turn IsStrictlySortedBy
  pass-over zero lo [] p led sorted above within rest = refl
  pass-over zero lo (k ∷ ks) p led sorted above within rest = let a = above.0 in let w = within.0 in absurd (omega (arith, a, w))
  pass-over (suc n) lo [] p led sorted above within rest =
      ap (λ (o : Option Player). turns scene (unwrap_or o p) (map Turn.Tree (numbers_after (suc lo) n))) (still-turn p (suc lo) (rest (suc lo) (omega arith) (omega arith) refl))
      ∙ pass-over n (suc lo) [] p led tt tt tt (λ t lt le not. rest t (omega (arith, lt)) (omega (arith, le)) not)
  pass-over (suc n) lo (k ∷ ks) p led sorted above within rest = by_first (suc lo == k) refl (λ (q : Player) (l : Led scene q) (r : RestBut q ks (suc lo) n) (a : AllByRecursion (λ y. suc lo < y) ks) (w : AllByRecursion (λ y. y ≤ suc lo + n) ks). pass-over n (suc lo) ks q l sorted.1 a w r)
      (λ (r : RestBut p (k ∷ ks) (suc lo) n) (a : AllByRecursion (λ y. suc lo < y) (k ∷ ks)) (w : AllByRecursion (λ y. y ≤ suc lo + n) (k ∷ ks)). pass-over n (suc lo) (k ∷ ks) p led sorted a w r)
    where
      next_within : (ys : List ℕ) → AllByRecursion (λ y. y ≤ lo + suc n) ys → AllByRecursion (λ y. y ≤ suc lo + n) ys
      next_within ys all = subst (λ (m : ℕ). AllByRecursion (λ y. y ≤ m) ys) (let same : lo + suc n ≡ suc lo + n = omega arith in same) all

      by_first : (b : Bool) → (suc lo == k) ≡ b
          → ((q : Player) → Led scene q → RestBut q ks (suc lo) n → AllByRecursion (λ y. suc lo < y) ks → AllByRecursion (λ y. y ≤ suc lo + n) ks → turns scene q (map Turn.Tree (numbers_after (suc lo) n)) ≡ turns scene q (map Turn.Tree ks))
          → (RestBut p (k ∷ ks) (suc lo) n → AllByRecursion (λ y. suc lo < y) (k ∷ ks) → AllByRecursion (λ y. y ≤ suc lo + n) (k ∷ ks) → turns scene p (map Turn.Tree (numbers_after (suc lo) n)) ≡ turns scene p (map Turn.Tree (k ∷ ks)))
          → turns scene (turn scene p (Turn.Tree (suc lo))) (map Turn.Tree (numbers_after (suc lo) n)) ≡ turns scene (turn scene p (Turn.Tree k)) (map Turn.Tree ks)
      by_first true e here after =
          let same : suc lo ≡ k = eqb-true (suc lo) k e in
          let q : Player = turn scene p (Turn.Tree (suc lo)) in
          here q (led-turn scene p (Turn.Tree (suc lo)) led)
          (λ t lt le not. turn-rests scene p tree_of t led (rest t (omega (arith, lt)) (omega (arith, le)) (not-among k t ks not (λ e2. absurd (omega (arith, lt, same, e2))))) (Turn.Tree (suc lo)) tt)
          (subst (λ (m : ℕ). AllByRecursion (λ y. m < y) ks) (sym same) (all-above k ks sorted.0)) (next_within ks within.1)
          ∙ ap (λ (m : ℕ). turns scene (turn scene p (Turn.Tree m)) (map Turn.Tree ks)) same
      by_first false e here after =
          let a = above.0 in
          let ne = eqb-false (suc lo) k e in
          let less : suc lo < k = omega (arith, a, ne) in
          let up : AllByRecursion (λ y. suc lo < y) (k ∷ ks) = (less, All-later (λ y. k < y) (λ y. suc lo < y) ks (λ y lt. omega (arith, lt, less)) (all-above k ks sorted.0)) in
          let none : event scene p (Turn.Tree (suc lo)) ≡ None = still-turn p (suc lo) (rest (suc lo) (omega arith) (omega arith) (below-among (suc lo) (k ∷ ks) up)) in
          ap (λ (o : Option Player). turns scene (unwrap_or o p) (map Turn.Tree (numbers_after (suc lo) n))) none ∙ after (λ t lt le not. rest t (omega (arith, lt)) (omega (arith, le)) not) up (next_within (k ∷ ks) within)

-- Turns one after another, put together

pub played-both : (scene : Scene) (old mid now : Player) (xs ys : List Turn) (m n : Bool) → HasPlayed scene old mid xs m → HasPlayed scene mid now ys n → HasPlayed scene old now (xs ++ ys) (m || n)
played-both scene old mid now xs ys m n first second =
    record {
      led = second.led ∙ ap (λ q. turns scene q ys) first.led ∙ sym (turns-append scene old xs ys);
      still = still m n first.still second.still;
      less = less m n _ _ _ first.less second.less;
    }
  where
    still : (m n : Bool) → (m ≡ false → (mid ≡ old) × AllByRecursion (λ who. event scene old who ≡ None) xs) → (n ≡ false → (now ≡ mid) × AllByRecursion (λ who. event scene mid who ≡ None) ys) → (m || n) ≡ false
        → (now ≡ old) × AllByRecursion (λ who. event scene old who ≡ None) (xs ++ ys)
    still true n f s none = absurd cc
    still false n f s none =
        let a = f refl in
        let b = s none in (b.0 ∙ a.0, All-both (λ who. event scene old who ≡ None) xs ys a.1 (subst (λ (q : Player). AllByRecursion (λ who. event scene q who ≡ None) ys) a.0 b.1))

    less : (m n : Bool) (a b c : ℕ) → (if m then 1 else 0) + b ≤ c → (if n then 1 else 0) + a ≤ b → (if m || n then 1 else 0) + a ≤ c
    less true true a b c x y = omega (arith, x, y)
    less true false a b c x y = omega (arith, x, y)
    less false true a b c x y = omega (arith, x, y)
    less false false a b c x y = omega (arith, x, y)

-- each of the numbers that are played or rest can't move
none-moves : (scene : Scene) (tree_of : ℕ → Option ℕ) (p : Player) (keys : List ℕ) (n lo : ℕ) → RestBut scene tree_of p keys lo n → AllByRecursion (λ who. event scene p who ≡ None) (map Turn.Tree keys)
    → AllByRecursion (λ who. event scene p who ≡ None) (map Turn.Tree (numbers_after lo n))
none-moves scene tree_of p keys zero lo rest still = tt
none-moves scene tree_of p keys (suc n) lo rest still = (by_key (is_among keys (suc lo)) refl, none-moves scene tree_of p keys n (suc lo) (λ t lt le not. rest t (omega (arith, lt)) (omega (arith, le)) not) still)
  where
    of_key : (keys : List ℕ) (t : ℕ) → is_among keys t ≡ true → AllByRecursion (λ who. event scene p who ≡ None) (map Turn.Tree keys) → event scene p (Turn.Tree t) ≡ None
    of_key [] t is still = absurd cc
    of_key (k ∷ ks) t is still = go (is_eq (nat_cmp t k)) refl is (of_key ks t)
      where
        go : (b : Bool) → is_eq (nat_cmp t k) ≡ b → (b || is_among ks t) ≡ true → (is_among ks t ≡ true → AllByRecursion (λ who. event scene p who ≡ None) (map Turn.Tree ks) → event scene p (Turn.Tree t) ≡ None) → event scene p (Turn.Tree t) ≡ None
        go true e is later = subst (λ (m : ℕ). event scene p (Turn.Tree m) ≡ None) (sym (equal-is t k e)) still.0
        go false e is later = later is still.1

    by_key : (b : Bool) → is_among keys (suc lo) ≡ b → event scene p (Turn.Tree (suc lo)) ≡ None
    by_key true is = of_key keys (suc lo) is still
    by_key false not = still-turn scene tree_of p (suc lo) (rest (suc lo) (omega arith) (omega arith) not)

-- all trees have had their turn, where those that rest were passed over
pub trees-played : (scene : Scene) (tree_of : ℕ → Option ℕ) (keys : List ℕ) (n : ℕ) (old now : Player) (moved : Bool) → Led scene old → IsStrictlySortedBy nat_cmp keys → ((t : ℕ) → is_among keys t ≡ true → (0 < t) × (t ≤ n)) → RestBut scene tree_of old keys 0 n
    → HasPlayed scene old now (map Turn.Tree keys) moved → HasPlayed scene old now (map Turn.Tree (numbers_to n)) moved
trees-played scene tree_of keys n old now moved led sorted there rest played =
    let above : AllByRecursion (λ k. 0 < k) keys = All-among (λ k. 0 < k) keys (λ k is. (there k is).0) in
    let within : AllByRecursion (λ k. k ≤ 0 + n) keys = All-among (λ k. k ≤ 0 + n) keys (λ k is. let le = (there k is).1 in omega (arith, le)) in
    let same : turns scene old (map Turn.Tree (numbers_after 0 n)) ≡ turns scene old (map Turn.Tree keys) = pass-over scene tree_of n 0 keys old led sorted above within rest in
    subst (λ (numbers : List ℕ). HasPlayed scene old now (map Turn.Tree numbers) moved) (sym (numbers-are n))
    (record {
      led = played.led ∙ sym same;
      still = λ none. let s = played.still none in (s.0, none-moves scene tree_of old keys n 0 rest s.1);
      less = played.less;
    })
  where
    All-among : (P : ℕ → Type 0) (keys : List ℕ) → ((k : ℕ) → is_among keys k ≡ true → P k) → AllByRecursion P keys
    All-among P [] f = tt
    All-among P (k ∷ ks) f = (f k (same-among k ks), All-among P ks (λ t is. f t (later-among k t ks is)))
