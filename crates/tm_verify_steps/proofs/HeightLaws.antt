-- The greatest version that the takes of a tree have seen.
use Rattle.std.proofs.Common.{◌≡◌, ◌≤◌, ◌<◌, ◌+◌, max, ℕ, zero, suc, nat_lt, Bool, true, false, ◌==◌, ◌&&◌, List, [], ◌∷◌, ◌++◌, refl, sym, ap, ◌∙◌, subst, arith, eqb-true, eq-eqb}
use Rattle.std.specs.Prelude.{if◌then◌else◌, flat_map}
use Rattle.std.specs.List.{list_all}
use Rattle.std.proofs.lemmas.Bool.{ltb-true, lt-ltb}
use Rattle.tm_legal.specs.Prelude.{Case, raised, seen}
use Rattle.tm_take.proofs.RaisedLaws.{raised_more}
use Rattle.tm_verify_steps.specs.Heights.{ByTree, with_height, raised_all, seen_in}

-- a number that takes have raised is above all that they have seen
pub raised_seen : (at : ByTree) (cs : List Case) (t : ℕ) → raised_all at cs t ≡ raised (at t) (seen_in cs t)
raised_seen at [] t = refl
raised_seen at (c ∷ cs) t = raised_seen (with_height at c.tree (raised (at c.tree) own)) cs t ∙ go (c.tree == t) refl
  where
    own : List ℕ
    own = flat_map seen c.taken.looks

    go : (b : Bool) → (c.tree == t) ≡ b → raised (with_height at c.tree (raised (at c.tree) own) t) (seen_in cs t) ≡ raised (at t) ((if b then own else []) ++ seen_in cs t)
    go true is =
        let same : c.tree ≡ t = eqb-true c.tree t is in
        let yes : (t == c.tree) ≡ true = eq-eqb t c.tree (sym same) in
        let here : with_height at c.tree (raised (at c.tree) own) t ≡ raised (at c.tree) own = rw yes refl in
        ap (λ n. raised n (seen_in cs t)) (here ∙ ap (λ k. raised (at k) own) same) ∙ sym (raised_more (at t) own (seen_in cs t))
    go false is =
        let other : (t == c.tree) ≡ false = unlike (t == c.tree) refl in
        let here : with_height at c.tree (raised (at c.tree) own) t ≡ at t = rw other refl in
        ap (λ n. raised n (seen_in cs t)) here
      where
        unlike : (b : Bool) → (t == c.tree) ≡ b → b ≡ false
        unlike false e = refl
        unlike true e = let yes = eq-eqb c.tree t (sym (eqb-true t c.tree e)) in absurd cc

-- the greater of two numbers is below a third one where both are
below_both : (h v n : ℕ) → nat_lt (max h v) n ≡ (nat_lt h n && nat_lt v n)
below_both h v n = go (nat_lt h n) refl (nat_lt v n) refl
  where
    go : (a : Bool) → nat_lt h n ≡ a → (b : Bool) → nat_lt v n ≡ b → nat_lt (max h v) n ≡ (a && b)
    go true e true f = let p = ltb-true h n e in let q = ltb-true v n f in lt-ltb (max h v) n (omega (arith, p, q))
    go true e false f = above (nat_lt (max h v) n) refl
      where
        above : (c : Bool) → nat_lt (max h v) n ≡ c → c ≡ false
        above false g = refl
        above true g = let p = ltb-true (max h v) n g in let q = lt-ltb v n (omega (arith, p)) in absurd cc
    go false e b f = above (nat_lt (max h v) n) refl
      where
        above : (c : Bool) → nat_lt (max h v) n ≡ c → c ≡ false
        above false g = refl
        above true g = let p = ltb-true (max h v) n g in let q = lt-ltb h n (omega (arith, p)) in absurd cc

and_assoc : (a b c : Bool) → ((a && b) && c) ≡ (a && (b && c))
and_assoc true b c = refl
and_assoc false b c = refl

-- so a number is above all that were seen where it is above the greatest
below_raised : (n h : ℕ) (vs : List ℕ) → nat_lt (raised h vs) n ≡ (nat_lt h n && list_all (λ v. nat_lt v n) vs)
below_raised n h [] = sym (and_true (nat_lt h n))
  where
    and_true : (b : Bool) → (b && true) ≡ b
    and_true true = refl
    and_true false = refl
below_raised n h (v ∷ vs) =
    below_raised n (max h v) vs ∙ ap (λ b. b && list_all (λ v. nat_lt v n) vs) (below_both h v n) ∙ and_assoc (nat_lt h n) (nat_lt v n) (list_all (λ v. nat_lt v n) vs)

pub above_all : (n : ℕ) (vs : List ℕ) → 0 < n → nat_lt (raised 0 vs) n ≡ list_all (λ v. nat_lt v n) vs
above_all n vs h = below_raised n 0 vs ∙ ap (λ b. b && list_all (λ v. nat_lt v n) vs) (lt-ltb 0 n h)
