-- What a hand has put and taken after a step.
use Rattle.std.proofs.Common.{◌≡◌, ℕ, zero, suc, ◌<◌, List, [], ◌∷◌, length, get_or, set, refl, ap, sym, ◌∙◌, subst, arith}
use Rattle.std.specs.Prelude.{Option, Some, None, MatchOption}
use Rattle.std.proofs.lemmas.List.{set-get_or}
use Rattle.tm_share.specs.Deques.{Deque, Own, Way, with_put, with_taken, stolen, OwnLeaves}
use Rattle.tm_share.specs.Hands.{Hand, Place, hand, stolen_by, HasPut, HasTaken}
use Rattle.tm_share.specs.Pools.{Steals}
use Rattle.tm_share.proofs.Weights.{weigh-append, weigh-inside}

module _ {J : Type 0} where
  pub put-hand : (job : J) (own : Own J) (ways : List (Way J)) → HasPut job (hand own ways) (hand (with_put own job) ways)
  put-hand job own ways = (refl, refl, refl)

  pub take-hand : (job : J) (own : Own J) (ways : List (Way J)) → HasTaken job (hand own ways) (hand (with_taken own job) ways)
  take-hand job own ways = (refl, refl, λ h. weigh-inside h job own.taken (stolen_by ways))

  abbrev seat : Own J → List Deque → Place
  seat own deques = record { deque = own.deque; lent = own.lent; ways = deques }

  pub steal-hand : (job : J) (own : Own J) (old new : List (Way J)) → Steals job old new → HasTaken job (hand own old) (hand own new)
  steal-hand job own old new s =
      (ap (seat own) s.0, refl, λ h. (let e = s.1 h in omega (arith, weigh-append h own.taken (stolen_by new), weigh-append h own.taken (stolen_by old))))

  -- the way at a place steals
  pub steals-set : (job : J) (ways : List (Way J)) (k : ℕ) (d : Way J) → k < length ways → Steals job ways (set ways k (stolen (get_or ways k d) job))
  steals-set job [] k d lt = absurd (omega arith)
  steals-set job (v ∷ vs) zero d lt = (refl, λ h. weigh-inside h job v.taken (stolen_by vs))
  steals-set job (v ∷ vs) (suc k) d lt =
      let r = steals-set job vs k d (omega arith) in
      let now = set vs k (stolen (get_or vs k d) job) in
      (ap (λ ds. v.deque ∷ ds) r.0, λ h. (let e = r.1 h in omega (arith, weigh-append h v.taken (stolen_by vs), weigh-append h v.taken (stolen_by now))))

  -- what the worker takes of its own deque, its hand takes
  pub take-by : (r : Option J) (own new : Own J) (ways : List (Way J)) (old : Hand J) → hand own ways ≡ old
      → MatchOption r ((new ≡ own) × OwnLeaves own []) (λ job. new ≡ with_taken own job) → MatchOption r (hand new ways ≡ old) (λ job. HasTaken job old (hand new ways))
  take-by None own new ways old is e = ap (λ o. hand o ways) e.0 ∙ is
  take-by (Some job) own new ways old is e =
      subst (λ x. HasTaken job x (hand new ways)) is (subst (λ o. HasTaken job (hand own ways) (hand o ways)) (sym e) (take-hand job own ways))

  -- what is stolen by its ways, too
  pub steal-by : (r : Option J) (own : Own J) (ways new : List (Way J)) (old : Hand J) → hand own ways ≡ old
      → MatchOption r (new ≡ ways) (λ job. Steals job ways new) → MatchOption r (hand own new ≡ old) (λ job. HasTaken job old (hand own new))
  steal-by None own ways new old is e = ap (hand own) e ∙ is
  steal-by (Some job) own ways new old is e = subst (λ x. HasTaken job x (hand own new)) is (steal-hand job own ways new e)

  -- and what one of its ways steals, all steal
  pub steal-at : (r : Option J) (ways : List (Way J)) (k : ℕ) (old new : Way J) → k < length ways → old ≡ get_or ways k old
      → MatchOption r (new ≡ old) (λ job. new ≡ stolen old job) → MatchOption r (set ways k new ≡ ways) (λ job. Steals job ways (set ways k new))
  steal-at None ways k old new lt is e = ap (set ways k) (e ∙ is) ∙ set-get_or ways k old
  steal-at (Some job) ways k old new lt is e =
      let same : new ≡ stolen (get_or ways k old) job = e ∙ ap (λ w. stolen w job) is in
      subst (λ w. Steals job ways (set ways k w)) (sym same) (steals-set job ways k old lt)
