-- What is left in a deque, once it is taken out.
use Rattle.std.proofs.Common.{◌≡◌, ◌+◌, List, [], ◌∷◌, ◌++◌, length, refl, sym, subst, arith}
use Rattle.std.specs.Prelude.{Option, None, MatchOption}
use Rattle.tm_share.specs.Weights.{weigh}
use Rattle.tm_share.specs.Deques.{Own, with_taken, with_all_taken, OwnLeaves, Drains}
use Rattle.tm_share.proofs.Weights.{weigh-append, weigh-one}

module _ {J : Type 0} where
  no_items : (xs : List J) → length xs ≡ 0 → xs ≡ []
  no_items [] e = refl
  no_items (x ∷ xs) e = absurd (omega arith)

  drains_now : (own : Own J) (jobs before : List J) → OwnLeaves (with_all_taken own jobs) [] → Drains own before (before ++ jobs)
  drains_now own jobs before leaves none h =
      let e : weigh h own.put ≡ weigh h (own.taken ++ jobs) + 0 = leaves none h in
      omega (arith, weigh-append h own.taken jobs, weigh-append h before jobs)

  -- none was found
  pub drains-none : (own now : Own J) (jobs before after : List J) → now ≡ with_all_taken own jobs → after ≡ before ++ jobs → OwnLeaves now [] → Drains own before after
  drains-none own now jobs before after is all leaves =
      subst (λ xs. Drains own before xs) (sym all) (drains_now own jobs before (subst (λ o. OwnLeaves o []) is leaves))

  pub drains-none-at : (r : Option J) (own now next : Own J) (jobs before after : List J) → r ≡ None
      → MatchOption r ((next ≡ now) × OwnLeaves now []) (λ job. next ≡ with_taken now job) → now ≡ with_all_taken own jobs → after ≡ before ++ jobs → Drains own before after
  drains-none-at r own now next jobs before after none found is all =
      let at_none = subst (λ o. MatchOption o ((next ≡ now) × OwnLeaves now []) (λ job. next ≡ with_taken now job)) none found in
      drains-none own now jobs before after is all at_none.1

  few_left : (own : Own J) (jobs first last : List J) → length jobs ≡ length first → OwnLeaves own first → OwnLeaves (with_all_taken own jobs) last → own.lent ≡ 0 → last ≡ []
  few_left own jobs first last as_many at_first at_last none =
      let e : weigh (λ _. 1) own.put ≡ weigh (λ _. 1) own.taken + weigh (λ _. 1) first = at_first none (λ _. 1) in
      let f : weigh (λ _. 1) own.put ≡ weigh (λ _. 1) (own.taken ++ jobs) + weigh (λ _. 1) last = at_last none (λ _. 1) in
      no_items last (omega (arith, weigh-append (λ _. 1) own.taken jobs, weigh-one first, weigh-one jobs, weigh-one last))

  -- as many were taken as were left
  pub drains-all : (own now : Own J) (jobs first last before after : List J) → now ≡ with_all_taken own jobs → after ≡ before ++ jobs
      → length jobs ≡ length first → OwnLeaves own first → OwnLeaves now last → Drains own before after
  drains-all own now jobs first last before after is all as_many at_first at_last none =
      let at_end = subst (λ o. OwnLeaves o last) is at_last in
      let end = few_left own jobs first last as_many at_first at_end none in
      drains-none own now jobs before after is all (subst (λ xs. OwnLeaves now xs) end at_last) none
