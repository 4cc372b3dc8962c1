-- What hands have put and taken after several steps.
use Rattle.std.proofs.Common.{◌≡◌, ℕ, ◌+◌, List, [], ◌∷◌, ◌++◌, map, refl, ap, sym, ◌∙◌, arith, append-nil, append_assoc}
use Rattle.tm_share.specs.Weights.{weigh}
use Rattle.tm_share.specs.Hands.{Hand, Move, place, put_by, taken_by, HasPut, HasTaken, HasMoved, AreMoved, all_put, all_taken, moved_put, moved_taken}
use Rattle.tm_share.proofs.Weights.{weigh-append}

module _ {J : Type 0} where
  pub moved-not : (x : Hand J) → HasMoved [] [] x x
  moved-not x = (refl, sym (append-nil (put_by x)), λ h. omega arith)

  pub moved-put : (job : J) (x y : Hand J) → HasPut job x y → HasMoved (job ∷ []) [] x y
  moved-put job x y p = (p.0, p.1, λ h. (let e = ap (weigh h) p.2 in omega arith))

  pub moved-taken : (job : J) (x y : Hand J) → HasTaken job x y → HasMoved [] (job ∷ []) x y
  moved-taken job x y t = (t.0, t.1 ∙ sym (append-nil (put_by x)), λ h. (let e = t.2 h in omega arith))

  pub moved-both : (p t q u : List J) (x y z : Hand J) → HasMoved p t x y → HasMoved q u y z → HasMoved (p ++ q) (t ++ u) x z
  moved-both p t q u x y z first second = (
    second.0 ∙ first.0,
    second.1 ∙ ap (λ l. l ++ q) first.1 ∙ append_assoc (put_by x) p q,
    λ h. (let e = first.2 h in let f = second.2 h in omega (arith, weigh-append h t u)),
  )

  pub pool-places : (moves : List (Move J)) → AreMoved moves → map place (map (λ m. m.after) moves) ≡ map place (map (λ m. m.before) moves)
  pool-places [] all = refl
  pool-places (m ∷ ms) all = ap (λ p. p ∷ map place (map (λ m. m.after) ms)) all.0.0 ∙ ap (λ l. place m.before ∷ l) (pool-places ms all.1)

  pub pool-put : (moves : List (Move J)) → AreMoved moves → (h : J → ℕ)
      → weigh h (all_put (map (λ m. m.after) moves)) ≡ weigh h (all_put (map (λ m. m.before) moves)) + weigh h (moved_put moves)
  pool-put [] all h = refl
  pool-put (m ∷ ms) all h =
      let r = pool-put ms all.1 h in
      let e = ap (weigh h) all.0.1 in
      omega (arith, weigh-append h (put_by m.after) (all_put (map (λ m. m.after) ms)), weigh-append h (put_by m.before) (all_put (map (λ m. m.before) ms)), weigh-append h (put_by m.before) m.put, weigh-append h m.put (moved_put ms))

  pub pool-taken : (moves : List (Move J)) → AreMoved moves → (h : J → ℕ)
      → weigh h (all_taken (map (λ m. m.after) moves)) ≡ weigh h (all_taken (map (λ m. m.before) moves)) + weigh h (moved_taken moves)
  pool-taken [] all h = refl
  pool-taken (m ∷ ms) all h =
      let r = pool-taken ms all.1 h in
      let e = all.0.2 h in
      omega (arith, weigh-append h (taken_by m.after) (all_taken (map (λ m. m.after) ms)), weigh-append h (taken_by m.before) (all_taken (map (λ m. m.before) ms)), weigh-append h m.taken (moved_taken ms))
