-- Processes that are owned, and stay so.
use Rattle.std.proofs.Common.{◌≡◌, ◌<◌, ◌≤◌, ◌+◌, ℕ, suc, List, [], ◌∷◌, ◌++◌, length, get_or, take, subst, arith}
use Rattle.std.specs.Prelude.{Option}
use Rattle.std.specs.List.{AllByRecursion}
use Rattle.std.proofs.lemmas.List.{take_more, length-take-le}
use Rattle.tm_legal.proofs.Histories.{All-push}
use Rattle.tm_legal.proofs.Walks.{All-map}
use Rattle.tm_steal_rows.specs.declared.played.Played.{Played}
use Rattle.tm_steal_rows.specs.Gathering.{IsOwned, EachOwned, AreKept}

module _ (old new : ℕ → Option ℕ) (kept : AreKept old new) where
  kept-one : (worker : ℕ) (played : Played) → IsOwned old worker played → IsOwned new worker played
  kept-one worker (Played.Process process) is = kept process.pid worker is
  kept-one worker (Played.End tree number) is = is

  kept-all : (worker : ℕ) (all : List Played) → AllByRecursion (IsOwned old worker) all → AllByRecursion (IsOwned new worker) all
  kept-all worker all h = All-map (IsOwned old worker) (IsOwned new worker) all (kept-one worker) h

  kept-each : (worker : ℕ) (given : List (List Played)) → EachOwned old worker given → EachOwned new worker given
  kept-each worker [] h = tt
  kept-each worker (all ∷ given) h = (kept-all worker all h.0, kept-each (suc worker) given h.1)

  -- one more of a worker's
  pub owns-more : (worker : ℕ) (all : List Played) (i : ℕ) (played : Played) → i < length all → played ≡ get_or all i played → AllByRecursion (IsOwned old worker) (take i all) → IsOwned new worker played → AllByRecursion (IsOwned new worker) (take (i + 1) all)
  owns-more worker all i played lt at h is =
      rw (take_more all i played lt, ← at) (All-push (IsOwned new worker) (take i all) played (kept-all worker (take i all) h) is)

  each-push : (worker : ℕ) (given : List (List Played)) (all : List Played) → EachOwned new worker given → AllByRecursion (IsOwned new (worker + length given)) all → EachOwned new worker (given ++ all ∷ [])
  each-push worker [] all h is = (subst (λ n. AllByRecursion (IsOwned new n) all) (omega arith) is, tt)
  each-push worker (first ∷ given) all h is = (h.0, each-push (suc worker) given all h.1 (subst (λ n. AllByRecursion (IsOwned new n) all) (omega arith) is))

  -- one worker more
  pub each-more : (worker : ℕ) (given : List (List Played)) (i : ℕ) (all : List Played) → i < length given → all ≡ get_or given i all → worker ≡ i → EachOwned old 0 (take i given) → AllByRecursion (IsOwned new worker) all → EachOwned new 0 (take (i + 1) given)
  each-more worker given i all lt at is h mine =
      let low : i ≤ length given = omega (arith, lt) in
      let front : length (take i given) ≡ i = length-take-le i given low in
      let long : worker ≡ 0 + length (take i given) = omega (arith, is, front) in
      rw (take_more given i all lt, ← at)
      (each-push 0 (take i given) all (kept-each 0 (take i given) h) (subst (λ n. AllByRecursion (IsOwned new n) all) long mine))
