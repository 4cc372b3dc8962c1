-- How hands are made, and how they come together again.
use Rattle.std.specs.Prelude.{◌≡◌, ◌+◌, ◌<◌, ℕ, List, [], ◌∷◌, ◌++◌, map, length, ⊤}
use Rattle.std.specs.List.{AllByRecursion}
use Rattle.tm_share.specs.Weights.{weigh}
use Rattle.tm_share.specs.Deques.{Deque, Own, Way, with_way}
use Rattle.tm_share.specs.Hands.{Hand, hand, stolen_by}

module _ {J : Type 0} where
  -- one of these ways has stolen a job
  abbrev pub Steals : J → List (Way J) → List (Way J) → Type 0
  Steals job old new =
      (map (λ way. way.deque) new ≡ map (λ way. way.deque) old)
      × ((h : J → ℕ) → weigh h (stolen_by new) ≡ weigh h (stolen_by old) + h job)

  abbrev pub deques_of : List (Own J) → List Deque
  deques_of owns = map (λ own. own.deque) owns

  abbrev pub ways_of : List (Way J) → List Deque
  ways_of ways = map (λ way. way.deque) ways

  -- what was put into these deques by their owners
  abbrev pub all_own_put : List (Own J) → List J
  all_own_put [] = []
  all_own_put (own ∷ owns) = own.put ++ all_own_put owns

  -- what was taken from these deques by their owners, and by those whose ways have come back
  abbrev pub all_own_taken : List (Own J) → List J
  all_own_taken [] = []
  all_own_taken (own ∷ owns) = own.taken ++ all_own_taken owns

  -- what was stolen by all these ways
  abbrev pub all_stolen : List (List (Way J)) → List J
  all_stolen [] = []
  all_stolen (ways ∷ rounds) = stolen_by ways ++ all_stolen rounds

  -- each has lent so many ways
  abbrev pub AllLend : ℕ → List (Own J) → Type 0
  AllLend lent owns = AllByRecursion (λ own. own.lent ≡ lent) owns

  -- nothing was put, taken or lent
  abbrev pub AreEmpty : List (Own J) → Type 0
  AreEmpty owns = AllLend 0 owns × (all_own_put owns ≡ []) × (all_own_taken owns ≡ [])

  -- a way into each of these deques, by which nothing was stolen
  abbrev pub IsUnused : List Deque → List (Way J) → Type 0
  IsUnused deques ways = (ways_of ways ≡ deques) × (stolen_by ways ≡ [])

  -- so many workers have their ways into these deques
  pub record IsOpened (deques : List Deque) (workers : ℕ) (owns : List (Own J)) (rounds : List (List (Way J))) : Type 0 where
    pub same : deques_of owns ≡ deques
    pub lent : AllLend workers owns
    pub put : all_own_put owns ≡ []
    pub taken : all_own_taken owns ≡ []
    pub unused : AllByRecursion (IsUnused deques) rounds
    pub count : length rounds ≡ workers

  -- a hand of each deque, with ways of its own
  abbrev pub paired : List (Own J) → List (List (Way J)) → List (Hand J)
  paired [] rounds = []
  paired (own ∷ owns) [] = []
  paired (own ∷ owns) (ways ∷ rounds) = hand own ways ∷ paired owns rounds

  -- a way into each of these deques
  abbrev pub Fit : List (Own J) → List (Way J) → Type 0
  Fit [] [] = ⊤
  Fit [] (way ∷ ways) = ⊥
  Fit (own ∷ owns) [] = ⊥
  Fit (own ∷ owns) (way ∷ ways) = (way.deque ≡ own.deque) × (0 < own.lent) × Fit owns ways

  -- the deques once these ways have come back
  abbrev pub closed : List (Own J) → List (Way J) → List (Own J)
  closed [] ways = []
  closed (own ∷ owns) [] = []
  closed (own ∷ owns) (way ∷ ways) = with_way own way ∷ closed owns ways

  -- some ways have come back, and these are still out
  pub record AreSettled (before : List (Own J)) (rounds : List (List (Way J))) (owns : List (Own J)) (out : List (List (Way J))) : Type 0 where
    pub ways : AllByRecursion (λ ways. ways_of ways ≡ deques_of owns) out
    pub lent : AllLend (length out) owns
    pub put : all_own_put owns ≡ all_own_put before
    pub taken : (h : J → ℕ) → weigh h (all_own_taken owns) + weigh h (all_stolen out) ≡ weigh h (all_own_taken before) + weigh h (all_stolen rounds)
