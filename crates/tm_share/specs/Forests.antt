-- Numbers that stand above others: the children of a process, which it forks.
use Rattle.std.specs.Prelude.{◌≡◌, ◌<◌, ◌+◌, ℕ, zero, suc, List}
use Rattle.tm_share.specs.Weights.{weigh, times}

-- the weights of the children of all these, added up
abbrev pub weigh_children : (ℕ → ℕ) → (ℕ → List ℕ) → List ℕ → ℕ
weigh_children h children taken = weigh (λ p. weigh h (children p)) taken

-- f of each number below n, added up
abbrev pub sum_below : ℕ → (ℕ → ℕ) → ℕ
sum_below zero f = 0
sum_below (suc n) f = sum_below n f + f n

-- a child's number is above its parent's, and each number below count is a root once, or a child of one number once
pub record IsForest (count : ℕ) (roots : List ℕ) (children : ℕ → List ℕ) : Type 0 where
  pub later : (p c : ℕ) → 0 < times c (children p) → p < c
  pub one : (c : ℕ) → c < count → times c roots + sum_below c (λ p. times c (children p)) ≡ 1
