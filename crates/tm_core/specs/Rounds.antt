-- Turns one after another, and rounds of them.
use Rattle.std.specs.Prelude.{◌≡◌, ◌≤◌, ◌+◌, ◌++◌, ◌∷◌, [], ℕ, Bool, false, List, None, if◌then◌else◌, map}
use Rattle.std.specs.List.{AllByRecursion}
use Rattle.tm_rules.specs.Types.{Turn}
use Rattle.tm_legal.specs.Prelude.{NobodyCanMove, Player, Scene, event, numbers_to, play_left, rounds, turns}

-- these turns were played, and whether one of them had an event
pub record HasPlayed (scene : Scene) (old now : Player) (list : List Turn)
    (moved : Bool) : Type 0 where
  pub led : now ≡ turns scene old list
  pub still : moved ≡ false → (now ≡ old) × AllByRecursion (λ who. event scene old who ≡ None) list
  pub less : (if moved then 1 else 0) + play_left scene now ≤ play_left scene old

-- so many editors and trees, each once, and then the desk
abbrev pub one_round : ℕ → ℕ → List Turn
one_round editors trees =
    map Turn.Editor (numbers_to editors) ++ map Turn.Tree (numbers_to trees) ++ Turn.Desk ∷ []

-- some rounds after a player nobody can move
pub record IsOver (scene : Scene) (old new : Player) : Type 0 where
  pub number_of_rounds : ℕ
  pub led : new ≡ rounds scene old number_of_rounds
  pub over : NobodyCanMove scene new
