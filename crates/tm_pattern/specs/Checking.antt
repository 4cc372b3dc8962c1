-- Whether a text is a pattern, without what is read of it.
use Rattle.std.specs.Prelude.{◌≡◌, ℕ, ◌<◌, List, [], ◌∷◌, length, map, Option, Some, None, Result, Ok, Err}
use Rattle.tm_word.specs.declared.Repeat.{Repeat}
use Rattle.tm_pattern.specs.declared.token.Token.{Token}
use Rattle.tm_pattern.specs.declared.token.Placed.{Placed}
use Rattle.tm_pattern.specs.declared.checking.Standing.{Standing}
use Rattle.tm_pattern.specs.declared.reading.PatternFault.{PatternFault}
use Rattle.tm_pattern.specs.declared.reading.Stage.{Stage}
use Rattle.tm_pattern.specs.declared.reading.State.{State}
use Rattle.tm_pattern.specs.Tokens.{placed, tokens}

-- the tokens of a text, wherever they stand
abbrev pub loose : List ℕ → List Placed
loose text = map (λ item. placed 0 item.token) (tokens 0 0 text)

-- the first token of a text, and the bytes after it
pub record IsCut (text : List ℕ) (first : Token) (rest : List ℕ) : Type 0 where
  pub parts : loose text ≡ placed 0 first ∷ loose rest
  pub shorter : length rest < length text

-- a state in which nothing has been read
abbrev pub bare : Stage → Repeat → State
bare at kind =
    record { done = []; repeat = kind; front = None; minus = []; part = []; stage = at }

-- where reading stands
abbrev pub at_stage : Standing → Stage × Repeat
at_stage at = (at.stage, at.repeat)

-- what a state says of what may come next
abbrev pub control : Result State PatternFault → Option (Stage × Repeat)
control (Ok s) = Some (s.stage, s.repeat)
control (Err fault) = None
