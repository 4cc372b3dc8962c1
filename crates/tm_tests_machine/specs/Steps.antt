-- What a step of a pass is at a machine.
use Rattle.std.specs.Prelude.{◌≡◌, ℕ, ◌+◌, List, [], ◌∷◌, ◌++◌, length, Some}
use mathlib.Core.List.{IsPrefix}
use Rattle.tm_rules.specs.Types.{Made, Reply, Start}
use Rattle.tm_grammar.specs.Tomoyo.{tomoyo_grammar}
use Rattle.tm_legal.specs.Prelude.{apply}
use Rattle.tm_made.specs.Made.{state_made}
use Rattle.tm_publish.specs.declared.pass.Pass.{Pass}
use Rattle.tm_publish.specs.Words.{known, HasSeen, made_of}

module _ {L O : Type 0} {n : _} {l : _} {o : _} where
  -- the step was made last, after all that the pass had seen, under the number that the list's
  -- length tells, and is replied what the definition of a step says
  pub record IsMade (p : Start) (old new : Pass L O Start Made n l o) (made : Made) (number : ℕ) (reply : Reply) : Type 0 where
    pub before : List Made
    pub begins : (xs : List Made) → HasSeen old xs → IsPrefix xs before
    pub knows : known new ≡ before ++ made ∷ []
    pub numbered : number ≡ length before + 1
    pub own : made_of new ≡ made_of old ++ number ∷ []
    pub replied : (apply tomoyo_grammar (state_made tomoyo_grammar p before) made.step).reply ≡ Some reply
