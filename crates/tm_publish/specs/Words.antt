-- What clauses say of a front and of a pass.
use Rattle.std.specs.Prelude.{◌≡◌, ℕ, List, [], Option, Some}
use mathlib.Core.List.{IsPrefix}
use Rattle.tm_publish.specs.declared.front.Front.{Front}
use Rattle.tm_publish.specs.declared.pass.Pass.{Pass}
use Rattle.tm_publish.specs.Fitting.{AllFit}
use Rattle.tm_publish.specs.History as history

module _ {L O P S : Type 0} {n : _} {l : _} {o : _} where
  -- the opening of its board
  abbrev pub front_home : Front L O P S n l o → Option P
  front_home f = history.opening_of f.seen.log

  -- its list of steps
  abbrev pub front_list : Front L O P S n l o → List S
  front_list f = history.steps_of f.seen.log

  -- the opening of its board
  abbrev pub home : Pass L O P S n l o → Option P
  home p = history.opening_of p.mind.front.seen.log

  -- the longest list of steps that it has seen or been told
  abbrev pub known : Pass L O P S n l o → List S
  known p = history.steps_of p.mind.front.seen.log

  -- a list that it has seen or been told, or a beginning of one
  abbrev pub HasSeen : Pass L O P S n l o → List S → Type 0
  HasSeen p xs = history.Knows p.mind.all.log p.mind.front.version xs

  -- the numbers of its own steps
  abbrev pub made_of : Pass L O P S n l o → List ℕ
  made_of p = p.mind.made.items

  -- how many of its entries were refused
  abbrev pub refused_of : Pass L O P S n l o → ℕ
  refused_of p = p.mind.refused

  -- an opening and a list of the pass's board, fitting, that go on from all that the pass has seen
  -- or been told
  pub record GoesOn (fits : P → List S → S → Type 0) (pass : Pass L O P S n l o) (p : P) (xs : List S) : Type 0 where
    pub opened : home pass ≡ Some p
    pub begins : (ys : List S) → HasSeen pass ys → IsPrefix ys xs
    pub fitting : AllFit fits p xs

  -- a pass that has seen a board's opening alone, and made nothing
  pub record IsFresh (p : P) (pass : Pass L O P S n l o) : Type 0 where
    pub opened : home pass ≡ Some p
    pub knows : known pass ≡ []
    pub has : HasSeen pass []
    pub alone : (xs : List S) → HasSeen pass xs → xs ≡ []
    pub made : made_of pass ≡ []
    pub refused : refused_of pass ≡ 0
