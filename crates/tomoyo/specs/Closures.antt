-- What the closure keeps that plays what was read.
use Rattle.std.specs.Prelude.{◌≡◌, Result, Ok, ⊤}
use Rattle.std.specs.Fn.{Shared}
use Rattle.tm_rules.specs.Prelude.{IsFew}
use Rattle.tm_rules.specs.Types.{Policy, Run, Start}
use Rattle.tm_trace.specs.Written.{IsTrace}
use Rattle.tm_legal.specs.Prelude.{CanPlay}
use Rattle.tm_call.specs.declared.words.How.{How}
use Rattle.tm_call.specs.declared.words.Command.{Command}
use Rattle.tm_gen_laws.specs.CallInputLoaded.{Loaded}
use Rattle.tm_gen_laws.specs.Reading.{start_of, scene_of}
use Rattle.tomoyo.specs.Play.{IsPlayOf}

-- what was read can be played
pub record IsPlayable (loaded : Loaded) : Type 0 where
  pub few : IsFew loaded.policy
  pub can : CanPlay (scene_of loaded)
  pub written : IsTrace loaded.trace

-- a run that came so, its opening, and the policy at its last version
pub record IsEnded (how : How) (loaded : Loaded) (ended : Run × Start × Policy) : Type 0 where
  pub plays : IsPlayOf how loaded ended.0 ended.2
  pub opening : ended.1 ≡ start_of loaded
  pub few : IsFew ended.2

-- a closure that plays what was read, told how
abbrev pub Player : Type 0 → Type 0 → Type 1
Player F E = Shared F (How × (Loaded × Unit {0})) (Result (Run × Start × Policy) E)

-- it may be called on what can be played, and what it plays came so
pub record PlaysSo {F E : Type 0} (calls : Player F E) (how : How) (play : F) : Type 0 where
  pub callable : (loaded : Loaded) → IsPlayable loaded → calls.pre play (how, (loaded, tt))
  pub right : (loaded : Loaded) (ended : Run × Start × Policy)
      → IsPlayable loaded → calls.post play (how, (loaded, tt)) (Ok ended) → IsEnded how loaded ended

-- it plays what this command plays: `gen` plays by turns
abbrev pub PlaysFor : {F E : Type 0} → Player F E → F → Command → Type 0
PlaysFor calls play (Command.Play how again) = PlaysSo calls how play
PlaysFor calls play (Command.Gen seed size) = PlaysSo calls How.ByTurns play
PlaysFor calls play command = ⊤
