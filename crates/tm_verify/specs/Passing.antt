-- A machine on its way along given steps.
use Rattle.std.specs.Prelude.{◌≡◌, ◌≤◌, [], length, take}
use Rattle.tm_core.specs.Tomoyo.{tomoyo_grammar}
use Rattle.tm_legal.specs.Prelude.{IsNamed, newest}
use Rattle.tm_verify_notes.specs.declared.given.Given.{Given}
use Rattle.tm_verify_notes.specs.Given.{scene_of, history_of}
use Rattle.tm_verify_notes.specs.Stepping.{AreNoted}
use Rattle.tm_verify.specs.declared.pass.Pass as code

-- the machine is at its version of the given steps, and has noted those before it
pub record IsAt {R : Type 0} (given : Given) (pass : code.Pass R) : Type 0 where
  pub within : pass.version ≤ length (history_of given)
  pub state : pass.machine.state ≡ newest (scene_of given) (take pass.version (history_of given))
  pub named : IsNamed tomoyo_grammar.is_path pass.machine.state.policy
  pub noted : AreNoted (scene_of given) [] (take pass.version (history_of given)) pass.notes.items
