-- What the judge answers of a run that was given in parts.
use Rattle.std.proofs.Common.{◌≡◌, List, Option, refl, subst}
use Rattle.std.specs.Option.{option_copied}
use Rattle.tm_rules.specs.Prelude.{Trace}
use Rattle.tm_rules.specs.Types.{Book, Editor, Policy, Run}
use Rattle.tm_legal.specs.Prelude.{Scene}
use Rattle.tm_verify_laws.specs.declared.broken.Broken.{Broken}
use Rattle.tm_verify_notes.specs.declared.given.Given.{Given}
use Rattle.tm_verify_notes.specs.Given.{scene_of, run_of}
use Rattle.tm_verify_steps.specs.Clauses.{IsJudged}
use Rattle.tm_verify.specs.Verified.{judged_scene, IsVerified}

pub is_verified : (given : Given) (opening : Policy) (trace : Trace) (editors : List Editor) (book : Option Book) (run : Run) (broken : Option Broken)
    → given.opening.now ≡ opening → given.trace.now ≡ trace → given.editors.now ≡ editors → option_copied given.book ≡ book → given.steps.now ≡ run.steps → given.takes.now ≡ run.takes
    → IsJudged given broken → IsVerified (judged_scene opening trace editors book) run broken
is_verified given opening trace editors book run broken o t e b s k h =
    let scene : scene_of given ≡ judged_scene opening trace editors book = rw (o, t, e, b) refl in
    let whole : run_of given ≡ run = rw (s, k) refl in
    subst (λ (sc : Scene). IsVerified sc run broken) scene (subst (λ (r : Run). IsVerified (scene_of given) r broken) whole h)
