-- Every version of a policy that was loaded is opened, one that lines can leave, and loaded again
-- from its printed texts.
use Rattle.std.proofs.Common.{◌≡◌, List, Ok}
use Rattle.tm_rules.specs.Types.{Policy, PolicyFiles, Step}
use Rattle.tm_rules.specs.Prelude.{LoadsBack, load}
use Rattle.tm_legal.specs.Prelude.{IsOpened, State, after, apply}
use Rattle.tm_legal.proofs.Loads.{loads_opened}
use Rattle.tm_legal.proofs.Opened.{step_keeps_opened, steps_keep_opened}
use Rattle.tm_grammar.specs.Tomoyo.{tomoyo_grammar}
use Rattle.tm_grammar.proofs.IsOne.{is_one}
use Rattle.tm_policy_laws.specs.Policies.{IsWritten}
use Rattle.tm_policy_laws.specs.PolicyText.{policy_text}
use Rattle.tm_policy_laws.proofs.StepKeeps.{step_written, steps_written, load_written}
use Rattle.tm_policy_laws.proofs.TextsBack.{texts_back}

pub loaded_both : (files : PolicyFiles) (p : Policy) → load tomoyo_grammar files ≡ Ok p → IsOpened p × IsWritten p
loaded_both files p e = ((loads_opened tomoyo_grammar files p is_one e).0, load_written files p e)

pub step_both : (s : State) (step : Step) → IsOpened s.policy → IsWritten s.policy → IsOpened (apply tomoyo_grammar s step).state.policy × IsWritten (apply tomoyo_grammar s step).state.policy
step_both s step opened written = (step_keeps_opened tomoyo_grammar s step is_one opened, step_written s step written)

pub versions_back : (files : PolicyFiles) (s : State) (steps : List Step) → load tomoyo_grammar files ≡ Ok s.policy → LoadsBack tomoyo_grammar policy_text (after tomoyo_grammar s steps).policy
versions_back files s steps e =
    let both = loaded_both files s.policy e in
    texts_back (after tomoyo_grammar s steps).policy (steps_keep_opened tomoyo_grammar s steps is_one both.0) (steps_written s steps both.1)
