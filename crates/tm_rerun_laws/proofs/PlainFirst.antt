-- In a plain policy what an execute finds is told by its aggregated name, its real path and its
-- first argument.
use Rattle.std.proofs.Common.{◌≡◌, [], Option, Some, None, refl}
use Rattle.std.specs.Prelude.{unwrap_or, slice_get}
use Rattle.std.proofs.lemmas.Bool.{eqb-true}
use Rattle.tm_word.specs.Prelude.{Word}
use Rattle.tm_rules.specs.Types.{Namespace}
use Rattle.tm_rules.specs.Prelude.{namespace_of, searched}
use Rattle.tm_rules.proofs.LearnedLaws.{execute-first}
use Rattle.tm_rerun_laws.specs.Repeating.{PlainFirst, execute_of}
use Rattle.tm_rerun_laws.proofs.Executes.{IsExecute}
use Rattle.tm_rerun_laws.proofs.ExecutePolicies.{plain-first}
use Rattle.tm_rerun_laws.proofs.ExecuteVerdicts.{has-values}

unwrapped : (o : Option Word) (word : Word) → o ≡ Some word → o ≡ Some (unwrap_or o [])
unwrapped None word is = absurd cc
unwrapped (Some x) word is = refl

pub plain_first : PlainFirst
plain_first is_path policy d domain process request plain at live asked executes =
    let ns : Namespace = namespace_of policy domain in
    let has = has-values is_path request asked executes in
    let is : IsExecute (execute_of ns request) (searched ns request) = rw executes (record {
      args = refl;
      perm = eqb-true request.perm 0 (execute-first request executes);
      real = unwrapped request.attributes.real_path has.real has.real_is;
      argument = unwrapped (slice_get request.attributes.argv 0) has.argument has.argument_is;
    }) in
    plain-first policy d domain process request (execute_of ns request) plain at live is
