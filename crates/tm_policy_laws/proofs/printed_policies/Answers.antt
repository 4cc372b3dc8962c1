use Rattle.tm_policy_laws.proofs.TextsBack.{texts_back}
use Rattle.tm_policy_laws.proofs.Versions.{loaded_both, step_both, versions_back}
use Rattle.tm_policy_laws.proofs.printed_policies.Goals as goal

pub returns : goal.returns
returns c = record {
  again = texts_back;
  loaded = loaded_both;
  stepped = step_both;
  later = versions_back;
}
