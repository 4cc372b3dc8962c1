use Rattle.std.proofs.Common.{◌≡◌, ap, subst}
use Rattle.std.specs.Prelude.{Some, slice_get}
use Rattle.std.specs.Option.{option_copied}
use Rattle.tm_rules.specs.Types.{argument_words}
use Rattle.tm_policy.specs.Searching.{Asked, asked_request}
use Rattle.tm_policy.proofs.Executes.{asked_path}
use Rattle.tm_policy.proofs.granting.Asked.name.Goals as goal

pub returns-in-Some : goal.returns-in-Some
returns-in-Some c =
    subst (λ (asked : Asked). Some c.in-Some.path.now ≡ slice_get (argument_words (asked_request asked).args) 0) c.self.view_is
    (asked_path c.self.inside.request.now (option_copied c.self.inside.path) c.in-Some.path.now (ap option_copied c.in-Some.is))
