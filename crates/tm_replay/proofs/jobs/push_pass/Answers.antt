use Rattle.std.proofs.Common.{◌++◌, ◌∷◌, [], map, sym, ap, ◌∙◌}
use Rattle.std.specs.Prelude.{Some}
use Rattle.std.proofs.lemmas.List.{map-append}
use Rattle.tm_replay.proofs.jobs.push_pass.Goals as goal

pub returns-in_ok-push-in-Some : goal.returns-in_ok-push-in-Some
returns-in_ok-push-in-Some g c = ap (map Some) c.in_ok-push-in-Some.ensures.items ∙ map-append Some c.args.passes.now.items (c.in-Some.pass ∷ []) ∙ ap (λ p. map Some c.args.passes.now.items ++ p ∷ []) (sym c.in-Some.is)
