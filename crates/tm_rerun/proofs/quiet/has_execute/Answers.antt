use Rattle.std.proofs.Common.{ap, ◌∙◌, rules}
use Rattle.std.specs.Prelude.{◌==◌, codes}
use Rattle.std.proofs.lemmas.Bool.Decides.{nat_tests}
use Rattle.std.proofs.lemmas.Iterator.Splits.{YieldsList-from_slice_split}
use Rattle.std.proofs.lemmas.Iterator.Consumers.{YieldsList-end}
use Rattle.tm_rules.specs.Prelude.{is_one_of}
use Rattle.tm_rerun.proofs.quiet.has_execute.Goals as goal

pub returns : goal.returns
returns c =
    let pieces = YieldsList-end (YieldsList-from_slice_split _ (λ b. b == 47) c.args.permissions.now (search rules) (search rules) (search rules) (λ x b q h. search (rules, nat_tests))) c.loop-piece.yielded _ c.loop-piece.yielded_by _ _ c.in-None.is c.next.ensures.steps in
    c.loop-piece.invariant ∙ ap (is_one_of (codes "execute")) pieces.0
