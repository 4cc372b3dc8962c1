use Rattle.std.proofs.Common.{rules, ◌≡◌, ◌==◌, true, false, subst}
use Rattle.std.specs.List.{list_any}
use Rattle.tm_rules.specs.Types.{Made, Maker, Reply, Step}
use Rattle.tm_core.specs.Moves.{Makes}
use Rattle.tm_core.proofs.TreeLaws.{end-fits, end-replied}
use Rattle.tm_core.proofs.trees.end_tree.Goals as goal

pub settle-requires : goal.settle-requires
settle-requires g c = record { fits = end-fits c.args.machine.now.state c.args.number c.requires.some c.requires.there }

pub returns : goal.returns
returns g c =
    let made : Made = record { maker = Maker.Tree c.args.number; step = Step.End c.args.number } in
    let on : c.args.desk ≡ true = search rules in
    let not_yet : list_any (λ ended. ended == c.args.number) c.args.machine.now.state.ended ≡ false = search rules in
    let replied : c.in_ok-settle.field-0 ≡ Reply.End = end-replied c.args.machine.now.state c.args.number c.settle.new.self.state c.in_ok-settle.field-0 c.requires.some c.requires.there c.in_ok-settle.ensures.done in
    let makes : Makes c.args.machine.now made c.in_ok-settle.field-0 c.settle.new.self = record { done = c.in_ok-settle.ensures.done; noted = c.in_ok-settle.ensures.made; start = c.in_ok-settle.ensures.start } in
    (on, not_yet, subst (λ (reply : Reply). Makes c.args.machine.now made reply c.settle.new.self) replied makes)
