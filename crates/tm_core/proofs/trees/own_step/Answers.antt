use Rattle.std.proofs.Common.{◌≡◌, ℕ, ◌++◌, ◌∷◌, [], suc, length, ap, ◌∙◌}
use Rattle.tm_rules.specs.Types.{Made, Maker}
use Rattle.tm_audit.specs.Tomoyo.{tomoyo_grammar}
use Rattle.tm_legal.specs.Prelude.{after_step, going_on}
use Rattle.tm_take.specs.Taking.{rest_of}
use Rattle.tm_take.specs.Ways.{way_of}
use Rattle.tm_core.proofs.TreeLaws.{version-next}
use Rattle.tm_core.proofs.trees.own_step.Goals as goal

pub returns-in_ok-go_on-in-Ok-clause-makes : goal.returns-in_ok-go_on-in-Ok-clause-makes
returns-in_ok-go_on-in-Ok-clause-makes g c =
    let made : Made = record { maker = Maker.Process c.in-Some.left.now.process.pid; step = c.in-Some.step } in
    let noted : c.settle.new.self.made ≡ c.args.machine.now.made ++ (made, c.in-Ok.reply) ∷ [] = rw c.process.ensures at c.in-Ok.ensures.made in
    let number : c.version.result ≡ suc (length c.args.machine.now.made) = c.version.ensures ∙ version-next c.args.machine.now c.settle.new.self made c.in-Ok.reply noted in
    record {
      step = c.in-Some.step;
      left = c.in-Some.left;
      reply = c.in-Ok.reply;
      out = c.in-Some.ensures;
      makes = record { done = c.in-Ok.ensures.done; noted = noted; start = c.in-Ok.ensures.start };
      goes =
          c.in_ok-go_on-in-Ok.ensures
          ∙ ap (going_on tomoyo_grammar (way_of c.args.tree.now))
          (c.in_ok-next-in-Ok.ensures ∙ ap (λ (n : ℕ). after_step tomoyo_grammar c.in-Some.left (rest_of c.in-Some.left.stage) n c.in-Ok.reply) number);
    }
