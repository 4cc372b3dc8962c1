-- The step comes last, after all that the pass knew.
use Rattle.std.proofs.Common.{◌≡◌, ◌≤◌, [], ◌∷◌, length, sym, ap, ◌∙◌, arith, length-append}
use mathlib.Core.List.{IsPrefix}
use Rattle.tm_publish.specs.Words.{known}
use Rattle.tm_publish.proofs.Prefixes.{prefix_trans, prefix_length}
use Rattle.tm_serve.proofs.Answering.{numbered_last}
use Rattle.tm_serve.proofs.making.make.Goals as goal

pub returns-clause-made : goal.returns-clause-made
returns-clause-made g c =
    let done = c.in_ok-settled.ensures.settled in
    let front : IsPrefix (known c.args.pass.now) done.before = done.begins (known c.args.pass.now) c.seen.ensures.known in
    let longer : length (known c.args.pass.now) ≤ length done.before = prefix_length (known c.args.pass.now) done.before front in
    record {
      made = done.made;
      begins = prefix_trans (known c.args.pass.now) done.before (known c.settle.new.pass) front (c.args.step ∷ [], sym done.knows);
      after = omega (arith, longer, done.numbered);
      last = done.numbered ∙ (sym (length-append done.before (c.args.step ∷ [])) ∙ ap length (sym done.knows));
      there = rw (done.knows, done.numbered) (numbered_last done.before c.args.step);
    }
