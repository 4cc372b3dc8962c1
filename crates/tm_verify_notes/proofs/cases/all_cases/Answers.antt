use Rattle.std.proofs.Common.{rules, ◌≡◌, ◌<◌, ◌++◌, ◌+◌, ◌∷◌, ◌∙◌, length, take, drop, arith, refl, sym, ap, subst}
use Rattle.std.proofs.lemmas.List.{at_drop_more}
use Rattle.tm_rules.specs.Prelude.{live_domain}
use Rattle.tm_legal.specs.Prelude.{cases, cases_from, do_pids, tree_cases}
use Rattle.tm_take.specs.Situations.{first_situation}
use Rattle.tm_verify_notes.proofs.CaseLaws.{next_tree}
use Rattle.tm_verify_notes.proofs.cases.all_cases.Goals as goal

pub loop-tree-preserved : goal.loop-tree-preserved
loop-tree-preserved g c =
    let policy = g.R.Rep.policy c.args.rep.now in
    let tree = c.tree-item.result in
    let trees = drop (c.loop-tree.tree-index + 1) c.args.trace.now in
    let within : c.loop-tree.tree-index < length c.args.trace.now = search rules in
    let at : drop c.loop-tree.tree-index c.args.trace.now ≡ c.tree-item.result ∷ drop (c.loop-tree.tree-index + 1) c.args.trace.now =
    at_drop_more (λ ts. ts) c.args.trace.now c.loop-tree.tree-index c.tree-item.result within ∙ ap (λ t. t ∷ drop (c.loop-tree.tree-index + 1) c.args.trace.now) (sym c.tree-item.is) in
    let home : c.live_domain-home.result ≡ live_domain (g.R.Rep.policy c.args.rep.now) c.tree-item.result.start = search rules in
    let pushed : c.push_tree.new.out.items ≡ c.loop-tree.out.items ++ tree_cases c.loop-tree.number (first_situation c.live_domain-home.result) c.tree-item.result.records (take (length (do_pids c.tree-item.result.records)) c.loop-tree.rest.now) = search rules in
    let rest : c.cut.result.1.now ≡ drop (length (do_pids c.tree-item.result.records)) c.loop-tree.rest.now = search rules in
    let whole = cases policy c.args.trace.now c.args.takes.now in
    let before = subst (λ ts. c.loop-tree.out.items ++ cases_from c.loop-tree.number policy ts c.loop-tree.rest.now ≡ whole) at c.loop-tree.invariant.0 in
    let index = c.loop-tree.invariant.1 in (
      next_tree policy c.loop-tree.number (c.loop-tree.number + 1) c.live_domain-home.result tree trees c.loop-tree.rest.now c.cut.result.1.now c.loop-tree.out.items c.push_tree.new.out.items whole refl home pushed rest before,
      omega (arith, index),
    )
