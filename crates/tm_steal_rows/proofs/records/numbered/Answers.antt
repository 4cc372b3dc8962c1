use Rattle.std.proofs.Common.{rules, ◌≡◌, ◌∙◌, suc}
use Rattle.tm_steal_rows.proofs.RecordLaws.{found-at, numbered-is, numbered-none}
use Rattle.tm_steal_rows.proofs.records.numbered.Goals as goal

pub returns-in-Some : goal.returns-in-Some
returns-in-Some g c =
    let is : c.args.number ≡ suc c.in-Some.before = search rules in
    let found = c.get.ensures.lookup in
    found-at (λ x. x.now) c.args.items.now c.in-Some.before c.get.result found.0 found.1
    ∙ numbered-is c.args.items.now c.args.number c.in-Some.before is

pub returns-in-None : goal.returns-in-None
returns-in-None g c = numbered-none c.args.items.now c.args.number (search rules)
