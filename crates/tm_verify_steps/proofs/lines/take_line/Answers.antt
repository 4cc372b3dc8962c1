use Rattle.std.proofs.Common.{rules, ◌≡◌, ◌<◌, ◌+◌, ◌-◌, length, slice_index_or}
use Rattle.tm_verify_steps.proofs.LineLaws.{line_counted}
use Rattle.tm_verify_steps.proofs.lines.take_line.Goals as goal

pub returns-clause-had : goal.returns-clause-had
returns-clause-had c =
    let place : c.args.by - 1 + 1 ≡ c.args.by = search rules in
    let within : c.args.by - 1 < length c.args.had.now.items = search rules in
    let number : c.index-number.result.now ≡ slice_index_or c.args.had.now.items (c.args.by - 1) c.index-number.result.now = search rules in
    λ passed. line_counted c.args.by (c.args.by - 1) c.index-number.result.now c.args.had.now.items place within number
