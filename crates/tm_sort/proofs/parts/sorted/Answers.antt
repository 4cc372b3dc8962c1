use Rattle.std.proofs.Common.{rules, ◌≡◌, map, ap, ◌∙◌}
use Rattle.std.specs.List.{filter}
use Rattle.tm_sort.specs.Routes.{dest, route_rule}
use Rattle.tm_sort.specs.Parts.{part_numbers, is_part, part_in}
use Rattle.tm_sort.proofs.PartLaws.{parts_same}
use Rattle.tm_sort.proofs.parts.sorted.Goals as goal

pub returns : goal.returns
returns g c =
    let found : c.in_ok-dests.dests.items ≡ map (dest (map route_rule c.args.routes.now)) c.args.items.now = search rules in
    let dests : c.in_ok-dests.dests.items ≡ map (dest c.args.rules.now) c.args.items.now = found ∙ ap (λ rs. map (dest rs) c.args.items.now) c.requires.same in
    let parts : c.into_vec.result.items ≡ map (part_in c.in_ok-dests.dests.items c.args.items.now) (filter (is_part c.args.rules.now) part_numbers) = search rules in
    parts_same c.args.rules.now c.args.items.now c.in_ok-dests.dests.items c.into_vec.result.items dests parts
