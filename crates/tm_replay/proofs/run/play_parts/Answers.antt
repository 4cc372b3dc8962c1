use Rattle.std.proofs.Common.{List, length, take, ap, sym, ◌∙◌, subst}
use Rattle.std.specs.List.{AllByRecursion}
use Rattle.tm_rules.specs.Types.{Start}
use Rattle.tm_desk.specs.Desks.{desk_book}
use Rattle.tm_seat.specs.Parts.{PartWaits, working_parts}
use Rattle.tm_seat.proofs.Plans.{parts-wait}
use Rattle.tm_replay.proofs.Whole.{together}
use Rattle.tm_replay.proofs.run.play_parts.Goals as goal

pub play_as-requires-clause-waits : goal.play_as-requires-clause-waits
play_as-requires-clause-waits g c κs within =
    let start = c.args.machine.start in
    let ready = g.K.Work.ready c.args.way.now in
    subst (AllByRecursion (PartWaits ready start))
    (sym (c.in_ok-parts.ensures ∙ ap (working_parts c.args.hands.items) (c.in_ok-editors.ensures ∙ ap (λ (s : Start). s.editors) c.opening-2.ensures)))
    (parts-wait ready start c.args.hands.items c.requires.ready)

pub returns-clause-played : goal.returns-clause-played
returns-clause-played g c =
    let start = c.args.machine.start in
    together (g.K.Work.did c.args.way.now) start (desk_book c.args.desk.now) c.args.hands.items c.in_ok-parts.parts.items c.in_ok-machine.machine c.in_ok-machine.given.items c.truncate.new.self.items
    (c.in_ok-parts.ensures ∙ ap (working_parts c.args.hands.items) (c.in_ok-editors.ensures ∙ ap (λ (s : Start). s.editors) c.opening-2.ensures))
    c.in_ok-machine.ensures c.versions.ensures.replies
    (c.truncate.ensures.items ∙ ap (λ (hands : List _). take (length hands) c.in_ok-machine.given.items) c.as_slice-workers.ensures.value)
