use Rattle.std.proofs.Common.{ap, sym, ◌∙◌, subst}
use Rattle.tm_rules.specs.Types.{Start}
use Rattle.tm_legal.specs.Prelude.{State}
use Rattle.tm_seat.specs.Dealing.{IsGathered}
use Rattle.tm_seat.specs.Parts.{trees_from}
use Rattle.tm_seat.proofs.Plans.{hands-ready}
use Rattle.tm_replay.proofs.Whole.{dealt-hands}
use Rattle.tm_replay.proofs.run.play_trace.Goals as goal

pub play_parts-requires-clause-can : goal.play_parts-requires-clause-can
play_parts-requires-clause-can g c κs within = record { opened = c.requires.can.opened; named = c.requires.can.named }

pub play_parts-requires-clause-ready : goal.play_parts-requires-clause-ready
play_parts-requires-clause-ready g c κs within =
    let start = c.args.machine.start in
    let dealt = dealt-hands start c.args.trace c.args.workers c.in_ok-to_play.to_play.items c.in_ok-hands.hands.items (c.in_ok-to_play.ensures ∙ ap (λ (s : State). trees_from s.policy 1 c.args.trace) c.requires.opened) c.in_ok-hands.ensures.count c.in_ok-hands.ensures.dealt in
    hands-ready start c.args.trace c.requires.trees c.requires.can.starts c.requires.can.requests c.args.workers c.in_ok-hands.hands.items dealt

pub returns-clause-played : goal.returns-clause-played
returns-clause-played g c =
    let start = c.args.machine.start in
    let dealt = dealt-hands start c.args.trace c.args.workers c.in_ok-to_play.to_play.items c.in_ok-hands.hands.items (c.in_ok-to_play.ensures ∙ ap (λ (s : State). trees_from s.policy 1 c.args.trace) c.requires.opened) c.in_ok-hands.ensures.count c.in_ok-hands.ensures.dealt in
    record {
      hands = c.in_ok-hands.hands.items;
      dealt = dealt;
      given = c.in_ok-machine.queues.items;
      played = c.in_ok-machine.ensures.played;
      gathered = subst (λ n. IsGathered n c.in_ok-machine.queues.items c.in_ok-rows.rows.items) (ap (λ (s : Start). s.trees) c.opening.ensures ∙ sym c.requires.trees) c.in_ok-rows.ensures;
    }
