use Rattle.std.proofs.Common.{◌≡◌, ◌∙◌, true, List, length, Bool, sym, ap, subst, arith}
use Rattle.std.specs.Prelude.{Option}
use Rattle.std.specs.List.{AllByRecursion, list_all}
use Rattle.tm_rules.specs.Types.{Start, Tree}
use Rattle.tm_legal.specs.Prelude.{State}
use Rattle.tm_rules.specs.Prelude.{Trace, item_is_request}
use Rattle.tm_replay.specs.Tomoyo.{tomoyo_grammar}
use Rattle.tm_desk.specs.Desks.{desk_book}
use Rattle.tm_replay.specs.Office.{list_of}
use Rattle.tm_replay.specs.Parts.{PlayedTogether}
use Rattle.tm_steal_rows.specs.Playing.{HandDid}
use Rattle.tm_steal_rows.specs.Gathering.{homes_of, IsGathered}
use Rattle.tm_steal.specs.Boards.{IsBoard}
use Rattle.tm_steal.proofs.Going.{for-each}
use Rattle.tm_steal.proofs.run.steal_trace.Goals as goal

pub play_parts-requires-clause-ready : goal.play_parts-requires-clause-ready
play_parts-requires-clause-ready g c κs within =
    let board = c.in_ok-board.board in
    let same : c.in_ok-board.board.trace.now ≡ c.args.trace.now = c.in_ok-board.ensures.trace ∙ c.as_slice-2.ensures in
    let count : length c.as_slice-2.result.now ≡ length c.args.trace.now = ap (λ (trees : Trace). length trees) c.as_slice-2.ensures in
    let all = c.in_ok-board.ensures.trees in
    let trees = c.requires.trees in
    for-each (IsBoard c.args.machine.start board) c.in_ok-board.hands.items
    (record {
      asked = subst (λ (its : Trace). AllByRecursion (λ (tree : Tree). list_all (item_is_request tomoyo_grammar.is_path) tree.records ≡ true) its) (sym same) c.requires.can.requests;
      trees = omega (arith, all, count, trees);
    })

pub returns-clause-played : goal.returns-clause-played
returns-clause-played g c =
    let start : Start = c.args.machine.start in
    let trace : Trace = c.args.trace.now in
    let homes : c.in_ok-homes.homes.items ≡ homes_of start.policy trace = c.in_ok-homes.ensures ∙ ap (homes_of c.args.machine.state.policy) c.as_slice.ensures ∙ ap (λ (s : State). homes_of s.policy trace) c.requires.opened in
    let desk : c.opening.result.now.desk ≡ start.desk = ap (λ (s : Start). s.desk) c.opening.ensures in (
      c.in_ok-board.hands.items,
      record {
        given = c.in_ok-machine.given.items;
        played = subst (λ (t : Trace). PlayedTogether (HandDid t) start (desk_book c.args.desk.now) c.in_ok-board.hands.items (list_of c.in_ok-machine.machine) c.in_ok-machine.given.items) (c.in_ok-board.ensures.trace ∙ c.as_slice-2.ensures) c.in_ok-machine.ensures.played;
        gathered = subst (λ (b : Bool). IsGathered trace (homes_of start.policy trace) b c.in_ok-machine.given.items c.in_ok-rows.rows.items) desk
            (subst (λ (hs : List (Option _)). IsGathered trace hs c.opening.result.now.desk c.in_ok-machine.given.items c.in_ok-rows.rows.items) homes (subst (λ (t : Trace). IsGathered t c.in_ok-homes.homes.items c.opening.result.now.desk c.in_ok-machine.given.items c.in_ok-rows.rows.items) c.as_slice-4.ensures c.in_ok-rows.ensures));
      },
    )
