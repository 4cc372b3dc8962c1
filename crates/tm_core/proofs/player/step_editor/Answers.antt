use Rattle.std.proofs.Common.{◌≡◌, ◌≤◌, ◌<◌, ◌-◌, length, map, refl, sym, ap, ◌∙◌, inl, inr, arith}
use Rattle.std.specs.Prelude.{Some, slice_get}
use Rattle.tm_rules.specs.Types.{Made, Maker, Step}
use Rattle.tm_take.specs.Ways.{way_of}
use Rattle.tm_core.specs.Players.{course_of, player_of}
use Rattle.tm_core.proofs.PlayerLaws.{get-index, no-editor, past-editors, editor-fits, editor-answers, editor-still, script-same}
use Rattle.tm_core.proofs.player.step_editor.Goals as goal

pub returns-then-number-eq0-clause-event : goal.returns-then-number-eq0-clause-event
returns-then-number-eq0-clause-event g c = (no-editor (player_of c.args.player.now) c.args.number c.if-number-eq0.true, refl)

pub returns-then-place-len-clause-event : goal.returns-then-place-len-clause-event
unfolding course_of player_of
returns-then-place-len-clause-event g c =
    let past : length c.args.player.now.scripts.items ≤ c.args.number - 1 = omega (arith, c.if-place-len.true, c.len.ensures) in
    (past-editors c.args.player.now.machine (map way_of c.args.player.now.trees.items) c.args.player.now.scripts.items c.args.number c.if-number-eq0.false past, refl)

pub settle-requires : goal.settle-requires
unfolding player_of
settle-requires g c =
    let lt : c.args.number - 1 < length c.args.player.now.scripts.items = omega (arith, c.if-place-len.false, c.len.ensures) in
    let at : slice_get c.args.player.now.scripts.items (c.args.number - 1) ≡ Some c.index_mut-script.result.now = get-index c.args.player.now.scripts.items (c.args.number - 1) c.index_mut-script.result.now lt c.index_mut-script.ensures.value in
    record { fits = editor-fits c.args.player.now.machine (map way_of c.args.player.now.trees.items) c.args.player.now.scripts.items c.args.number c.in-Some.file c.in-Some.line c.index_mut-script.result.now c.requires c.if-number-eq0.false at }

pub returns-in_ok-settle-in-Some-clause-event : goal.returns-in_ok-settle-in-Some-clause-event
unfolding course_of player_of
returns-in_ok-settle-in-Some-clause-event g c =
    let lt : c.args.number - 1 < length c.args.player.now.scripts.items = omega (arith, c.if-place-len.false, c.len.ensures) in
    let at : slice_get c.args.player.now.scripts.items (c.args.number - 1) ≡ Some c.index_mut-script.result.now = get-index c.args.player.now.scripts.items (c.args.number - 1) c.index_mut-script.result.now lt c.index_mut-script.ensures.value in
    editor-answers c.args.player.now.machine c.settle.new.self (map way_of c.args.player.now.trees.items) c.args.player.now.scripts.items c.args.number c.in-Some.file c.in-Some.line c.next.new.self c.in_ok-settle-in-Some.field-0 c.if-number-eq0.false
    (at ∙ ap (λ lines. Some lines) (c.in-Some.ensures))
    (record { done = c.in_ok-settle-in-Some.ensures.done; noted = c.in_ok-settle-in-Some.ensures.made; start = c.in_ok-settle-in-Some.ensures.start })

pub returns-in_ok-settle-in-Some-clause-start : goal.returns-in_ok-settle-in-Some-clause-start
unfolding course_of
returns-in_ok-settle-in-Some-clause-start g c = c.in_ok-settle-in-Some.ensures.start

pub returns-in_ok-settle-in-Some-clause-makers : goal.returns-in_ok-settle-in-Some-clause-makers
unfolding course_of
returns-in_ok-settle-in-Some-clause-makers g c =
    let made : Made = record { maker = Maker.Editor c.args.number; step = Step.Edit c.args.number c.in-Some.file c.in-Some.line } in
    inr (made, c.in_ok-settle-in-Some.field-0, c.in_ok-settle-in-Some.ensures.made, refl)

pub returns-in-None-clause-event : goal.returns-in-None-clause-event
unfolding course_of player_of
returns-in-None-clause-event g c =
    let lt : c.args.number - 1 < length c.args.player.now.scripts.items = omega (arith, c.if-place-len.false, c.len.ensures) in
    let at : slice_get c.args.player.now.scripts.items (c.args.number - 1) ≡ Some c.index_mut-script.result.now = get-index c.args.player.now.scripts.items (c.args.number - 1) c.index_mut-script.result.now lt c.index_mut-script.ensures.value in (
      editor-still c.args.player.now.machine (map way_of c.args.player.now.trees.items) c.args.player.now.scripts.items c.args.number c.if-number-eq0.false (at ∙ ap (λ lines. Some lines) c.in-None.ensures.0),
      script-same c.args.player.now.machine (map way_of c.args.player.now.trees.items) c.args.player.now.scripts.items (c.args.number - 1) c.index_mut-script.result.now c.next.new.self at (c.in-None.ensures.1 ∙ sym c.in-None.ensures.0),
    )

pub returns-in-None-clause-start : goal.returns-in-None-clause-start
unfolding course_of
returns-in-None-clause-start g c = refl

pub returns-in-None-clause-makers : goal.returns-in-None-clause-makers
unfolding course_of
returns-in-None-clause-makers g c = inl refl
