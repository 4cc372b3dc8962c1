use Rattle.std.proofs.Common.{◌≡◌, ◌-◌, ◌<◌, length, sym, ap, ◌∙◌}
use Rattle.std.specs.Prelude.{Some, None, slice_get}
use Rattle.std.proofs.lemmas.Bool.{ltb-true}
use Rattle.std.proofs.lemmas.Option.{slice_get_past}
use Rattle.tm_take.specs.Ways.{way_of}
use Rattle.tm_core.specs.Players.{player_of}
use Rattle.tm_core.proofs.PlayerLaws.{get-index, awaited-at}
use Rattle.tm_core.proofs.player.awaited_by.Goals as goal

pub returns-in-Some : goal.returns-in-Some
unfolding player_of
returns-in-Some g c =
    let found = c.in-Some.ensures.lookup in
    let within : c.args.number - 1 < length c.deref.result.now = ltb-true (c.args.number - 1) (length c.deref.result.now) (sym found.0) in
    let at : slice_get c.args.player.now.trees.items (c.args.number - 1) ≡ Some c.in-Some.tree.now =
    ap (λ trees. slice_get trees (c.args.number - 1)) (sym c.deref.ensures.value) ∙ get-index c.deref.result.now (c.args.number - 1) c.in-Some.tree.now within found.1 in
    c.awaits.ensures ∙ sym (awaited-at way_of c.args.player.now.trees.items c.args.number (Some c.in-Some.tree.now) c.if-number-eq0.false at)

pub returns-in-None : goal.returns-in-None
unfolding player_of
returns-in-None g c =
    let past = c.in-None.ensures.lookup in
    let at : slice_get c.args.player.now.trees.items (c.args.number - 1) ≡ None =
    ap (λ trees. slice_get trees (c.args.number - 1)) (sym c.deref.ensures.value) ∙ slice_get_past c.deref.result.now (c.args.number - 1) past.3 in
    sym (awaited-at way_of c.args.player.now.trees.items c.args.number None c.if-number-eq0.false at)
