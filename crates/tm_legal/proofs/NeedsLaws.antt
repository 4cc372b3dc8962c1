-- Whatever turns have led to it, a player has what the next event of each activity needs.
use Rattle.std.proofs.Common.{List}
use Rattle.std.specs.Prelude.{is_some}
use Rattle.tm_rules.specs.Types.{Turn}
use Rattle.tm_legal.specs.Prelude.{CanGoOn, CanPlay, Scene, own_turns, start_of, turns}
use Rattle.tm_legal.proofs.OwnTurns.{start-goes, own-turns-go, goes-can, turns-are-own}

-- whatever turns of its own have led to a player, it can go on
pub own-turns-can : (scene : Scene) (list : List Turn) → CanPlay scene → CanGoOn scene.grammar (own_turns scene.grammar (is_some scene.book) (start_of scene) list)
own-turns-can scene list can =
    goes-can scene can (own_turns scene.grammar (is_some scene.book) (start_of scene) list) (own-turns-go scene can.grammar (start_of scene) (is_some scene.book) list (start-goes scene can))

-- whatever turns of a schedule have
pub can-go-on : (scene : Scene) (list : List Turn) → CanPlay scene → CanGoOn scene.grammar (turns scene (start_of scene) list)
can-go-on scene list can =
    let own = turns-are-own scene (start_of scene) list in
    rw own.1 (own-turns-can scene own.0 can)
