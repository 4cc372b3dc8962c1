-- What the code's player stands for.
use Rattle.std.specs.Prelude.{ℕ, ◌==◌, Bool, false, [], Option, None, option_map, map}
use Rattle.std.specs.Option.{option_and_then, option_map_or}
use Rattle.tm_rules.specs.Types.{Policy, Tree, Turn}
use Rattle.tm_legal.specs.Prelude.{Player, Settled, Way, at_start, settle, supervisor_step}
use Rattle.tm_rules.specs.Prelude.{Queries, first_query}
use Rattle.tm_audit.specs.Tomoyo.{tomoyo_grammar}
use Rattle.tm_machine.specs.Machine.{Course}
use Rattle.tm_take.specs.Ways.{way_of}
use Rattle.tm_core.specs.declared.player.Player as code
use Rattle.tm_core.specs.Moves.{at_course}

-- its machine
unfoldable pub course_of : {R : Type 0} → code.Player R → Course
course_of player = player.machine

-- its state, its steps, its trees on their ways, and the lines that its editors have left
unfoldable pub player_of : {R : Type 0} → code.Player R → Player
player_of player = at_course player.machine (map way_of player.trees.items) player.scripts.items

-- a tree at its beginning
abbrev pub way_at_start : Policy → Tree → Way
way_at_start policy tree =
    record { at = at_start policy tree; items = tree.records; begun = None; takes = [] }

-- the serial is that of the first query that is held
abbrev pub first_is : Queries → ℕ → Bool
first_is queries serial =
    option_map_or (λ query. query.serial == serial) (first_query queries) false

-- the event of a turn of the supervisor
abbrev pub supervisor_event : Player → Bool → Turn → Option Player
supervisor_event player desk turn =
    option_and_then (λ step. option_map (λ (s : Settled). s.player)
    (settle tomoyo_grammar player step)) (supervisor_step tomoyo_grammar player desk turn)
