use Rattle.std.proofs.Common.{◌≡◌, ◌∙◌, ap, rules, map}
use Rattle.tm_rules.specs.Types.{Editor, Start}
use Rattle.tm_take.specs.Ways.{way_of}
use Rattle.tm_core.specs.Players.{course_of, player_of, way_at_start}
use Rattle.tm_core.proofs.PlayerLaws.{starts-so}
use Rattle.tm_core.proofs.player.start_play.Goals as goal

pub returns-clause-machine : goal.returns-clause-machine
unfolding course_of
returns-clause-machine g c = search rules

pub returns-clause-starts : goal.returns-clause-starts
unfolding player_of
returns-clause-starts g c =
    let ways : map way_of c.in_ok-trees.trees.items ≡ map (way_at_start c.args.machine.state.policy) c.args.trace = search rules in
    let scripts : c.in_ok-scripts.scripts.items ≡ map (λ (editor : Editor). editor.lines) c.args.machine.start.editors =
    c.in_ok-scripts.ensures ∙ ap (map (λ (editor : Editor). editor.lines)) (c.as_slice.ensures ∙ ap (λ (start : Start). start.editors) c.opening.ensures) in
    λ book. starts-so c.args.machine c.args.trace book (map way_of c.in_ok-trees.trees.items) c.in_ok-scripts.scripts.items c.requires.made c.requires.opened c.requires.trees ways scripts
