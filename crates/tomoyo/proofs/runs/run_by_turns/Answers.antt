use Rattle.std.proofs.Common.{rules, ◌≡◌, ◌∙◌, sym, ap, subst}
use Rattle.tm_desk.specs.Desks.{desk_book}
use Rattle.tm_rules.specs.Types.{Book}
use Rattle.tm_steal.specs.Machine.{Course}
use Rattle.tm_legal.specs.Prelude.{Player}
use Rattle.tm_legal.specs.Play as core
use Rattle.tm_verify.specs.Scenes.{IsReached}
use Rattle.tm_verify.specs.Scenes as scenes
use Rattle.tm_verify.specs.Players.{course_of, player_of}
use Rattle.tm_gen_laws.specs.Reading.{start_of}
use Rattle.tomoyo.proofs.Playing.{reached, play-of}
use Rattle.tomoyo.proofs.runs.run_by_turns.Goals as goal

pub play_out-requires-clause-reached : goal.play_out-requires-clause-reached
play_out-requires-clause-reached c =
    let start_is : c.in_ok-machine.machine.start ≡ start_of c.args.loaded = search rules in
    let course : Course = course_of c.in_ok-player.player in
    let player : Player = player_of c.in_ok-player.player in
    let book : Book = desk_book c.new-desk.result in
    let same : course.start ≡ start_of c.args.loaded = ap (λ (m : Course). m.start) c.in_ok-player.ensures.machine ∙ start_is in
    let starts : player ≡ core.start_of (scenes.scene_of course.start c.args.loaded.trace book) = subst (λ (m : Course). player ≡ core.start_of (scenes.scene_of m.start c.args.loaded.trace book)) (sym c.in_ok-player.ensures.machine) (c.in_ok-player.ensures.starts book) in
    (c.args.loaded.trace, reached c.args.loaded book course player same c.new-desk.ensures.book c.requires.can starts)

pub returns-clause-plays : goal.returns-clause-plays
returns-clause-plays c =
    let start_is : c.in_ok-machine.machine.start ≡ start_of c.args.loaded = search rules in
    let course : Course = course_of c.in_ok-player.player in
    let player : Player = player_of c.in_ok-player.player in
    let book : Book = desk_book c.new-desk.result in
    let same : course.start ≡ start_of c.args.loaded = ap (λ (m : Course). m.start) c.in_ok-player.ensures.machine ∙ start_is in
    let starts : player ≡ core.start_of (scenes.scene_of course.start c.args.loaded.trace book) = subst (λ (m : Course). player ≡ core.start_of (scenes.scene_of m.start c.args.loaded.trace book)) (sym c.in_ok-player.ensures.machine) (c.in_ok-player.ensures.starts book) in
    let h : IsReached c.args.loaded.trace book course player = reached c.args.loaded book course player same c.new-desk.ensures.book c.requires.can starts in
    play-of c.args.loaded course.start book c.as_slice.result.now (player_of c.in_ok-played.played) (course_of c.in_ok-played.played) c.into_run.result same c.new-desk.ensures.book c.as_slice.ensures
    (c.in_ok-played.ensures.plays c.args.loaded.trace h starts) (c.in_ok-played.ensures.legal c.args.loaded.trace h starts) (c.in_ok-played.ensures.ends c.args.loaded.trace h starts) c.into_run.ensures.run c.into_run.ensures.policy
