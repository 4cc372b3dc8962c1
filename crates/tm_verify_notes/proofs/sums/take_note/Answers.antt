use Rattle.std.proofs.Common.{rules, ◌≡◌}
use Rattle.tm_verify_laws.specs.Looks.{do_follow}
use Rattle.tm_verify_notes.specs.Given.{scene_of, history_of}
use Rattle.tm_verify_notes.proofs.SumLaws.{take_noted}
use Rattle.tm_verify_notes.proofs.sums.take_note.Goals as goal

pub returns : goal.returns
returns c =
    let follows : c.do_follow-follows.result ≡ do_follow (history_of c.args.given.now) 0 c.args.case.now.taken.looks = search rules in
    take_noted (scene_of c.args.given.now) (history_of c.args.given.now) c.args.case.now c.args.notes.now
    (record { holds = c.both-holds.result; owns = c.all_own-owns.result; hears = c.both-hears.result; ends = c.in_ok-ends.ends })
    c.begins-begins.result c.do_follow-follows.result c.requires c.begins-begins.ensures follows (search rules) (search rules) (search rules) c.in_ok-ends.ensures
