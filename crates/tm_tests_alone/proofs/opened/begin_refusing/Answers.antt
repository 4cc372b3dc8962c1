use Rattle.std.proofs.Common.{rules, ◌≡◌}
use Rattle.tm_machine.specs.Machine.{course_from}
use Rattle.tm_call_input.specs.Reading.{start_of}
use Rattle.tm_tests_alone.proofs.OpenedLaws.{can-be-played}
use Rattle.tm_tests_alone.proofs.opened.begin_refusing.Goals as goal

pub returns : goal.returns
returns c =
    let is : c.in_ok-machine.machine ≡ course_from (start_of c.args.loaded) = search rules in
    can-be-played c.args.loaded c.in_ok-machine.machine is c.requires.can c.requires.written
