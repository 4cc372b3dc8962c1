use Rattle.std.proofs.Common.{ap, ◌∙◌}
use Rattle.std.specs.Prelude.{option_map}
use Rattle.tm_rules.specs.Types.{NamePlace}
use Rattle.tm_rules.specs.Prelude.{name_in}
use Rattle.tm_union.proofs.name_in.Goals as goal

pub returns-in-Group : goal.returns-in-Group
unfolding name_in
returns-in-Group c = rw c.in-Group.is (c.as_member.ensures ∙ ap (option_map NamePlace.Member) (rw c.as_slice.ensures at c.first_member.ensures))
