use Rattle.tm_text.proofs.PermissionLaws.{texts_are}
use Rattle.tm_text.proofs.permissions.permissions_name_functions.Goals as goal

pub returns : goal.returns
returns c = texts_are
