use Rattle.std.proofs.Common.{◌≡◌, drop, map}
use Rattle.tm_line.specs.Permissions.{perms_spelling}
use Rattle.tm_line.proofs.Masks.{joined}
use Rattle.tm_line.proofs.permissions.perms_text.Given as goal

abbrev pub invariant-loop-name : goal.invariant-loop-name
invariant-loop-name l = joined l.bits (map (λ row. (row.0.now, row.1)) (drop l.name-index l.table)) l.text.items ≡ perms_spelling l.fn.acl_row l.bits
