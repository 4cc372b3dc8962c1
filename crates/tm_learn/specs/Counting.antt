-- How many permissions an entry has.
use Rattle.std.specs.Prelude.{ℕ, if◌then◌else◌, count_ones}
use Rattle.tm_rules.specs.Types.{Entry}
use Rattle.tm_rules.specs.Prelude.{is_task}

-- those of an entry that count; a task entry counts as none
abbrev pub permissions_of : Entry → ℕ
permissions_of entry = if is_task entry.args then 0 else count_ones entry.perms.bits
