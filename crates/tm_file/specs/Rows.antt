-- Which requests the arguments of a file line are for.
use Rattle.std.specs.Prelude.{Option, None}
use Rattle.tm_rules.specs.Types.{Args, Groups, NamePlace}
use Rattle.tm_rules.specs.Prelude.{args_grant}

-- the arguments of a `file` line by the rule of all lines; every other line is for no file request
abbrev pub file_args_grant : Groups → Args → Args → Option NamePlace
file_args_grant g (Args.Path n) asked = args_grant g (Args.Path n) asked
file_args_grant g (Args.Execute n prefer) asked = args_grant g (Args.Execute n prefer) asked
file_args_grant g (Args.PathNumber n k) asked = args_grant g (Args.PathNumber n k) asked
file_args_grant g (Args.Device n mode major minor) asked =
    args_grant g (Args.Device n mode major minor) asked
file_args_grant g (Args.Path2 n m) asked = args_grant g (Args.Path2 n m) asked
file_args_grant g (Args.Mount device dir kind flags) asked =
    args_grant g (Args.Mount device dir kind flags) asked
file_args_grant g _ asked = None
