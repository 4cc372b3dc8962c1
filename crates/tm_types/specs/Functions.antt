-- The function that each permission has in a profile.
use Rattle.std.specs.Prelude.{ℕ, List, [], ◌∷◌, Option, slice_get, nat_lt, if◌then◌else◌}
use Rattle.tm_types.specs.declared.policy.SlotName.{SlotName}
use Rattle.tm_types.specs.Slot.{function_rank}
use Rattle.tm_types.specs.declared.entry.Args.{Args}
use Rattle.tm_types.specs.declared.entry.Args.TheVariants as args
use Rattle.tm_types.specs.declared.entry.InetKind.{InetKind}
use Rattle.tm_types.specs.declared.entry.InetKind.TheVariants as inet
use Rattle.tm_types.specs.declared.entry.UnixKind.{UnixKind}
use Rattle.tm_types.specs.declared.entry.UnixKind.TheVariants as unix
use Rattle.tm_types.specs.declared.policy.Function.{Function}
use Rattle.tm_types.specs.declared.policy.Function.TheVariants as fun

-- the functions of internet sockets, by kind
abbrev pub inet_functions : InetKind → List Function
inet_functions inet.Stream = fun.InetStreamBind ∷ fun.InetStreamListen ∷ fun.InetStreamConnect ∷ []
inet_functions inet.Dgram = fun.InetDgramBind ∷ fun.InetDgramSend ∷ []
inet_functions inet.Raw = fun.InetRawBind ∷ fun.InetRawSend ∷ []

-- the functions of local sockets, by kind
abbrev pub unix_functions : UnixKind → List Function
unix_functions unix.Stream = fun.UnixStreamBind ∷ fun.UnixStreamListen ∷ fun.UnixStreamConnect ∷ []
unix_functions unix.Dgram = fun.UnixDgramBind ∷ fun.UnixDgramSend ∷ []
unix_functions unix.Seqpacket = fun.UnixSeqpacketBind ∷ fun.UnixSeqpacketListen ∷ fun.UnixSeqpacketConnect ∷ []

-- the functions of a row's permissions, in the row's order; a manual transition has none
abbrev pub row_functions : Args → List Function
row_functions (args.Path name) =
    fun.Execute ∷ fun.Open ∷ fun.Open ∷ fun.Open ∷ fun.Unlink ∷ fun.Getattr ∷ fun.Rmdir ∷ fun.Truncate ∷ fun.Symlink ∷ fun.Chroot ∷ fun.Unmount ∷ []
row_functions (args.PathNumber name number) =
    fun.Create ∷ fun.Mkdir ∷ fun.Mkfifo ∷ fun.Mksock ∷ fun.Ioctl ∷ fun.Chmod ∷ fun.Chown ∷ fun.Chgrp ∷ []
row_functions (args.Device name mode major minor) = fun.Mkblock ∷ fun.Mkchar ∷ []
row_functions (args.Path2 from to) = fun.Link ∷ fun.Rename ∷ fun.PivotRoot ∷ []
row_functions (args.Mount dev dir kind flags) = fun.Mount ∷ []
row_functions (args.Inet kind addr port) = inet_functions kind
row_functions (args.Unix kind name) = unix_functions kind
row_functions (args.Env name) = fun.Env ∷ []
row_functions (args.Manual domain) = []
row_functions (args.Execute name prefer) = fun.Execute ∷ []

-- the function of the permission at a place of its row; a manual transition has none
unfoldable pub function_of : Args → ℕ → Option Function
function_of args perm = slice_get (row_functions args) perm

-- the category of a function: the first 23 are of files, the last one is of environments, those
-- between are of sockets
abbrev pub category_of : Function → SlotName
category_of function =
    if nat_lt (function_rank function) 23
    then SlotName.File
    else if nat_lt (function_rank function) 38
    then SlotName.Network
    else SlotName.Misc
