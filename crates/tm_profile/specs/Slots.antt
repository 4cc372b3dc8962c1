-- the words of `CONFIG` lines
use Rattle.std.specs.Prelude.{List, [], ◌∷◌, ◌++◌, codes}
use Rattle.tm_word.specs.Prelude.{Text}
use Rattle.tm_rules.specs.Types.{Function, Mode, SlotName, mode_text}

-- the word of a function: its category's, and then its own
unfoldable pub function_text : Function → Text
function_text Function.Execute = codes "CONFIG::file::execute"
function_text Function.Open = codes "CONFIG::file::open"
function_text Function.Create = codes "CONFIG::file::create"
function_text Function.Unlink = codes "CONFIG::file::unlink"
function_text Function.Getattr = codes "CONFIG::file::getattr"
function_text Function.Mkdir = codes "CONFIG::file::mkdir"
function_text Function.Rmdir = codes "CONFIG::file::rmdir"
function_text Function.Mkfifo = codes "CONFIG::file::mkfifo"
function_text Function.Mksock = codes "CONFIG::file::mksock"
function_text Function.Truncate = codes "CONFIG::file::truncate"
function_text Function.Symlink = codes "CONFIG::file::symlink"
function_text Function.Mkblock = codes "CONFIG::file::mkblock"
function_text Function.Mkchar = codes "CONFIG::file::mkchar"
function_text Function.Link = codes "CONFIG::file::link"
function_text Function.Rename = codes "CONFIG::file::rename"
function_text Function.Chmod = codes "CONFIG::file::chmod"
function_text Function.Chown = codes "CONFIG::file::chown"
function_text Function.Chgrp = codes "CONFIG::file::chgrp"
function_text Function.Ioctl = codes "CONFIG::file::ioctl"
function_text Function.Chroot = codes "CONFIG::file::chroot"
function_text Function.Mount = codes "CONFIG::file::mount"
function_text Function.Unmount = codes "CONFIG::file::unmount"
function_text Function.PivotRoot = codes "CONFIG::file::pivot_root"
function_text Function.InetStreamBind = codes "CONFIG::network::inet_stream_bind"
function_text Function.InetStreamListen = codes "CONFIG::network::inet_stream_listen"
function_text Function.InetStreamConnect = codes "CONFIG::network::inet_stream_connect"
function_text Function.InetDgramBind = codes "CONFIG::network::inet_dgram_bind"
function_text Function.InetDgramSend = codes "CONFIG::network::inet_dgram_send"
function_text Function.InetRawBind = codes "CONFIG::network::inet_raw_bind"
function_text Function.InetRawSend = codes "CONFIG::network::inet_raw_send"
function_text Function.UnixStreamBind = codes "CONFIG::network::unix_stream_bind"
function_text Function.UnixStreamListen = codes "CONFIG::network::unix_stream_listen"
function_text Function.UnixStreamConnect = codes "CONFIG::network::unix_stream_connect"
function_text Function.UnixDgramBind = codes "CONFIG::network::unix_dgram_bind"
function_text Function.UnixDgramSend = codes "CONFIG::network::unix_dgram_send"
function_text Function.UnixSeqpacketBind = codes "CONFIG::network::unix_seqpacket_bind"
function_text Function.UnixSeqpacketListen = codes "CONFIG::network::unix_seqpacket_listen"
function_text Function.UnixSeqpacketConnect = codes "CONFIG::network::unix_seqpacket_connect"
function_text Function.Env = codes "CONFIG::misc::env"

-- the word of a slot
unfoldable pub slot_text : SlotName → Text
slot_text SlotName.File = codes "CONFIG::file"
slot_text SlotName.Network = codes "CONFIG::network"
slot_text SlotName.Misc = codes "CONFIG::misc"
slot_text (SlotName.One function) = function_text function

-- the word of a mode
abbrev pub mode_word : Mode → Text
mode_word mode = codes "mode=" ++ mode_text mode
