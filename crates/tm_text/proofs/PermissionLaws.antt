-- Each permission has the function that its word tells.
use Rattle.std.proofs.Common.{◌≡◌, map, refl}
use Rattle.tm_rules.specs.Types.{Args, InetKind, UnixKind, row_functions}
use Rattle.tm_profile.specs.Slots.{function_text}
use Rattle.tm_text.specs.PermissionWords.{permission_texts}

pub texts_are : (args : Args) → map function_text (row_functions args) ≡ permission_texts args
unfolding function_text permission_texts
texts_are (Args.Path name) = refl
texts_are (Args.Execute name prefer) = refl
texts_are (Args.PathNumber name number) = refl
texts_are (Args.Device name mode major minor) = refl
texts_are (Args.Path2 first second) = refl
texts_are (Args.Mount device dir kind flags) = refl
texts_are (Args.Inet InetKind.Stream address port) = refl
texts_are (Args.Inet InetKind.Dgram address port) = refl
texts_are (Args.Inet InetKind.Raw address port) = refl
texts_are (Args.Unix UnixKind.Stream name) = refl
texts_are (Args.Unix UnixKind.Dgram name) = refl
texts_are (Args.Unix UnixKind.Seqpacket name) = refl
texts_are (Args.Env pattern_) = refl
texts_are (Args.Manual domain) = refl
