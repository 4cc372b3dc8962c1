-- The words of the functions of a row's permissions, as the words of the permissions tell them.
use Rattle.std.specs.Prelude.{◌||◌, if◌then◌else◌, List, [], ◌∷◌, ◌++◌, map, codes}
use Rattle.tm_word.specs.Prelude.{Text, texts_equal}
use Rattle.tm_rules.specs.Types.{Args}
use Rattle.tm_line.specs.declared.permissions.Row.{Row}
use Rattle.tm_line.specs.Permissions.{names}
use Rattle.tm_net.specs.NetLines.{inet_word, unix_word, inet_permissions, unix_permissions}

-- reading, writing and appending are opening
abbrev pub opened : Text → Text
opened word =
    if texts_equal word (codes "read") || texts_equal word (codes "write")
    || texts_equal word (codes "append")
    then codes "open"
    else word

-- for each permission of a row of files, in the row's order
abbrev pub file_texts : Row → List Text
file_texts acl_row = map (λ word. codes "CONFIG::file::" ++ opened word) (names acl_row)

-- for each permission of a kind of sockets, in the row's order
abbrev pub socket_texts : Text → Text → Row → List Text
socket_texts family kind acl_row =
    map (λ word. codes "CONFIG::network::" ++ family ++ kind ++ 95 ∷ word) (names acl_row)

-- for each permission of a line with these arguments; a manual transition has no function
unfoldable pub permission_texts : Args → List Text
permission_texts (Args.Path name) = file_texts Row.Path
permission_texts (Args.Execute name prefer) = codes "CONFIG::file::execute" ∷ []
permission_texts (Args.PathNumber name number) = file_texts Row.PathNumber
permission_texts (Args.Device name mode major minor) = file_texts Row.Device
permission_texts (Args.Path2 first second) = file_texts Row.Pair
permission_texts (Args.Mount device dir kind flags) = codes "CONFIG::file::mount" ∷ []
permission_texts (Args.Inet kind address port) =
    socket_texts (codes "inet_") (inet_word kind) (inet_permissions kind)
permission_texts (Args.Unix kind name) =
    socket_texts (codes "unix_") (unix_word kind) (unix_permissions kind)
permission_texts (Args.Env pattern_) = codes "CONFIG::misc::env" ∷ []
permission_texts (Args.Manual domain) = []
