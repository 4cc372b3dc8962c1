-- Permissions of one row, joined by `/` in any order, and their printed form in the row's order.
use Rattle.std.specs.Prelude.{ℕ, ◌*◌, ◌==◌, ◌&&◌, bit_or, bit_and, if◌then◌else◌, Bool, false, List, [], ◌∷◌, ◌++◌, length, codes, Option, Some, None, is_some, Result, Ok, Err}
use Rattle.std.specs.List.{slice_split, list_any}
use Rattle.tm_word.specs.Prelude.{Text, begins, texts_equal}
use Rattle.tm_domain.specs.LineKind.{LineKind}
use Rattle.tm_line.specs.declared.permissions.Row.{Row}
use Rattle.tm_line.specs.Lines.{keyword_kind}

-- the permissions of a row, in order
abbrev pub names : Row → List Text
names Row.Path =
    codes "execute" ∷ codes "read" ∷ codes "write" ∷ codes "append" ∷ codes "unlink"
    ∷ codes "getattr" ∷ codes "rmdir" ∷ codes "truncate" ∷ codes "symlink" ∷ codes "chroot"
    ∷ codes "unmount" ∷ []
names Row.PathNumber =
    codes "create" ∷ codes "mkdir" ∷ codes "mkfifo" ∷ codes "mksock" ∷ codes "ioctl" ∷ codes "chmod"
    ∷ codes "chown" ∷ codes "chgrp" ∷ []
names Row.Device = codes "mkblock" ∷ codes "mkchar" ∷ []
names Row.Pair = codes "link" ∷ codes "rename" ∷ codes "pivot_root" ∷ []
names Row.Listening = codes "bind" ∷ codes "listen" ∷ codes "connect" ∷ []
names Row.Sending = codes "bind" ∷ codes "send" ∷ []

-- names with their bits, beginning with this bit
abbrev pub masked : ℕ → List Text → List (Text × ℕ)
masked mask [] = []
masked mask (name ∷ more) = (name, mask) ∷ masked (mask * 2) more

-- the bit of a permission, where the first of these has this one
abbrev pub mask_from : ℕ → List Text → Text → Option ℕ
mask_from mask [] piece = None
mask_from mask (name ∷ more) piece =
    if texts_equal piece name then Some mask else mask_from (mask * 2) more piece

-- the permission at place i has bit i
abbrev pub mask_in : Row → Text → Option ℕ
mask_in acl_row piece = mask_from 1 (names acl_row) piece

-- a front of a permission of the row
abbrev pub starts_in : Row → Text → Bool
starts_in acl_row piece = list_any (λ name. begins piece name) (names acl_row)

-- what stands between the slashes of a word
abbrev pub pieces_of : Text → List Text
pieces_of word = slice_split (λ b. b == 47) word

-- the bit of one more permission beside those before, if it is one
abbrev pub with_mask : Option ℕ → ℕ → (ℕ → Option ℕ) → Option ℕ
with_mask None before more = None
with_mask (Some mask) before more = more (bit_or before mask)

-- the bits of permissions of the row, beside those before
abbrev pub bits_of : ℕ → Row → List Text → Option ℕ
bits_of before acl_row [] = Some before
bits_of before acl_row (piece ∷ pieces) =
    with_mask (mask_in acl_row piece) before (λ bits. bits_of bits acl_row pieces)

-- permissions of the row, and then a front of one
abbrev pub finishes : Row → List Text → Bool
finishes acl_row [] = false
finishes acl_row (piece ∷ []) = starts_in acl_row piece
finishes acl_row (piece ∷ next ∷ pieces) =
    if is_some (mask_in acl_row piece) then finishes acl_row (next ∷ pieces) else false

-- a wrong word is an unfinished one or a wrong keyword
abbrev pub bits_or_kind : Option ℕ → Bool → Result ℕ LineKind
bits_or_kind (Some bits) unfinished = Ok bits
bits_or_kind None unfinished = Err (keyword_kind unfinished)

-- the permissions that a word writes; an unfinished list as the last word is a missing word
unfoldable pub perms_of : Row → Text → Bool → Result ℕ LineKind
perms_of acl_row word last =
    bits_or_kind (bits_of 0 acl_row (pieces_of word)) (last && finishes acl_row (pieces_of word))

-- a permission whose bit is set joins those before
unfoldable pub perm_on : ℕ → ℕ → Text → Text → Text
perm_on bits mask name text =
    if bit_and bits mask == 0 then text else (if length text == 0 then name else text ++ 47 ∷ name)

-- the set ones of these join those before
abbrev pub perms_from : ℕ → ℕ → List Text → Text → Text
perms_from bits mask [] text = text
perms_from bits mask (name ∷ more) text =
    perms_from bits (mask * 2) more (perm_on bits mask name text)

-- the set permissions in the row's order
abbrev pub perms_spelling : Row → ℕ → Text
perms_spelling acl_row bits = perms_from bits 1 (names acl_row) []
