-- Worked examples of file lines: each word right, wrong, missing and unfinished.
use Rattle.std.proofs.Common.{◌≡◌, [], ◌∷◌, Ok, Err, refl}
use Rattle.std.specs.Prelude.{codes}
use Rattle.tm_types.specs.Numbers.{range_of, value_of, number_of}
use Rattle.tm_union.specs.Tokens.{token_at}
use Rattle.tm_union.specs.Reading.{step, ended, parsed, pattern_of}
use Rattle.tm_word.specs.Prelude.{head_of, spelled_word, word_of}
use Rattle.tm_rules.specs.Types.{Args, LineKind, NameUnion, Prefer}
use Rattle.tm_line.specs.Names.{domain_of, is_path}
use Rattle.tm_line.specs.Permissions.{perms_of}
use Rattle.tm_line.specs.Arguments.{group_word, pattern_word, path_word, range_word, name_word, number_word, name_at, number_at}
use Rattle.tm_line.specs.Domains.{domain_words, domain_at}
use Rattle.tm_file.specs.Preferences.{prefer_at, path_at}
use Rattle.tm_file.specs.FileLines.{row_of, starts_any, args_at, mount_at, row_line, perms_line, file_line, perms}

-- `fil`: an unfinished keyword as the last word
pub unfinished_file : file_line (codes "fil" ∷ []) ≡ Err LineKind.Arity
unfolding file_line perms_line row_line row_of starts_any args_at mount_at path_at prefer_at perms_of group_word pattern_word path_word range_word name_word number_word name_at number_at domain_words domain_at spelled_word word_of head_of pattern_of parsed step ended token_at range_of value_of number_of domain_of is_path
unfinished_file = refl

-- `fix`
pub other : file_line (codes "fix" ∷ []) ≡ Err LineKind.Keyword
unfolding file_line perms_line row_line row_of starts_any args_at mount_at path_at prefer_at perms_of group_word pattern_word path_word range_word name_word number_word name_at number_at domain_words domain_at spelled_word word_of head_of pattern_of parsed step ended token_at range_of value_of number_of domain_of is_path
other = refl

-- `fil read`: it is unfinished as the last word alone
pub unfinished_before_others : file_line (codes "fil" ∷ codes "read" ∷ []) ≡ Err LineKind.Keyword
unfolding file_line perms_line row_line row_of starts_any args_at mount_at path_at prefer_at perms_of group_word pattern_word path_word range_word name_word number_word name_at number_at domain_words domain_at spelled_word word_of head_of pattern_of parsed step ended token_at range_of value_of number_of domain_of is_path
unfinished_before_others = refl

-- `file`
pub no_permissions : file_line (codes "file" ∷ []) ≡ Err LineKind.Arity
unfolding file_line perms_line row_line row_of starts_any args_at mount_at path_at prefer_at perms_of group_word pattern_word path_word range_word name_word number_word name_at number_at domain_words domain_at spelled_word word_of head_of pattern_of parsed step ended token_at range_of value_of number_of domain_of is_path
no_permissions = refl

-- `file read/`
pub slash_last : file_line (codes "file" ∷ codes "read/" ∷ []) ≡ Err LineKind.Arity
unfolding file_line perms_line row_line row_of starts_any args_at mount_at path_at prefer_at perms_of group_word pattern_word path_word range_word name_word number_word name_at number_at domain_words domain_at spelled_word word_of head_of pattern_of parsed step ended token_at range_of value_of number_of domain_of is_path
slash_last = refl

-- `file read/wri`
pub unfinished_list : file_line (codes "file" ∷ codes "read/wri" ∷ []) ≡ Err LineKind.Arity
unfolding file_line perms_line row_line row_of starts_any args_at mount_at path_at prefer_at perms_of group_word pattern_word path_word range_word name_word number_word name_at number_at domain_words domain_at spelled_word word_of head_of pattern_of parsed step ended token_at range_of value_of number_of domain_of is_path
unfinished_list = refl

-- `file read/ /a`
pub unfinished_not_last : file_line (codes "file" ∷ codes "read/" ∷ codes "/a" ∷ []) ≡ Err LineKind.Keyword
unfolding file_line perms_line row_line row_of starts_any args_at mount_at path_at prefer_at perms_of group_word pattern_word path_word range_word name_word number_word name_at number_at domain_words domain_at spelled_word word_of head_of pattern_of parsed step ended token_at range_of value_of number_of domain_of is_path
unfinished_not_last = refl

-- `file read/mk`
pub front_of_other_row : file_line (codes "file" ∷ codes "read/mk" ∷ []) ≡ Err LineKind.Keyword
unfolding file_line perms_line row_line row_of starts_any args_at mount_at path_at prefer_at perms_of group_word pattern_word path_word range_word name_word number_word name_at number_at domain_words domain_at spelled_word word_of head_of pattern_of parsed step ended token_at range_of value_of number_of domain_of is_path
front_of_other_row = refl

-- `file read/mkdir /a`
pub two_rows : file_line (codes "file" ∷ codes "read/mkdir" ∷ codes "/a" ∷ []) ≡ Err LineKind.Keyword
unfolding file_line perms_line row_line row_of starts_any args_at mount_at path_at prefer_at perms_of group_word pattern_word path_word range_word name_word number_word name_at number_at domain_words domain_at spelled_word word_of head_of pattern_of parsed step ended token_at range_of value_of number_of domain_of is_path
two_rows = refl

-- `file raed /a`
pub unknown_permission : file_line (codes "file" ∷ codes "raed" ∷ codes "/a" ∷ []) ≡ Err LineKind.Keyword
unfolding file_line perms_line row_line row_of starts_any args_at mount_at path_at prefer_at perms_of group_word pattern_word path_word range_word name_word number_word name_at number_at domain_words domain_at spelled_word word_of head_of pattern_of parsed step ended token_at range_of value_of number_of domain_of is_path
unknown_permission = refl

-- `file mk`
pub unfinished_permission : file_line (codes "file" ∷ codes "mk" ∷ []) ≡ Err LineKind.Arity
unfolding file_line perms_line row_line row_of starts_any args_at mount_at path_at prefer_at perms_of group_word pattern_word path_word range_word name_word number_word name_at number_at domain_words domain_at spelled_word word_of head_of pattern_of parsed step ended token_at range_of value_of number_of domain_of is_path
unfinished_permission = refl

-- `file mount/mount /a /b ext4 0`: a mount has no list
pub mounts : file_line (codes "file" ∷ codes "mount/mount" ∷ codes "/a" ∷ codes "/b" ∷ codes "ext4" ∷ codes "0" ∷ []) ≡ Err LineKind.Keyword
unfolding file_line perms_line row_line row_of starts_any args_at mount_at path_at prefer_at perms_of group_word pattern_word path_word range_word name_word number_word name_at number_at domain_words domain_at spelled_word word_of head_of pattern_of parsed step ended token_at range_of value_of number_of domain_of is_path
mounts = refl

-- `file mou`
pub unfinished_mount : file_line (codes "file" ∷ codes "mou" ∷ []) ≡ Err LineKind.Arity
unfolding file_line perms_line row_line row_of starts_any args_at mount_at path_at prefer_at perms_of group_word pattern_word path_word range_word name_word number_word name_at number_at domain_words domain_at spelled_word word_of head_of pattern_of parsed step ended token_at range_of value_of number_of domain_of is_path
unfinished_mount = refl

-- `file mount /a /b ext4`
pub mount_short : file_line (codes "file" ∷ codes "mount" ∷ codes "/a" ∷ codes "/b" ∷ codes "ext4" ∷ []) ≡ Err LineKind.Arity
unfolding file_line perms_line row_line row_of starts_any args_at mount_at path_at prefer_at perms_of group_word pattern_word path_word range_word name_word number_word name_at number_at domain_words domain_at spelled_word word_of head_of pattern_of parsed step ended token_at range_of value_of number_of domain_of is_path
mount_short = refl

-- `file mount /a /b ext4 rw`
pub mount_wrong_flags : file_line (codes "file" ∷ codes "mount" ∷ codes "/a" ∷ codes "/b" ∷ codes "ext4" ∷ codes "rw" ∷ []) ≡ Err LineKind.Number
unfolding file_line perms_line row_line row_of starts_any args_at mount_at path_at prefer_at perms_of group_word pattern_word path_word range_word name_word number_word name_at number_at domain_words domain_at spelled_word word_of head_of pattern_of parsed step ended token_at range_of value_of number_of domain_of is_path
mount_wrong_flags = refl

-- `file read`
pub no_name : file_line (codes "file" ∷ codes "read" ∷ []) ≡ Err LineKind.Arity
unfolding file_line perms_line row_line row_of starts_any args_at mount_at path_at prefer_at perms_of group_word pattern_word path_word range_word name_word number_word name_at number_at domain_words domain_at spelled_word word_of head_of pattern_of parsed step ended token_at range_of value_of number_of domain_of is_path
no_name = refl

-- `file read /\q`
pub bad_name : file_line (codes "file" ∷ codes "read" ∷ codes "/\\q" ∷ []) ≡ Err LineKind.Name
unfolding file_line perms_line row_line row_of starts_any args_at mount_at path_at prefer_at perms_of group_word pattern_word path_word range_word name_word number_word name_at number_at domain_words domain_at spelled_word word_of head_of pattern_of parsed step ended token_at range_of value_of number_of domain_of is_path
bad_name = refl

-- `file mkdir /d @`: a wrong group of numbers is a wrong name
pub bad_group : file_line (codes "file" ∷ codes "mkdir" ∷ codes "/d" ∷ codes "@" ∷ []) ≡ Err LineKind.Name
unfolding file_line perms_line row_line row_of starts_any args_at mount_at path_at prefer_at perms_of group_word pattern_word path_word range_word name_word number_word name_at number_at domain_words domain_at spelled_word word_of head_of pattern_of parsed step ended token_at range_of value_of number_of domain_of is_path
bad_group = refl

-- `file mkdir /d x`
pub bad_number : file_line (codes "file" ∷ codes "mkdir" ∷ codes "/d" ∷ codes "x" ∷ []) ≡ Err LineKind.Number
unfolding file_line perms_line row_line row_of starts_any args_at mount_at path_at prefer_at perms_of group_word pattern_word path_word range_word name_word number_word name_at number_at domain_words domain_at spelled_word word_of head_of pattern_of parsed step ended token_at range_of value_of number_of domain_of is_path
bad_number = refl

-- `file mkdir /d 08`
pub octal_number : file_line (codes "file" ∷ codes "mkdir" ∷ codes "/d" ∷ codes "08" ∷ []) ≡ Err LineKind.Number
unfolding file_line perms_line row_line row_of starts_any args_at mount_at path_at prefer_at perms_of group_word pattern_word path_word range_word name_word number_word name_at number_at domain_words domain_at spelled_word word_of head_of pattern_of parsed step ended token_at range_of value_of number_of domain_of is_path
octal_number = refl

-- `file mkdir /d`
pub no_number : file_line (codes "file" ∷ codes "mkdir" ∷ codes "/d" ∷ []) ≡ Err LineKind.Arity
unfolding file_line perms_line row_line row_of starts_any args_at mount_at path_at prefer_at perms_of group_word pattern_word path_word range_word name_word number_word name_at number_at domain_words domain_at spelled_word word_of head_of pattern_of parsed step ended token_at range_of value_of number_of domain_of is_path
no_number = refl

-- `file mkblock /d 1 2`
pub short_device : file_line (codes "file" ∷ codes "mkblock" ∷ codes "/d" ∷ codes "1" ∷ codes "2" ∷ []) ≡ Err LineKind.Arity
unfolding file_line perms_line row_line row_of starts_any args_at mount_at path_at prefer_at perms_of group_word pattern_word path_word range_word name_word number_word name_at number_at domain_words domain_at spelled_word word_of head_of pattern_of parsed step ended token_at range_of value_of number_of domain_of is_path
short_device = refl

-- `file mkdir /d 5-4`
pub backwards : file_line (codes "file" ∷ codes "mkdir" ∷ codes "/d" ∷ codes "5-4" ∷ []) ≡ Err LineKind.Number
unfolding file_line perms_line row_line row_of starts_any args_at mount_at path_at prefer_at perms_of group_word pattern_word path_word range_word name_word number_word name_at number_at domain_words domain_at spelled_word word_of head_of pattern_of parsed step ended token_at range_of value_of number_of domain_of is_path
backwards = refl

-- `file rename /a`
pub no_second_name : file_line (codes "file" ∷ codes "rename" ∷ codes "/a" ∷ []) ≡ Err LineKind.Arity
unfolding file_line perms_line row_line row_of starts_any args_at mount_at path_at prefer_at perms_of group_word pattern_word path_word range_word name_word number_word name_at number_at domain_words domain_at spelled_word word_of head_of pattern_of parsed step ended token_at range_of value_of number_of domain_of is_path
no_second_name = refl

-- `file link /a /\q`
pub bad_second_name : file_line (codes "file" ∷ codes "link" ∷ codes "/a" ∷ codes "/\\q" ∷ []) ≡ Err LineKind.Name
unfolding file_line perms_line row_line row_of starts_any args_at mount_at path_at prefer_at perms_of group_word pattern_word path_word range_word name_word number_word name_at number_at domain_words domain_at spelled_word word_of head_of pattern_of parsed step ended token_at range_of value_of number_of domain_of is_path
bad_second_name = refl

-- `file mkdir /\q x`: the first wrong word decides
pub first_wrong_word : file_line (codes "file" ∷ codes "mkdir" ∷ codes "/\\q" ∷ codes "x" ∷ []) ≡ Err LineKind.Name
unfolding file_line perms_line row_line row_of starts_any args_at mount_at path_at prefer_at perms_of group_word pattern_word path_word range_word name_word number_word name_at number_at domain_words domain_at spelled_word word_of head_of pattern_of parsed step ended token_at range_of value_of number_of domain_of is_path
first_wrong_word = refl

-- `file execute /a /\q`
pub bad_prefer_path : file_line (codes "file" ∷ codes "execute" ∷ codes "/a" ∷ codes "/\\q" ∷ []) ≡ Err LineKind.Name
unfolding file_line perms_line row_line row_of starts_any args_at mount_at path_at prefer_at perms_of group_word pattern_word path_word range_word name_word number_word name_at number_at domain_words domain_at spelled_word word_of head_of pattern_of parsed step ended token_at range_of value_of number_of domain_of is_path
bad_prefer_path = refl

-- `file execute /a <kern`
pub bad_prefer_domain : file_line (codes "file" ∷ codes "execute" ∷ codes "/a" ∷ codes "<kern" ∷ []) ≡ Err LineKind.Domain
unfolding file_line perms_line row_line row_of starts_any args_at mount_at path_at prefer_at perms_of group_word pattern_word path_word range_word name_word number_word name_at number_at domain_words domain_at spelled_word word_of head_of pattern_of parsed step ended token_at range_of value_of number_of domain_of is_path
bad_prefer_domain = refl

-- `file execute /a <kernel> /\q`
pub bad_prefer_domain_path : file_line (codes "file" ∷ codes "execute" ∷ codes "/a" ∷ codes "<kernel>" ∷ codes "/\\q" ∷ []) ≡ Err LineKind.Domain
unfolding file_line perms_line row_line row_of starts_any args_at mount_at path_at prefer_at perms_of group_word pattern_word path_word range_word name_word number_word name_at number_at domain_words domain_at spelled_word word_of head_of pattern_of parsed step ended token_at range_of value_of number_of domain_of is_path
bad_prefer_domain_path = refl

-- a preference
pub keep : file_line (codes "file" ∷ codes "execute" ∷ codes "@a" ∷ codes "keep" ∷ []) ≡ Ok (Args.Execute (NameUnion.Group (codes "a")) Prefer.Keep, perms 1, [])
unfolding file_line perms_line row_line row_of starts_any args_at mount_at path_at prefer_at perms_of group_word pattern_word path_word range_word name_word number_word name_at number_at domain_words domain_at spelled_word word_of head_of pattern_of parsed step ended token_at range_of value_of number_of domain_of is_path
keep = refl

-- a path as a preference; a second one is no more of it
pub prefer_path : file_line (codes "file" ∷ codes "execute" ∷ codes "@a" ∷ codes "/b" ∷ codes "/c" ∷ []) ≡ Ok (Args.Execute (NameUnion.Group (codes "a")) (Prefer.Path (codes "/b")), perms 1, codes "/c" ∷ [])
unfolding file_line perms_line row_line row_of starts_any args_at mount_at path_at prefer_at perms_of group_word pattern_word path_word range_word name_word number_word name_at number_at domain_words domain_at spelled_word word_of head_of pattern_of parsed step ended token_at range_of value_of number_of domain_of is_path
prefer_path = refl

-- a domain name as a preference
pub prefer_domain : file_line (codes "file" ∷ codes "execute" ∷ codes "@a" ∷ codes "<kernel>" ∷ codes "/b" ∷ codes "c" ∷ []) ≡ Ok (Args.Execute (NameUnion.Group (codes "a")) (Prefer.Domain (codes "<kernel> /b")), perms 1, codes "c" ∷ [])
unfolding file_line perms_line row_line row_of starts_any args_at mount_at path_at prefer_at perms_of group_word pattern_word path_word range_word name_word number_word name_at number_at domain_words domain_at spelled_word word_of head_of pattern_of parsed step ended token_at range_of value_of number_of domain_of is_path
prefer_domain = refl

-- no preference is read after a list of permissions
pub repeated_execute : file_line (codes "file" ∷ codes "execute/execute" ∷ codes "@a" ∷ codes "keep" ∷ []) ≡ Ok (Args.Path (NameUnion.Group (codes "a")), perms 1, codes "keep" ∷ [])
unfolding file_line perms_line row_line row_of starts_any args_at mount_at path_at prefer_at perms_of group_word pattern_word path_word range_word name_word number_word name_at number_at domain_words domain_at spelled_word word_of head_of pattern_of parsed step ended token_at range_of value_of number_of domain_of is_path
repeated_execute = refl

-- nor after other permissions beside it
pub execute_and_read : file_line (codes "file" ∷ codes "read/execute" ∷ codes "@a" ∷ codes "keep" ∷ []) ≡ Ok (Args.Path (NameUnion.Group (codes "a")), perms 3, codes "keep" ∷ [])
unfolding file_line perms_line row_line row_of starts_any args_at mount_at path_at prefer_at perms_of group_word pattern_word path_word range_word name_word number_word name_at number_at domain_words domain_at spelled_word word_of head_of pattern_of parsed step ended token_at range_of value_of number_of domain_of is_path
execute_and_read = refl

-- an unfinished preference is judged as a condition
pub unfinished_prefer : file_line (codes "file" ∷ codes "execute" ∷ codes "@a" ∷ codes "kee" ∷ []) ≡ Ok (Args.Path (NameUnion.Group (codes "a")), perms 1, codes "kee" ∷ [])
unfolding file_line perms_line row_line row_of starts_any args_at mount_at path_at prefer_at perms_of group_word pattern_word path_word range_word name_word number_word name_at number_at domain_words domain_at spelled_word word_of head_of pattern_of parsed step ended token_at range_of value_of number_of domain_of is_path
unfinished_prefer = refl

-- an extra word is judged as a condition
pub extra_word : file_line (codes "file" ∷ codes "read" ∷ codes "@a" ∷ codes "b" ∷ []) ≡ Ok (Args.Path (NameUnion.Group (codes "a")), perms 2, codes "b" ∷ [])
unfolding file_line perms_line row_line row_of starts_any args_at mount_at path_at prefer_at perms_of group_word pattern_word path_word range_word name_word number_word name_at number_at domain_words domain_at spelled_word word_of head_of pattern_of parsed step ended token_at range_of value_of number_of domain_of is_path
extra_word = refl
