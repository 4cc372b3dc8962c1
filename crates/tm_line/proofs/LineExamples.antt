-- Worked examples of the steps of lines: what is right, wrong, missing, extra and unfinished.
use Rattle.std.proofs.Common.{◌≡◌, true, false, [], ◌∷◌, Ok, Err, refl}
use Rattle.std.specs.Prelude.{codes}
use Rattle.tm_addr.specs.Numbers.{range_of, value_of, number_of, plain_of}
use Rattle.tm_addr.specs.Reading.{addr_of, v4_of, v6_of, quad_of, side_of, groups_after, last_of}
use Rattle.tm_addr.specs.Reading.{range_of as addr_range_of}
use Rattle.tm_addr.specs.Reading.{group_of as hex_group_of}
use Rattle.tm_domain.specs.Tokens.{token_at}
use Rattle.tm_domain.specs.Reading.{step, ended, parsed, pattern_of}
use Rattle.tm_word.specs.Prelude.{head_of, spelled_word, word_of}
use Rattle.tm_domain.specs.LineKind.{LineKind}
use Rattle.tm_domain.specs.NameUnion.{NameUnion}
use Rattle.tm_domain.specs.Names.{domain_of, is_path}
use Rattle.tm_line.specs.declared.permissions.Row.{Row}
use Rattle.tm_line.specs.Lines.{keyword_at, option_at}
use Rattle.tm_line.specs.Permissions.{perms_of}
use Rattle.tm_line.specs.Arguments.{group_word, pattern_word, path_word, range_word, addr_range_word, name_word, number_word, address_word, plain_word, name_at, number_at, address_at}
use Rattle.tm_line.specs.Domains.{domain_words, domain_at, domain_to_end}

-- a keyword, and the words after it
pub keyword : keyword_at (codes "file") (codes "file" ∷ codes "read" ∷ []) ≡ Ok (codes "read" ∷ [])
unfolding perms_of group_word pattern_word path_word range_word addr_range_word name_word number_word address_word plain_word name_at number_at address_at domain_words domain_at domain_to_end spelled_word word_of head_of pattern_of parsed step ended token_at range_of value_of number_of addr_range_of addr_of v4_of v6_of quad_of plain_of side_of groups_after last_of hex_group_of domain_of is_path
keyword = refl

-- no word
pub keyword_missing : keyword_at (codes "file") ([]) ≡ Err LineKind.Arity
unfolding perms_of group_word pattern_word path_word range_word addr_range_word name_word number_word address_word plain_word name_at number_at address_at domain_words domain_at domain_to_end spelled_word word_of head_of pattern_of parsed step ended token_at range_of value_of number_of addr_range_of addr_of v4_of v6_of quad_of plain_of side_of groups_after last_of hex_group_of domain_of is_path
keyword_missing = refl

-- an unfinished keyword as the last word
pub keyword_unfinished : keyword_at (codes "file") (codes "fil" ∷ []) ≡ Err LineKind.Arity
unfolding perms_of group_word pattern_word path_word range_word addr_range_word name_word number_word address_word plain_word name_at number_at address_at domain_words domain_at domain_to_end spelled_word word_of head_of pattern_of parsed step ended token_at range_of value_of number_of addr_range_of addr_of v4_of v6_of quad_of plain_of side_of groups_after last_of hex_group_of domain_of is_path
keyword_unfinished = refl

-- an unfinished keyword before others is a wrong one
pub keyword_unfinished_before : keyword_at (codes "file") (codes "fil" ∷ codes "read" ∷ []) ≡ Err LineKind.Keyword
unfolding perms_of group_word pattern_word path_word range_word addr_range_word name_word number_word address_word plain_word name_at number_at address_at domain_words domain_at domain_to_end spelled_word word_of head_of pattern_of parsed step ended token_at range_of value_of number_of addr_range_of addr_of v4_of v6_of quad_of plain_of side_of groups_after last_of hex_group_of domain_of is_path
keyword_unfinished_before = refl

-- a wrong keyword
pub keyword_wrong : keyword_at (codes "file") (codes "fix" ∷ []) ≡ Err LineKind.Keyword
unfolding perms_of group_word pattern_word path_word range_word addr_range_word name_word number_word address_word plain_word name_at number_at address_at domain_words domain_at domain_to_end spelled_word word_of head_of pattern_of parsed step ended token_at range_of value_of number_of addr_range_of addr_of v4_of v6_of quad_of plain_of side_of groups_after last_of hex_group_of domain_of is_path
keyword_wrong = refl

-- more than the keyword
pub keyword_longer : keyword_at (codes "file") (codes "files" ∷ []) ≡ Err LineKind.Keyword
unfolding perms_of group_word pattern_word path_word range_word addr_range_word name_word number_word address_word plain_word name_at number_at address_at domain_words domain_at domain_to_end spelled_word word_of head_of pattern_of parsed step ended token_at range_of value_of number_of addr_range_of addr_of v4_of v6_of quad_of plain_of side_of groups_after last_of hex_group_of domain_of is_path
keyword_longer = refl

-- a word that may stand, and stands
pub option_there : option_at (codes "delete") (codes "delete" ∷ codes "x" ∷ []) ≡ (true, codes "x" ∷ [])
unfolding perms_of group_word pattern_word path_word range_word addr_range_word name_word number_word address_word plain_word name_at number_at address_at domain_words domain_at domain_to_end spelled_word word_of head_of pattern_of parsed step ended token_at range_of value_of number_of addr_range_of addr_of v4_of v6_of quad_of plain_of side_of groups_after last_of hex_group_of domain_of is_path
option_there = refl

-- a word that may stand, and doesn't
pub option_not_there : option_at (codes "delete") (codes "x" ∷ []) ≡ (false, codes "x" ∷ [])
unfolding perms_of group_word pattern_word path_word range_word addr_range_word name_word number_word address_word plain_word name_at number_at address_at domain_words domain_at domain_to_end spelled_word word_of head_of pattern_of parsed step ended token_at range_of value_of number_of addr_range_of addr_of v4_of v6_of quad_of plain_of side_of groups_after last_of hex_group_of domain_of is_path
option_not_there = refl

-- permissions in any order and repeated
pub permissions_joined : perms_of Row.Path (codes "write/read/write") true ≡ Ok 6
unfolding perms_of group_word pattern_word path_word range_word addr_range_word name_word number_word address_word plain_word name_at number_at address_at domain_words domain_at domain_to_end spelled_word word_of head_of pattern_of parsed step ended token_at range_of value_of number_of addr_range_of addr_of v4_of v6_of quad_of plain_of side_of groups_after last_of hex_group_of domain_of is_path
permissions_joined = refl

-- a list that ends in a slash is unfinished
pub permissions_slash : perms_of Row.Path (codes "read/") true ≡ Err LineKind.Arity
unfolding perms_of group_word pattern_word path_word range_word addr_range_word name_word number_word address_word plain_word name_at number_at address_at domain_words domain_at domain_to_end spelled_word word_of head_of pattern_of parsed step ended token_at range_of value_of number_of addr_range_of addr_of v4_of v6_of quad_of plain_of side_of groups_after last_of hex_group_of domain_of is_path
permissions_slash = refl

-- a list that ends in a front of a permission is unfinished
pub permissions_unfinished : perms_of Row.Path (codes "read/wri") true ≡ Err LineKind.Arity
unfolding perms_of group_word pattern_word path_word range_word addr_range_word name_word number_word address_word plain_word name_at number_at address_at domain_words domain_at domain_to_end spelled_word word_of head_of pattern_of parsed step ended token_at range_of value_of number_of addr_range_of addr_of v4_of v6_of quad_of plain_of side_of groups_after last_of hex_group_of domain_of is_path
permissions_unfinished = refl

-- an unfinished list before other words is wrong
pub permissions_not_last : perms_of Row.Path (codes "read/") false ≡ Err LineKind.Keyword
unfolding perms_of group_word pattern_word path_word range_word addr_range_word name_word number_word address_word plain_word name_at number_at address_at domain_words domain_at domain_to_end spelled_word word_of head_of pattern_of parsed step ended token_at range_of value_of number_of addr_range_of addr_of v4_of v6_of quad_of plain_of side_of groups_after last_of hex_group_of domain_of is_path
permissions_not_last = refl

-- permissions of two rows
pub permissions_of_two_rows : perms_of Row.Path (codes "read/mkdir") true ≡ Err LineKind.Keyword
unfolding perms_of group_word pattern_word path_word range_word addr_range_word name_word number_word address_word plain_word name_at number_at address_at domain_words domain_at domain_to_end spelled_word word_of head_of pattern_of parsed step ended token_at range_of value_of number_of addr_range_of addr_of v4_of v6_of quad_of plain_of side_of groups_after last_of hex_group_of domain_of is_path
permissions_of_two_rows = refl

-- a list that ends in a front of another row's permission
pub permissions_front_of_other_row : perms_of Row.Path (codes "read/mk") true ≡ Err LineKind.Keyword
unfolding perms_of group_word pattern_word path_word range_word addr_range_word name_word number_word address_word plain_word name_at number_at address_at domain_words domain_at domain_to_end spelled_word word_of head_of pattern_of parsed step ended token_at range_of value_of number_of addr_range_of addr_of v4_of v6_of quad_of plain_of side_of groups_after last_of hex_group_of domain_of is_path
permissions_front_of_other_row = refl

-- a wrong permission
pub permissions_wrong : perms_of Row.Path (codes "raed") true ≡ Err LineKind.Keyword
unfolding perms_of group_word pattern_word path_word range_word addr_range_word name_word number_word address_word plain_word name_at number_at address_at domain_words domain_at domain_to_end spelled_word word_of head_of pattern_of parsed step ended token_at range_of value_of number_of addr_range_of addr_of v4_of v6_of quad_of plain_of side_of groups_after last_of hex_group_of domain_of is_path
permissions_wrong = refl

-- permissions of sockets
pub permissions_of_sockets : perms_of Row.Listening (codes "connect/bind") false ≡ Ok 5
unfolding perms_of group_word pattern_word path_word range_word addr_range_word name_word number_word address_word plain_word name_at number_at address_at domain_words domain_at domain_to_end spelled_word word_of head_of pattern_of parsed step ended token_at range_of value_of number_of addr_range_of addr_of v4_of v6_of quad_of plain_of side_of groups_after last_of hex_group_of domain_of is_path
permissions_of_sockets = refl

-- a group without a name
pub group_empty : name_word (codes "@") ≡ Err LineKind.Name
unfolding perms_of group_word pattern_word path_word range_word addr_range_word name_word number_word address_word plain_word name_at number_at address_at domain_words domain_at domain_to_end spelled_word word_of head_of pattern_of parsed step ended token_at range_of value_of number_of addr_range_of addr_of v4_of v6_of quad_of plain_of side_of groups_after last_of hex_group_of domain_of is_path
group_empty = refl

-- a group whose name is no spelled word
pub group_no_word : name_word (codes "@\\q") ≡ Err LineKind.Name
unfolding perms_of group_word pattern_word path_word range_word addr_range_word name_word number_word address_word plain_word name_at number_at address_at domain_words domain_at domain_to_end spelled_word word_of head_of pattern_of parsed step ended token_at range_of value_of number_of addr_range_of addr_of v4_of v6_of quad_of plain_of side_of groups_after last_of hex_group_of domain_of is_path
group_no_word = refl

-- a wrong group of numbers is a wrong name
pub group_of_numbers : number_word (codes "@") ≡ Err LineKind.Name
unfolding perms_of group_word pattern_word path_word range_word addr_range_word name_word number_word address_word plain_word name_at number_at address_at domain_words domain_at domain_to_end spelled_word word_of head_of pattern_of parsed step ended token_at range_of value_of number_of addr_range_of addr_of v4_of v6_of quad_of plain_of side_of groups_after last_of hex_group_of domain_of is_path
group_of_numbers = refl

-- a wrong group of addresses is a wrong name
pub group_of_addresses : address_word (codes "@\\q") ≡ Err LineKind.Name
unfolding perms_of group_word pattern_word path_word range_word addr_range_word name_word number_word address_word plain_word name_at number_at address_at domain_words domain_at domain_to_end spelled_word word_of head_of pattern_of parsed step ended token_at range_of value_of number_of addr_range_of addr_of v4_of v6_of quad_of plain_of side_of groups_after last_of hex_group_of domain_of is_path
group_of_addresses = refl

-- a group, whose name may begin with `@`
pub group : name_word (codes "@@odd") ≡ Ok (NameUnion.Group (codes "@odd"))
unfolding perms_of group_word pattern_word path_word range_word addr_range_word name_word number_word address_word plain_word name_at number_at address_at domain_words domain_at domain_to_end spelled_word word_of head_of pattern_of parsed step ended token_at range_of value_of number_of addr_range_of addr_of v4_of v6_of quad_of plain_of side_of groups_after last_of hex_group_of domain_of is_path
group = refl

-- no pattern
pub name_wrong : name_word (codes "/\\q") ≡ Err LineKind.Name
unfolding perms_of group_word pattern_word path_word range_word addr_range_word name_word number_word address_word plain_word name_at number_at address_at domain_words domain_at domain_to_end spelled_word word_of head_of pattern_of parsed step ended token_at range_of value_of number_of addr_range_of addr_of v4_of v6_of quad_of plain_of side_of groups_after last_of hex_group_of domain_of is_path
name_wrong = refl

-- no name
pub name_missing : name_at [] ≡ Err LineKind.Arity
unfolding perms_of group_word pattern_word path_word range_word addr_range_word name_word number_word address_word plain_word name_at number_at address_at domain_words domain_at domain_to_end spelled_word word_of head_of pattern_of parsed step ended token_at range_of value_of number_of addr_range_of addr_of v4_of v6_of quad_of plain_of side_of groups_after last_of hex_group_of domain_of is_path
name_missing = refl

-- no number
pub number_wrong : number_word (codes "x") ≡ Err LineKind.Number
unfolding perms_of group_word pattern_word path_word range_word addr_range_word name_word number_word address_word plain_word name_at number_at address_at domain_words domain_at domain_to_end spelled_word word_of head_of pattern_of parsed step ended token_at range_of value_of number_of addr_range_of addr_of v4_of v6_of quad_of plain_of side_of groups_after last_of hex_group_of domain_of is_path
number_wrong = refl

-- 8 is no octal digit
pub number_octal : number_word (codes "08") ≡ Err LineKind.Number
unfolding perms_of group_word pattern_word path_word range_word addr_range_word name_word number_word address_word plain_word name_at number_at address_at domain_words domain_at domain_to_end spelled_word word_of head_of pattern_of parsed step ended token_at range_of value_of number_of addr_range_of addr_of v4_of v6_of quad_of plain_of side_of groups_after last_of hex_group_of domain_of is_path
number_octal = refl

-- the low end above the high one
pub number_backwards : number_word (codes "5-4") ≡ Err LineKind.Number
unfolding perms_of group_word pattern_word path_word range_word addr_range_word name_word number_word address_word plain_word name_at number_at address_at domain_words domain_at domain_to_end spelled_word word_of head_of pattern_of parsed step ended token_at range_of value_of number_of addr_range_of addr_of v4_of v6_of quad_of plain_of side_of groups_after last_of hex_group_of domain_of is_path
number_backwards = refl

-- no number there
pub number_missing : number_at [] ≡ Err LineKind.Arity
unfolding perms_of group_word pattern_word path_word range_word addr_range_word name_word number_word address_word plain_word name_at number_at address_at domain_words domain_at domain_to_end spelled_word word_of head_of pattern_of parsed step ended token_at range_of value_of number_of addr_range_of addr_of v4_of v6_of quad_of plain_of side_of groups_after last_of hex_group_of domain_of is_path
number_missing = refl

-- no address
pub address_wrong : address_word (codes "1.2.3") ≡ Err LineKind.Address
unfolding perms_of group_word pattern_word path_word range_word addr_range_word name_word number_word address_word plain_word name_at number_at address_at domain_words domain_at domain_to_end spelled_word word_of head_of pattern_of parsed step ended token_at range_of value_of number_of addr_range_of addr_of v4_of v6_of quad_of plain_of side_of groups_after last_of hex_group_of domain_of is_path
address_wrong = refl

-- numbers of an address are plain
pub address_leading_zero : address_word (codes "1.2.3.04") ≡ Err LineKind.Address
unfolding perms_of group_word pattern_word path_word range_word addr_range_word name_word number_word address_word plain_word name_at number_at address_at domain_words domain_at domain_to_end spelled_word word_of head_of pattern_of parsed step ended token_at range_of value_of number_of addr_range_of addr_of v4_of v6_of quad_of plain_of side_of groups_after last_of hex_group_of domain_of is_path
address_leading_zero = refl

-- no address there
pub address_missing : address_at [] ≡ Err LineKind.Arity
unfolding perms_of group_word pattern_word path_word range_word addr_range_word name_word number_word address_word plain_word name_at number_at address_at domain_words domain_at domain_to_end spelled_word word_of head_of pattern_of parsed step ended token_at range_of value_of number_of addr_range_of addr_of v4_of v6_of quad_of plain_of side_of groups_after last_of hex_group_of domain_of is_path
address_missing = refl

-- a plain number
pub plain : plain_word 256 (codes "255") ≡ Ok 255
unfolding perms_of group_word pattern_word path_word range_word addr_range_word name_word number_word address_word plain_word name_at number_at address_at domain_words domain_at domain_to_end spelled_word word_of head_of pattern_of parsed step ended token_at range_of value_of number_of addr_range_of addr_of v4_of v6_of quad_of plain_of side_of groups_after last_of hex_group_of domain_of is_path
plain = refl

-- a leading zero
pub plain_leading_zero : plain_word 256 (codes "01") ≡ Err LineKind.Number
unfolding perms_of group_word pattern_word path_word range_word addr_range_word name_word number_word address_word plain_word name_at number_at address_at domain_words domain_at domain_to_end spelled_word word_of head_of pattern_of parsed step ended token_at range_of value_of number_of addr_range_of addr_of v4_of v6_of quad_of plain_of side_of groups_after last_of hex_group_of domain_of is_path
plain_leading_zero = refl

-- a number that isn't below the limit
pub plain_too_big : plain_word 256 (codes "256") ≡ Err LineKind.Number
unfolding perms_of group_word pattern_word path_word range_word addr_range_word name_word number_word address_word plain_word name_at number_at address_at domain_words domain_at domain_to_end spelled_word word_of head_of pattern_of parsed step ended token_at range_of value_of number_of addr_range_of addr_of v4_of v6_of quad_of plain_of side_of groups_after last_of hex_group_of domain_of is_path
plain_too_big = refl

-- a path
pub path : path_word (codes "/a") ≡ Ok (codes "/a")
unfolding perms_of group_word pattern_word path_word range_word addr_range_word name_word number_word address_word plain_word name_at number_at address_at domain_words domain_at domain_to_end spelled_word word_of head_of pattern_of parsed step ended token_at range_of value_of number_of addr_range_of addr_of v4_of v6_of quad_of plain_of side_of groups_after last_of hex_group_of domain_of is_path
path = refl

-- a pattern that doesn't begin with `/`
pub path_wrong : path_word (codes "a") ≡ Err LineKind.Name
unfolding perms_of group_word pattern_word path_word range_word addr_range_word name_word number_word address_word plain_word name_at number_at address_at domain_words domain_at domain_to_end spelled_word word_of head_of pattern_of parsed step ended token_at range_of value_of number_of addr_range_of addr_of v4_of v6_of quad_of plain_of side_of groups_after last_of hex_group_of domain_of is_path
path_wrong = refl

-- a domain name takes the words that begin with `/`
pub domain : domain_at (codes "<kernel>" ∷ codes "/a" ∷ codes "/b" ∷ codes "x" ∷ []) ≡ Ok (codes "<kernel> /a /b", codes "x" ∷ [])
unfolding perms_of group_word pattern_word path_word range_word addr_range_word name_word number_word address_word plain_word name_at number_at address_at domain_words domain_at domain_to_end spelled_word word_of head_of pattern_of parsed step ended token_at range_of value_of number_of addr_range_of addr_of v4_of v6_of quad_of plain_of side_of groups_after last_of hex_group_of domain_of is_path
domain = refl

-- a word that begins with `/` and is no path
pub domain_bad_path : domain_at (codes "<kernel>" ∷ codes "/\\q" ∷ []) ≡ Err LineKind.Domain
unfolding perms_of group_word pattern_word path_word range_word addr_range_word name_word number_word address_word plain_word name_at number_at address_at domain_words domain_at domain_to_end spelled_word word_of head_of pattern_of parsed step ended token_at range_of value_of number_of addr_range_of addr_of v4_of v6_of quad_of plain_of side_of groups_after last_of hex_group_of domain_of is_path
domain_bad_path = refl

-- no namespace word
pub domain_no_namespace : domain_at (codes "<a>" ∷ codes "/b" ∷ []) ≡ Err LineKind.Domain
unfolding perms_of group_word pattern_word path_word range_word addr_range_word name_word number_word address_word plain_word name_at number_at address_at domain_words domain_at domain_to_end spelled_word word_of head_of pattern_of parsed step ended token_at range_of value_of number_of addr_range_of addr_of v4_of v6_of quad_of plain_of side_of groups_after last_of hex_group_of domain_of is_path
domain_no_namespace = refl

-- no domain name
pub domain_missing : domain_at [] ≡ Err LineKind.Arity
unfolding perms_of group_word pattern_word path_word range_word addr_range_word name_word number_word address_word plain_word name_at number_at address_at domain_words domain_at domain_to_end spelled_word word_of head_of pattern_of parsed step ended token_at range_of value_of number_of addr_range_of addr_of v4_of v6_of quad_of plain_of side_of groups_after last_of hex_group_of domain_of is_path
domain_missing = refl

-- a word within a name that runs to the end
pub domain_to_the_end : domain_to_end (codes "<kernel>" ∷ codes "x" ∷ []) ≡ Err LineKind.Domain
unfolding perms_of group_word pattern_word path_word range_word addr_range_word name_word number_word address_word plain_word name_at number_at address_at domain_words domain_at domain_to_end spelled_word word_of head_of pattern_of parsed step ended token_at range_of value_of number_of addr_range_of addr_of v4_of v6_of quad_of plain_of side_of groups_after last_of hex_group_of domain_of is_path
domain_to_the_end = refl

-- an unfinished namespace word is no keyword
pub domain_unfinished : domain_to_end (codes "<kern" ∷ []) ≡ Err LineKind.Domain
unfolding perms_of group_word pattern_word path_word range_word addr_range_word name_word number_word address_word plain_word name_at number_at address_at domain_words domain_at domain_to_end spelled_word word_of head_of pattern_of parsed step ended token_at range_of value_of number_of addr_range_of addr_of v4_of v6_of quad_of plain_of side_of groups_after last_of hex_group_of domain_of is_path
domain_unfinished = refl

-- no name there
pub domain_to_the_end_missing : domain_to_end [] ≡ Err LineKind.Arity
unfolding perms_of group_word pattern_word path_word range_word addr_range_word name_word number_word address_word plain_word name_at number_at address_at domain_words domain_at domain_to_end spelled_word word_of head_of pattern_of parsed step ended token_at range_of value_of number_of addr_range_of addr_of v4_of v6_of quad_of plain_of side_of groups_after last_of hex_group_of domain_of is_path
domain_to_the_end_missing = refl
