-- Worked examples of network, environment and task lines: each word right, wrong, missing and
-- unfinished.
use Rattle.std.proofs.Common.{◌≡◌, [], ◌∷◌, Ok, Err, refl}
use Rattle.std.specs.Prelude.{codes}
use Rattle.tm_types.specs.Numbers.{range_of, value_of, number_of, plain_of}
use Rattle.tm_union.specs.Tokens.{token_at}
use Rattle.tm_union.specs.Reading.{step, ended, parsed, pattern_of}
use Rattle.tm_word.specs.Prelude.{head_of, spelled_word, word_of}
use Rattle.tm_rules.specs.Types.{AddrUnion, Args, InetKind, LineKind, NameUnion, NumberUnion, UnixKind}
use Rattle.tm_line.specs.Names.{domain_of, is_path}
use Rattle.tm_line.specs.Permissions.{perms_of}
use Rattle.tm_line.specs.Arguments.{group_word, pattern_word, path_word, range_word, name_word, number_word, name_at, number_at, addr_range_word, address_word, address_at}
use Rattle.tm_line.specs.Domains.{domain_words, domain_at}
use Rattle.tm_line.specs.AddrReading.{addr_of, v4_of, v6_of, quad_of, side_of, groups_after, last_of}
use Rattle.tm_line.specs.AddrReading.{range_of as addr_range_of}
use Rattle.tm_line.specs.AddrReading.{group_of as hex_group_of}
use Rattle.tm_net.specs.NetLines.{perms_at, perms, inet_line, unix_line, network_line, env_word, misc_line, task_line, net_line}

-- `netw`: an unfinished keyword as the last word
pub unfinished_network : net_line (codes "netw" ∷ []) ≡ Err LineKind.Arity
unfolding net_line network_line inet_line unix_line misc_line task_line perms_at env_word addr_range_word address_word address_at addr_range_of addr_of v4_of v6_of quad_of plain_of side_of groups_after last_of hex_group_of perms_of group_word pattern_word path_word range_word name_word number_word name_at number_at domain_words domain_at spelled_word word_of head_of pattern_of parsed step ended token_at range_of value_of number_of domain_of is_path
unfinished_network = refl

-- `netw inet`: it is unfinished as the last word alone
pub unfinished_before_others : net_line (codes "netw" ∷ codes "inet" ∷ []) ≡ Err LineKind.Keyword
unfolding net_line network_line inet_line unix_line misc_line task_line perms_at env_word addr_range_word address_word address_at addr_range_of addr_of v4_of v6_of quad_of plain_of side_of groups_after last_of hex_group_of perms_of group_word pattern_word path_word range_word name_word number_word name_at number_at domain_words domain_at spelled_word word_of head_of pattern_of parsed step ended token_at range_of value_of number_of domain_of is_path
unfinished_before_others = refl

-- `foo`
pub other : net_line (codes "foo" ∷ []) ≡ Err LineKind.Keyword
unfolding net_line network_line inet_line unix_line misc_line task_line perms_at env_word addr_range_word address_word address_at addr_range_of addr_of v4_of v6_of quad_of plain_of side_of groups_after last_of hex_group_of perms_of group_word pattern_word path_word range_word name_word number_word name_at number_at domain_words domain_at spelled_word word_of head_of pattern_of parsed step ended token_at range_of value_of number_of domain_of is_path
other = refl

-- `network`
pub no_family : net_line (codes "network" ∷ []) ≡ Err LineKind.Arity
unfolding net_line network_line inet_line unix_line misc_line task_line perms_at env_word addr_range_word address_word address_at addr_range_of addr_of v4_of v6_of quad_of plain_of side_of groups_after last_of hex_group_of perms_of group_word pattern_word path_word range_word name_word number_word name_at number_at domain_words domain_at spelled_word word_of head_of pattern_of parsed step ended token_at range_of value_of number_of domain_of is_path
no_family = refl

-- `network foo`
pub bad_family : net_line (codes "network" ∷ codes "foo" ∷ []) ≡ Err LineKind.Keyword
unfolding net_line network_line inet_line unix_line misc_line task_line perms_at env_word addr_range_word address_word address_at addr_range_of addr_of v4_of v6_of quad_of plain_of side_of groups_after last_of hex_group_of perms_of group_word pattern_word path_word range_word name_word number_word name_at number_at domain_words domain_at spelled_word word_of head_of pattern_of parsed step ended token_at range_of value_of number_of domain_of is_path
bad_family = refl

-- `network un`
pub unfinished_family : net_line (codes "network" ∷ codes "un" ∷ []) ≡ Err LineKind.Arity
unfolding net_line network_line inet_line unix_line misc_line task_line perms_at env_word addr_range_word address_word address_at addr_range_of addr_of v4_of v6_of quad_of plain_of side_of groups_after last_of hex_group_of perms_of group_word pattern_word path_word range_word name_word number_word name_at number_at domain_words domain_at spelled_word word_of head_of pattern_of parsed step ended token_at range_of value_of number_of domain_of is_path
unfinished_family = refl

-- `network inet`
pub no_kind : net_line (codes "network" ∷ codes "inet" ∷ []) ≡ Err LineKind.Arity
unfolding net_line network_line inet_line unix_line misc_line task_line perms_at env_word addr_range_word address_word address_at addr_range_of addr_of v4_of v6_of quad_of plain_of side_of groups_after last_of hex_group_of perms_of group_word pattern_word path_word range_word name_word number_word name_at number_at domain_words domain_at spelled_word word_of head_of pattern_of parsed step ended token_at range_of value_of number_of domain_of is_path
no_kind = refl

-- `network inet seqpacket`: a kind of the other family
pub bad_kind : net_line (codes "network" ∷ codes "inet" ∷ codes "seqpacket" ∷ []) ≡ Err LineKind.Keyword
unfolding net_line network_line inet_line unix_line misc_line task_line perms_at env_word addr_range_word address_word address_at addr_range_of addr_of v4_of v6_of quad_of plain_of side_of groups_after last_of hex_group_of perms_of group_word pattern_word path_word range_word name_word number_word name_at number_at domain_words domain_at spelled_word word_of head_of pattern_of parsed step ended token_at range_of value_of number_of domain_of is_path
bad_kind = refl

-- `network unix seq`
pub unfinished_kind : net_line (codes "network" ∷ codes "unix" ∷ codes "seq" ∷ []) ≡ Err LineKind.Arity
unfolding net_line network_line inet_line unix_line misc_line task_line perms_at env_word addr_range_word address_word address_at addr_range_of addr_of v4_of v6_of quad_of plain_of side_of groups_after last_of hex_group_of perms_of group_word pattern_word path_word range_word name_word number_word name_at number_at domain_words domain_at spelled_word word_of head_of pattern_of parsed step ended token_at range_of value_of number_of domain_of is_path
unfinished_kind = refl

-- `network inet raw`
pub no_permission : net_line (codes "network" ∷ codes "inet" ∷ codes "raw" ∷ []) ≡ Err LineKind.Arity
unfolding net_line network_line inet_line unix_line misc_line task_line perms_at env_word addr_range_word address_word address_at addr_range_of addr_of v4_of v6_of quad_of plain_of side_of groups_after last_of hex_group_of perms_of group_word pattern_word path_word range_word name_word number_word name_at number_at domain_words domain_at spelled_word word_of head_of pattern_of parsed step ended token_at range_of value_of number_of domain_of is_path
no_permission = refl

-- `network inet dgram listen 1.2.3.4 5`: a permission of another kind
pub bad_permission : net_line (codes "network" ∷ codes "inet" ∷ codes "dgram" ∷ codes "listen" ∷ codes "1.2.3.4" ∷ codes "5" ∷ []) ≡ Err LineKind.Keyword
unfolding net_line network_line inet_line unix_line misc_line task_line perms_at env_word addr_range_word address_word address_at addr_range_of addr_of v4_of v6_of quad_of plain_of side_of groups_after last_of hex_group_of perms_of group_word pattern_word path_word range_word name_word number_word name_at number_at domain_words domain_at spelled_word word_of head_of pattern_of parsed step ended token_at range_of value_of number_of domain_of is_path
bad_permission = refl

-- `network inet stream bind/`
pub unfinished_permission : net_line (codes "network" ∷ codes "inet" ∷ codes "stream" ∷ codes "bind/" ∷ []) ≡ Err LineKind.Arity
unfolding net_line network_line inet_line unix_line misc_line task_line perms_at env_word addr_range_word address_word address_at addr_range_of addr_of v4_of v6_of quad_of plain_of side_of groups_after last_of hex_group_of perms_of group_word pattern_word path_word range_word name_word number_word name_at number_at domain_words domain_at spelled_word word_of head_of pattern_of parsed step ended token_at range_of value_of number_of domain_of is_path
unfinished_permission = refl

-- `network inet stream bind`
pub no_address : net_line (codes "network" ∷ codes "inet" ∷ codes "stream" ∷ codes "bind" ∷ []) ≡ Err LineKind.Arity
unfolding net_line network_line inet_line unix_line misc_line task_line perms_at env_word addr_range_word address_word address_at addr_range_of addr_of v4_of v6_of quad_of plain_of side_of groups_after last_of hex_group_of perms_of group_word pattern_word path_word range_word name_word number_word name_at number_at domain_words domain_at spelled_word word_of head_of pattern_of parsed step ended token_at range_of value_of number_of domain_of is_path
no_address = refl

-- `network inet stream bind 1.2.3 4`
pub bad_address : net_line (codes "network" ∷ codes "inet" ∷ codes "stream" ∷ codes "bind" ∷ codes "1.2.3" ∷ codes "4" ∷ []) ≡ Err LineKind.Address
unfolding net_line network_line inet_line unix_line misc_line task_line perms_at env_word addr_range_word address_word address_at addr_range_of addr_of v4_of v6_of quad_of plain_of side_of groups_after last_of hex_group_of perms_of group_word pattern_word path_word range_word name_word number_word name_at number_at domain_words domain_at spelled_word word_of head_of pattern_of parsed step ended token_at range_of value_of number_of domain_of is_path
bad_address = refl

-- `network inet stream bind 1.2.3.4-1.2.3.3 4`
pub backward_addresses : net_line (codes "network" ∷ codes "inet" ∷ codes "stream" ∷ codes "bind" ∷ codes "1.2.3.4-1.2.3.3" ∷ codes "4" ∷ []) ≡ Err LineKind.Address
unfolding net_line network_line inet_line unix_line misc_line task_line perms_at env_word addr_range_word address_word address_at addr_range_of addr_of v4_of v6_of quad_of plain_of side_of groups_after last_of hex_group_of perms_of group_word pattern_word path_word range_word name_word number_word name_at number_at domain_words domain_at spelled_word word_of head_of pattern_of parsed step ended token_at range_of value_of number_of domain_of is_path
backward_addresses = refl

-- `network inet stream bind 1.2.3.4-::1 4`
pub mixed_addresses : net_line (codes "network" ∷ codes "inet" ∷ codes "stream" ∷ codes "bind" ∷ codes "1.2.3.4-::1" ∷ codes "4" ∷ []) ≡ Err LineKind.Address
unfolding net_line network_line inet_line unix_line misc_line task_line perms_at env_word addr_range_word address_word address_at addr_range_of addr_of v4_of v6_of quad_of plain_of side_of groups_after last_of hex_group_of perms_of group_word pattern_word path_word range_word name_word number_word name_at number_at domain_words domain_at spelled_word word_of head_of pattern_of parsed step ended token_at range_of value_of number_of domain_of is_path
mixed_addresses = refl

-- `network inet stream bind @ 4`: a wrong group of addresses is a wrong name
pub bad_address_group : net_line (codes "network" ∷ codes "inet" ∷ codes "stream" ∷ codes "bind" ∷ codes "@" ∷ codes "4" ∷ []) ≡ Err LineKind.Name
unfolding net_line network_line inet_line unix_line misc_line task_line perms_at env_word addr_range_word address_word address_at addr_range_of addr_of v4_of v6_of quad_of plain_of side_of groups_after last_of hex_group_of perms_of group_word pattern_word path_word range_word name_word number_word name_at number_at domain_words domain_at spelled_word word_of head_of pattern_of parsed step ended token_at range_of value_of number_of domain_of is_path
bad_address_group = refl

-- `network inet stream bind 1.2.3.4`
pub no_port : net_line (codes "network" ∷ codes "inet" ∷ codes "stream" ∷ codes "bind" ∷ codes "1.2.3.4" ∷ []) ≡ Err LineKind.Arity
unfolding net_line network_line inet_line unix_line misc_line task_line perms_at env_word addr_range_word address_word address_at addr_range_of addr_of v4_of v6_of quad_of plain_of side_of groups_after last_of hex_group_of perms_of group_word pattern_word path_word range_word name_word number_word name_at number_at domain_words domain_at spelled_word word_of head_of pattern_of parsed step ended token_at range_of value_of number_of domain_of is_path
no_port = refl

-- `network inet stream bind 1.2.3.4 http`
pub bad_port : net_line (codes "network" ∷ codes "inet" ∷ codes "stream" ∷ codes "bind" ∷ codes "1.2.3.4" ∷ codes "http" ∷ []) ≡ Err LineKind.Number
unfolding net_line network_line inet_line unix_line misc_line task_line perms_at env_word addr_range_word address_word address_at addr_range_of addr_of v4_of v6_of quad_of plain_of side_of groups_after last_of hex_group_of perms_of group_word pattern_word path_word range_word name_word number_word name_at number_at domain_words domain_at spelled_word word_of head_of pattern_of parsed step ended token_at range_of value_of number_of domain_of is_path
bad_port = refl

-- `network unix stream bind`
pub no_name : net_line (codes "network" ∷ codes "unix" ∷ codes "stream" ∷ codes "bind" ∷ []) ≡ Err LineKind.Arity
unfolding net_line network_line inet_line unix_line misc_line task_line perms_at env_word addr_range_word address_word address_at addr_range_of addr_of v4_of v6_of quad_of plain_of side_of groups_after last_of hex_group_of perms_of group_word pattern_word path_word range_word name_word number_word name_at number_at domain_words domain_at spelled_word word_of head_of pattern_of parsed step ended token_at range_of value_of number_of domain_of is_path
no_name = refl

-- `network unix stream bind /\q`
pub bad_name : net_line (codes "network" ∷ codes "unix" ∷ codes "stream" ∷ codes "bind" ∷ codes "/\\q" ∷ []) ≡ Err LineKind.Name
unfolding net_line network_line inet_line unix_line misc_line task_line perms_at env_word addr_range_word address_word address_at addr_range_of addr_of v4_of v6_of quad_of plain_of side_of groups_after last_of hex_group_of perms_of group_word pattern_word path_word range_word name_word number_word name_at number_at domain_words domain_at spelled_word word_of head_of pattern_of parsed step ended token_at range_of value_of number_of domain_of is_path
bad_name = refl

-- `mis`
pub unfinished_misc : net_line (codes "mis" ∷ []) ≡ Err LineKind.Arity
unfolding net_line network_line inet_line unix_line misc_line task_line perms_at env_word addr_range_word address_word address_at addr_range_of addr_of v4_of v6_of quad_of plain_of side_of groups_after last_of hex_group_of perms_of group_word pattern_word path_word range_word name_word number_word name_at number_at domain_words domain_at spelled_word word_of head_of pattern_of parsed step ended token_at range_of value_of number_of domain_of is_path
unfinished_misc = refl

-- `misc`
pub no_env : net_line (codes "misc" ∷ []) ≡ Err LineKind.Arity
unfolding net_line network_line inet_line unix_line misc_line task_line perms_at env_word addr_range_word address_word address_at addr_range_of addr_of v4_of v6_of quad_of plain_of side_of groups_after last_of hex_group_of perms_of group_word pattern_word path_word range_word name_word number_word name_at number_at domain_words domain_at spelled_word word_of head_of pattern_of parsed step ended token_at range_of value_of number_of domain_of is_path
no_env = refl

-- `misc foo A`
pub bad_env : net_line (codes "misc" ∷ codes "foo" ∷ codes "A" ∷ []) ≡ Err LineKind.Keyword
unfolding net_line network_line inet_line unix_line misc_line task_line perms_at env_word addr_range_word address_word address_at addr_range_of addr_of v4_of v6_of quad_of plain_of side_of groups_after last_of hex_group_of perms_of group_word pattern_word path_word range_word name_word number_word name_at number_at domain_words domain_at spelled_word word_of head_of pattern_of parsed step ended token_at range_of value_of number_of domain_of is_path
bad_env = refl

-- `misc en`
pub unfinished_env : net_line (codes "misc" ∷ codes "en" ∷ []) ≡ Err LineKind.Arity
unfolding net_line network_line inet_line unix_line misc_line task_line perms_at env_word addr_range_word address_word address_at addr_range_of addr_of v4_of v6_of quad_of plain_of side_of groups_after last_of hex_group_of perms_of group_word pattern_word path_word range_word name_word number_word name_at number_at domain_words domain_at spelled_word word_of head_of pattern_of parsed step ended token_at range_of value_of number_of domain_of is_path
unfinished_env = refl

-- `misc env/env A`: there is no list
pub two_envs : net_line (codes "misc" ∷ codes "env/env" ∷ codes "A" ∷ []) ≡ Err LineKind.Keyword
unfolding net_line network_line inet_line unix_line misc_line task_line perms_at env_word addr_range_word address_word address_at addr_range_of addr_of v4_of v6_of quad_of plain_of side_of groups_after last_of hex_group_of perms_of group_word pattern_word path_word range_word name_word number_word name_at number_at domain_words domain_at spelled_word word_of head_of pattern_of parsed step ended token_at range_of value_of number_of domain_of is_path
two_envs = refl

-- `misc env`
pub no_variable : net_line (codes "misc" ∷ codes "env" ∷ []) ≡ Err LineKind.Arity
unfolding net_line network_line inet_line unix_line misc_line task_line perms_at env_word addr_range_word address_word address_at addr_range_of addr_of v4_of v6_of quad_of plain_of side_of groups_after last_of hex_group_of perms_of group_word pattern_word path_word range_word name_word number_word name_at number_at domain_words domain_at spelled_word word_of head_of pattern_of parsed step ended token_at range_of value_of number_of domain_of is_path
no_variable = refl

-- `misc env A=B`: a name has no `=`
pub equals : net_line (codes "misc" ∷ codes "env" ∷ codes "A=B" ∷ []) ≡ Err LineKind.Name
unfolding net_line network_line inet_line unix_line misc_line task_line perms_at env_word addr_range_word address_word address_at addr_range_of addr_of v4_of v6_of quad_of plain_of side_of groups_after last_of hex_group_of perms_of group_word pattern_word path_word range_word name_word number_word name_at number_at domain_words domain_at spelled_word word_of head_of pattern_of parsed step ended token_at range_of value_of number_of domain_of is_path
equals = refl

-- `misc env \q`
pub bad_variable : net_line (codes "misc" ∷ codes "env" ∷ codes "\\q" ∷ []) ≡ Err LineKind.Name
unfolding net_line network_line inet_line unix_line misc_line task_line perms_at env_word addr_range_word address_word address_at addr_range_of addr_of v4_of v6_of quad_of plain_of side_of groups_after last_of hex_group_of perms_of group_word pattern_word path_word range_word name_word number_word name_at number_at domain_words domain_at spelled_word word_of head_of pattern_of parsed step ended token_at range_of value_of number_of domain_of is_path
bad_variable = refl

-- `tas`
pub unfinished_task : net_line (codes "tas" ∷ []) ≡ Err LineKind.Arity
unfolding net_line network_line inet_line unix_line misc_line task_line perms_at env_word addr_range_word address_word address_at addr_range_of addr_of v4_of v6_of quad_of plain_of side_of groups_after last_of hex_group_of perms_of group_word pattern_word path_word range_word name_word number_word name_at number_at domain_words domain_at spelled_word word_of head_of pattern_of parsed step ended token_at range_of value_of number_of domain_of is_path
unfinished_task = refl

-- `task`
pub no_manual : net_line (codes "task" ∷ []) ≡ Err LineKind.Arity
unfolding net_line network_line inet_line unix_line misc_line task_line perms_at env_word addr_range_word address_word address_at addr_range_of addr_of v4_of v6_of quad_of plain_of side_of groups_after last_of hex_group_of perms_of group_word pattern_word path_word range_word name_word number_word name_at number_at domain_words domain_at spelled_word word_of head_of pattern_of parsed step ended token_at range_of value_of number_of domain_of is_path
no_manual = refl

-- `task manual`: an unfinished keyword
pub bad_manual : net_line (codes "task" ∷ codes "manual" ∷ []) ≡ Err LineKind.Arity
unfolding net_line network_line inet_line unix_line misc_line task_line perms_at env_word addr_range_word address_word address_at addr_range_of addr_of v4_of v6_of quad_of plain_of side_of groups_after last_of hex_group_of perms_of group_word pattern_word path_word range_word name_word number_word name_at number_at domain_words domain_at spelled_word word_of head_of pattern_of parsed step ended token_at range_of value_of number_of domain_of is_path
bad_manual = refl

-- `task foo <kernel>`
pub wrong_manual : net_line (codes "task" ∷ codes "foo" ∷ codes "<kernel>" ∷ []) ≡ Err LineKind.Keyword
unfolding net_line network_line inet_line unix_line misc_line task_line perms_at env_word addr_range_word address_word address_at addr_range_of addr_of v4_of v6_of quad_of plain_of side_of groups_after last_of hex_group_of perms_of group_word pattern_word path_word range_word name_word number_word name_at number_at domain_words domain_at spelled_word word_of head_of pattern_of parsed step ended token_at range_of value_of number_of domain_of is_path
wrong_manual = refl

-- `task manual_domain_transition`
pub no_domain : net_line (codes "task" ∷ codes "manual_domain_transition" ∷ []) ≡ Err LineKind.Arity
unfolding net_line network_line inet_line unix_line misc_line task_line perms_at env_word addr_range_word address_word address_at addr_range_of addr_of v4_of v6_of quad_of plain_of side_of groups_after last_of hex_group_of perms_of group_word pattern_word path_word range_word name_word number_word name_at number_at domain_words domain_at spelled_word word_of head_of pattern_of parsed step ended token_at range_of value_of number_of domain_of is_path
no_domain = refl

-- `task manual_domain_transition <kern`
pub bad_domain : net_line (codes "task" ∷ codes "manual_domain_transition" ∷ codes "<kern" ∷ []) ≡ Err LineKind.Domain
unfolding net_line network_line inet_line unix_line misc_line task_line perms_at env_word addr_range_word address_word address_at addr_range_of addr_of v4_of v6_of quad_of plain_of side_of groups_after last_of hex_group_of perms_of group_word pattern_word path_word range_word name_word number_word name_at number_at domain_words domain_at spelled_word word_of head_of pattern_of parsed step ended token_at range_of value_of number_of domain_of is_path
bad_domain = refl

-- `task manual_domain_transition <kernel> /\q`
pub bad_domain_path : net_line (codes "task" ∷ codes "manual_domain_transition" ∷ codes "<kernel>" ∷ codes "/\\q" ∷ []) ≡ Err LineKind.Domain
unfolding net_line network_line inet_line unix_line misc_line task_line perms_at env_word addr_range_word address_word address_at addr_range_of addr_of v4_of v6_of quad_of plain_of side_of groups_after last_of hex_group_of perms_of group_word pattern_word path_word range_word name_word number_word name_at number_at domain_words domain_at spelled_word word_of head_of pattern_of parsed step ended token_at range_of value_of number_of domain_of is_path
bad_domain_path = refl

-- `task manual_domain_transition /a`
pub no_namespace : net_line (codes "task" ∷ codes "manual_domain_transition" ∷ codes "/a" ∷ []) ≡ Err LineKind.Domain
unfolding net_line network_line inet_line unix_line misc_line task_line perms_at env_word addr_range_word address_word address_at addr_range_of addr_of v4_of v6_of quad_of plain_of side_of groups_after last_of hex_group_of perms_of group_word pattern_word path_word range_word name_word number_word name_at number_at domain_words domain_at spelled_word word_of head_of pattern_of parsed step ended token_at range_of value_of number_of domain_of is_path
no_namespace = refl

-- groups of addresses and numbers
pub groups : net_line (codes "network" ∷ codes "inet" ∷ codes "stream" ∷ codes "connect/bind" ∷ codes "@a" ∷ codes "@p" ∷ codes "x" ∷ []) ≡ Ok (Args.Inet InetKind.Stream (AddrUnion.Group (codes "a")) (NumberUnion.Group (codes "p")), perms 5, codes "x" ∷ [])
unfolding net_line network_line inet_line unix_line misc_line task_line perms_at env_word addr_range_word address_word address_at addr_range_of addr_of v4_of v6_of quad_of plain_of side_of groups_after last_of hex_group_of perms_of group_word pattern_word path_word range_word name_word number_word name_at number_at domain_words domain_at spelled_word word_of head_of pattern_of parsed step ended token_at range_of value_of number_of domain_of is_path
groups = refl

-- a local socket
pub local : net_line (codes "network" ∷ codes "unix" ∷ codes "seqpacket" ∷ codes "listen" ∷ codes "@a" ∷ []) ≡ Ok (Args.Unix UnixKind.Seqpacket (NameUnion.Group (codes "a")), perms 2, [])
unfolding net_line network_line inet_line unix_line misc_line task_line perms_at env_word addr_range_word address_word address_at addr_range_of addr_of v4_of v6_of quad_of plain_of side_of groups_after last_of hex_group_of perms_of group_word pattern_word path_word range_word name_word number_word name_at number_at domain_words domain_at spelled_word word_of head_of pattern_of parsed step ended token_at range_of value_of number_of domain_of is_path
local = refl

-- a domain takes the words that begin with `/`
pub manual : net_line (codes "task" ∷ codes "manual_domain_transition" ∷ codes "<kernel>" ∷ codes "/a" ∷ codes "/b" ∷ codes "x" ∷ []) ≡ Ok (Args.Manual (codes "<kernel> /a /b"), perms 1, codes "x" ∷ [])
unfolding net_line network_line inet_line unix_line misc_line task_line perms_at env_word addr_range_word address_word address_at addr_range_of addr_of v4_of v6_of quad_of plain_of side_of groups_after last_of hex_group_of perms_of group_word pattern_word path_word range_word name_word number_word name_at number_at domain_words domain_at spelled_word word_of head_of pattern_of parsed step ended token_at range_of value_of number_of domain_of is_path
manual = refl
