-- Worked traces: the line and the kind of each fault, and texts that are printed in their one form.
use Rattle.std.proofs.Common.{◌≡◌, ℕ, Bool, true, false, List, [], ◌∷◌, ◌++◌, Some, None, Result, Ok, Err, refl}
use Rattle.std.specs.Prelude.{codes}
use Rattle.std.specs.Fmt.{digits}
use Rattle.std.specs.List.{flat_map}
use Rattle.tm_word.specs.Prelude.{Text, head_of, literal, literal_word, spelled_pattern, spelled_word, texts_equal, word_of, words_of}
use Rattle.tm_number.specs.Numbers.{number_of, value_of, plain_of}
use Rattle.tm_addr.specs.Reading.{addr_of, v4_of, quad_of, v6_of, side_of, groups_after, last_of, group_of}
use Rattle.tm_addr.specs.Printing.{v4_spelling, v6_spelling, groups_in, longest}
use Rattle.tm_line.specs.Tokens.{token_at}
use Rattle.tm_line.specs.Reading.{step, ended, parsed, pattern_of}
use Rattle.tm_rules.specs.Types.{Args, NameUnion, Request, TraceKind, function_of, no_attributes}
use Rattle.tm_rules.specs.Prelude.{Trace, is_request, learned_line}
use Rattle.tm_line.specs.Grammar.{is_right}
use Rattle.tm_entry.specs.Written.{is_attr, is_side, is_clause, is_cond}
use Rattle.tm_line.specs.Written.{is_name}
use Rattle.tm_line.specs.Names.{is_path, domain_of}
use Rattle.tm_line.specs.Permissions.{perm_on}
use Rattle.tm_line.specs.Arguments.{group_word, plain_word}
use Rattle.tm_line.specs.Domains.{domain_words, domain_at, domain_to_end}
use Rattle.tm_line.specs.Printing.{name_spelling, number_spelling, address_spelling}
use Rattle.tm_entry.specs.FileLines.{row_of, file_words, is_file}
use Rattle.tm_entry.specs.NetLines.{net_words, is_net}
use Rattle.tm_entry.specs.Entries.{acl_words, is_entry}
use Rattle.tm_entry.specs.Attributes.{without_last, id_word, field_word, parent_word, kind_word, attr_text, numeric_word, other_word, argv_word, envp_word, attr_word}
use Rattle.tm_trace.specs.Requests.{place_in, literal_name, path_name, single_number, single_address, env_name, args_at, mount_at, file_request, inet_request, unix_request, network_request, misc_request, task_request, request_line}
use Rattle.tm_trace.specs.Attributes.{put_stat, quoted_word, value_word, with_argument, with_real_path, with_name, with_target, with_stat, with_attribute, with_sides, with_word, attributes_from}
use Rattle.tm_trace.specs.Processes.{pid_word, id_at, ids_to_end}
use Rattle.tm_trace.specs.Reading.{new_at, process_at, request_at, request_of, tree_line, ids_line, fork_line, do_line, line_at, trace_from, trace_of, tree_line_from, tree_line_at}
use Rattle.tm_trace.specs.Printing.{attribute_words, request_words, item_words, tree_words, trace_text}

-- all definitions that are shut elsewhere, opened by naming this one
unfoldable pub computed : Unit {0}
unfolding digits words_of literal spelled_pattern number_of value_of addr_of v4_of quad_of plain_of v6_of side_of groups_after last_of group_of v4_spelling v6_spelling groups_in longest token_at step ended parsed pattern_of spelled_word word_of head_of is_path domain_of perm_on group_word plain_word domain_words domain_at domain_to_end name_spelling number_spelling address_spelling row_of file_words net_words acl_words without_last id_word field_word parent_word kind_word attr_text numeric_word other_word argv_word envp_word attr_word place_in literal_name path_name single_number single_address env_name args_at mount_at file_request inet_request unix_request network_request misc_request task_request request_line put_stat quoted_word value_word with_argument with_real_path with_name with_target with_stat with_attribute with_sides with_word attributes_from pid_word id_at ids_to_end new_at process_at request_at request_of tree_line ids_line fork_line do_line line_at trace_from trace_of attribute_words request_words item_words tree_words trace_text
computed = tt

-- the text of these lines
abbrev text : List Text → Text
text lines = flat_map (λ line. line ++ 10 ∷ []) lines

-- what these lines are read as; those after a first tree
abbrev read : List Text → Result Trace (ℕ × TraceKind)
read lines = trace_of (text lines)

abbrev in_tree : List Text → Result Trace (ℕ × TraceKind)
in_tree lines = read (codes "tree 1 <kernel>" ∷ lines)

-- what is read is printed as this text
abbrev printed_as : Text → Result Trace (ℕ × TraceKind) → Bool
printed_as wanted (Ok trace) = texts_equal (trace_text trace) wanted
printed_as wanted (Err fault) = false

-- Faults

-- none of the four: `foo 1`
pub keyword : read (codes "foo 1" ∷ []) ≡ Err (1, TraceKind.Keyword)
unfolding computed
keyword = refl

-- `tre`
pub unfinished_keyword : read (codes "tre" ∷ []) ≡ Err (1, TraceKind.Keyword)
unfolding computed
unfinished_keyword = refl

-- a word that only begins as one: `dos 1 file read /a`
pub keyword_after_tree : in_tree (codes "dos 1 file read /a" ∷ []) ≡ Err (2, TraceKind.Keyword)
unfolding computed
keyword_after_tree = refl

-- a request before the first tree: `do 1 file read /a`
pub no_tree : read (codes "do 1 file read /a" ∷ []) ≡ Err (1, TraceKind.NoTree)
unfolding computed
no_tree = refl

-- before every other fault of its line: `ids x`
pub no_tree_first : read (codes "ids x" ∷ []) ≡ Err (1, TraceKind.NoTree)
unfolding computed
no_tree_first = refl

-- a fork before the first tree: ``, `fork 1 2`
pub no_tree_fork : read (codes "" ∷ codes "fork 1 2" ∷ []) ≡ Err (2, TraceKind.NoTree)
unfolding computed
no_tree_fork = refl

-- a pid is not 0: `tree 0 <kernel>`
pub number_zero : read (codes "tree 0 <kernel>" ∷ []) ≡ Err (1, TraceKind.Number)
unfolding computed
number_zero = refl

-- a pid is below 2^32: `tree 4294967296 <kernel>`
pub number_top : read (codes "tree 4294967296 <kernel>" ∷ []) ≡ Err (1, TraceKind.Number)
unfolding computed
number_top = refl

-- no leading zero: `tree 01 <kernel>`
pub number_plain : read (codes "tree 01 <kernel>" ∷ []) ≡ Err (1, TraceKind.Number)
unfolding computed
number_plain = refl

-- no number: `tree x <kernel>`
pub number_word : read (codes "tree x <kernel>" ∷ []) ≡ Err (1, TraceKind.Number)
unfolding computed
number_word = refl

-- before NoProcess: `do 0 file read /a`
pub number_pid : in_tree (codes "do 0 file read /a" ∷ []) ≡ Err (2, TraceKind.Number)
unfolding computed
number_pid = refl

-- an id is below 2^32: `ids 1 0 0 0 0 0 0 0 4294967296`
pub number_id : in_tree (codes "ids 1 0 0 0 0 0 0 0 4294967296" ∷ []) ≡ Err (2, TraceKind.Number)
unfolding computed
number_id = refl

-- an id is decimal: `ids 1 0x1`
pub number_id_base : in_tree (codes "ids 1 0x1" ∷ []) ≡ Err (2, TraceKind.Number)
unfolding computed
number_id_base = refl

-- a child's pid is not 0: `fork 1 0`
pub number_child : in_tree (codes "fork 1 0" ∷ []) ≡ Err (2, TraceKind.Number)
unfolding computed
number_child = refl

-- an extra word comes after a wrong number: `ids 1 0 x 0 0 0 0 0 0 0`
pub number_before_extra : in_tree (codes "ids 1 0 x 0 0 0 0 0 0 0" ∷ []) ≡ Err (2, TraceKind.Number)
unfolding computed
number_before_extra = refl

-- a pid of an earlier tree: `tree 1 <kernel>`
pub known_tree : in_tree (codes "tree 1 <kernel>" ∷ []) ≡ Err (2, TraceKind.KnownProcess)
unfolding computed
known_tree = refl

-- at the pid's word: `tree 1`
pub known_before_arity : in_tree (codes "tree 1" ∷ []) ≡ Err (2, TraceKind.KnownProcess)
unfolding computed
known_before_arity = refl

-- fork 7 7: `tree 7 <kernel>`, `fork 7 7`
pub known_self : read (codes "tree 7 <kernel>" ∷ codes "fork 7 7" ∷ []) ≡ Err (2, TraceKind.KnownProcess)
unfolding computed
known_self = refl

-- made twice: `fork 1 2`, `fork 1 2`
pub known_child : in_tree (codes "fork 1 2" ∷ codes "fork 1 2" ∷ []) ≡ Err (3, TraceKind.KnownProcess)
unfolding computed
known_child = refl

-- a tree's pid that a fork made: `fork 1 2`, `tree 2 <kernel>`
pub known_by_fork : in_tree (codes "fork 1 2" ∷ codes "tree 2 <kernel>" ∷ []) ≡ Err (3, TraceKind.KnownProcess)
unfolding computed
known_by_fork = refl

-- at the pid's word: `fork 1 1 x`
pub known_before_extra : in_tree (codes "fork 1 1 x" ∷ []) ≡ Err (2, TraceKind.KnownProcess)
unfolding computed
known_before_extra = refl

-- no process of the tree: `do 2 file read /a`
pub no_process : in_tree (codes "do 2 file read /a" ∷ []) ≡ Err (2, TraceKind.NoProcess)
unfolding computed
no_process = refl

-- a process of an earlier tree: `tree 2 <kernel>`, `do 1 file read /a`
pub no_process_of_another : in_tree (codes "tree 2 <kernel>" ∷ codes "do 1 file read /a" ∷ []) ≡ Err (3, TraceKind.NoProcess)
unfolding computed
no_process_of_another = refl

-- before a missing word: `ids 3`
pub no_process_ids : in_tree (codes "ids 3" ∷ []) ≡ Err (2, TraceKind.NoProcess)
unfolding computed
no_process_ids = refl

-- before a wrong child: `fork 3 x`
pub no_process_fork : in_tree (codes "fork 3 x" ∷ []) ≡ Err (2, TraceKind.NoProcess)
unfolding computed
no_process_fork = refl

-- no namespace word: `tree 1 kernel`
pub no_domain : read (codes "tree 1 kernel" ∷ []) ≡ Err (1, TraceKind.NoDomain)
unfolding computed
no_domain = refl

-- a word that is no path: `tree 1 <kernel> x`
pub no_domain_word : read (codes "tree 1 <kernel> x" ∷ []) ≡ Err (1, TraceKind.NoDomain)
unfolding computed
no_domain_word = refl

-- a path that is no pattern: `tree 1 <kernel> /a\q`
pub no_domain_path : read (codes "tree 1 <kernel> /a\\q" ∷ []) ≡ Err (1, TraceKind.NoDomain)
unfolding computed
no_domain_path = refl

-- an unknown word: `do 1 foo`
pub request_word : in_tree (codes "do 1 foo" ∷ []) ≡ Err (2, TraceKind.Request)
unfolding computed
request_word = refl

-- `do 1 fi`
pub request_unfinished : in_tree (codes "do 1 fi" ∷ []) ≡ Err (2, TraceKind.Request)
unfolding computed
request_unfinished = refl

-- an unknown permission: `do 1 file foo /a`
pub request_permission : in_tree (codes "do 1 file foo /a" ∷ []) ≡ Err (2, TraceKind.Request)
unfolding computed
request_permission = refl

-- read/write: `do 1 file read/write /a`
pub request_two : in_tree (codes "do 1 file read/write /a" ∷ []) ≡ Err (2, TraceKind.Request)
unfolding computed
request_two = refl

-- read/read: `do 1 file read/read /a`
pub request_twice : in_tree (codes "do 1 file read/read /a" ∷ []) ≡ Err (2, TraceKind.Request)
unfolding computed
request_twice = refl

-- mount alone: `do 1 file mount/mount /a /b /c 0`
pub request_mount : in_tree (codes "do 1 file mount/mount /a /b /c 0" ∷ []) ≡ Err (2, TraceKind.Request)
unfolding computed
request_mount = refl

-- a group: `do 1 file read @G`
pub request_group : in_tree (codes "do 1 file read @G" ∷ []) ≡ Err (2, TraceKind.Request)
unfolding computed
request_group = refl

-- a pattern: `do 1 file read /\*`
pub request_pattern : in_tree (codes "do 1 file read /\\*" ∷ []) ≡ Err (2, TraceKind.Request)
unfolding computed
request_pattern = refl

-- 5-5: `do 1 file mkdir /d 5-5`
pub request_range : in_tree (codes "do 1 file mkdir /d 5-5" ∷ []) ≡ Err (2, TraceKind.Request)
unfolding computed
request_range = refl

-- no number: `do 1 file mkdir /d x`
pub request_number : in_tree (codes "do 1 file mkdir /d x" ∷ []) ≡ Err (2, TraceKind.Request)
unfolding computed
request_number = refl

-- a group for a number: `do 1 file mkdir /d @G`
pub request_number_group : in_tree (codes "do 1 file mkdir /d @G" ∷ []) ≡ Err (2, TraceKind.Request)
unfolding computed
request_number_group = refl

-- a number of 2^64: `do 1 file mkdir /d 18446744073709551616`
pub request_number_big : in_tree (codes "do 1 file mkdir /d 18446744073709551616" ∷ []) ≡ Err (2, TraceKind.Request)
unfolding computed
request_number_big = refl

-- the third number: `do 1 file mkchar /d 0 1 x`
pub request_device : in_tree (codes "do 1 file mkchar /d 0 1 x" ∷ []) ≡ Err (2, TraceKind.Request)
unfolding computed
request_device = refl

-- the second name: `do 1 file rename /a @b`
pub request_second : in_tree (codes "do 1 file rename /a @b" ∷ []) ≡ Err (2, TraceKind.Request)
unfolding computed
request_second = refl

-- flags: `do 1 file mount /a /b ext3 ext3`
pub request_flags : in_tree (codes "do 1 file mount /a /b ext3 ext3" ∷ []) ≡ Err (2, TraceKind.Request)
unfolding computed
request_flags = refl

-- no family: `do 1 network foo`
pub request_family : in_tree (codes "do 1 network foo" ∷ []) ≡ Err (2, TraceKind.Request)
unfolding computed
request_family = refl

-- no kind of it: `do 1 network inet seqpacket`
pub request_kind : in_tree (codes "do 1 network inet seqpacket" ∷ []) ≡ Err (2, TraceKind.Request)
unfolding computed
request_kind = refl

-- raw sockets don't listen: `do 1 network inet raw listen 1.2.3.4 80`
pub request_listen : in_tree (codes "do 1 network inet raw listen 1.2.3.4 80" ∷ []) ≡ Err (2, TraceKind.Request)
unfolding computed
request_listen = refl

-- ::1-::1: `do 1 network inet stream bind ::1-::1 80`
pub request_addresses : in_tree (codes "do 1 network inet stream bind ::1-::1 80" ∷ []) ≡ Err (2, TraceKind.Request)
unfolding computed
request_addresses = refl

-- no address: `do 1 network inet dgram send 1.2.3 80`
pub request_address : in_tree (codes "do 1 network inet dgram send 1.2.3 80" ∷ []) ≡ Err (2, TraceKind.Request)
unfolding computed
request_address = refl

-- a group for a port: `do 1 network inet dgram send 1.2.3.4 @P`
pub request_port : in_tree (codes "do 1 network inet dgram send 1.2.3.4 @P" ∷ []) ≡ Err (2, TraceKind.Request)
unfolding computed
request_port = refl

-- no permission of datagrams: `do 1 network unix dgram connect /s`
pub request_unix : in_tree (codes "do 1 network unix dgram connect /s" ∷ []) ≡ Err (2, TraceKind.Request)
unfolding computed
request_unix = refl

-- an = in a name: `do 1 misc env A=B`
pub request_env : in_tree (codes "do 1 misc env A=B" ∷ []) ≡ Err (2, TraceKind.Request)
unfolding computed
request_env = refl

-- a pattern: `do 1 misc env A\*`
pub request_env_pattern : in_tree (codes "do 1 misc env A\\*" ∷ []) ≡ Err (2, TraceKind.Request)
unfolding computed
request_env_pattern = refl

-- no other word: `do 1 misc en A`
pub request_misc : in_tree (codes "do 1 misc en A" ∷ []) ≡ Err (2, TraceKind.Request)
unfolding computed
request_misc = refl

-- no other word: `do 1 task manual`
pub request_task : in_tree (codes "do 1 task manual" ∷ []) ≡ Err (2, TraceKind.Request)
unfolding computed
request_task = refl

-- no domain name: `do 1 task manual_domain_transition kernel`
pub request_domain : in_tree (codes "do 1 task manual_domain_transition kernel" ∷ []) ≡ Err (2, TraceKind.Request)
unfolding computed
request_domain = refl

-- no pattern: `do 1 task manual_domain_transition <kernel> /a\q`
pub request_domain_word : in_tree (codes "do 1 task manual_domain_transition <kernel> /a\\q" ∷ []) ≡ Err (2, TraceKind.Request)
unfolding computed
request_domain_word = refl

-- the path of an execute: `do 1 file execute a exec.realpath="/a" exec.argv="a"`
pub request_execute : in_tree (codes "do 1 file execute a exec.realpath=\"/a\" exec.argv=\"a\"" ∷ []) ≡ Err (2, TraceKind.Request)
unfolding computed
request_execute = refl

-- no attribute: `do 1 file read /a x`
pub attribute_word : in_tree (codes "do 1 file read /a x" ∷ []) ≡ Err (2, TraceKind.Attribute)
unfolding computed
attribute_word = refl

-- the first word that doesn't begin with /: `do 1 task manual_domain_transition <kernel> /a x`
pub attribute_domain : in_tree (codes "do 1 task manual_domain_transition <kernel> /a x" ∷ []) ≡ Err (2, TraceKind.Attribute)
unfolding computed
attribute_domain = refl

-- a preference: `do 1 file execute /a keep exec.realpath="/a" exec.argv="a"`
pub attribute_prefer : in_tree (codes "do 1 file execute /a keep exec.realpath=\"/a\" exec.argv=\"a\"" ∷ []) ≡ Err (2, TraceKind.Attribute)
unfolding computed
attribute_prefer = refl

-- no real path: `do 1 file execute /a exec.argv="a"`
pub attribute_missing : in_tree (codes "do 1 file execute /a exec.argv=\"a\"" ∷ []) ≡ Err (2, TraceKind.Attribute)
unfolding computed
attribute_missing = refl

-- no argument: `do 1 file execute /a exec.realpath="/a"`
pub attribute_argument : in_tree (codes "do 1 file execute /a exec.realpath=\"/a\"" ∷ []) ≡ Err (2, TraceKind.Attribute)
unfolding computed
attribute_argument = refl

-- an execute without attributes: `do 1 file execute /a`
pub attribute_none : in_tree (codes "do 1 file execute /a" ∷ []) ≡ Err (2, TraceKind.Attribute)
unfolding computed
attribute_none = refl

-- a symlink without its target: `do 1 file symlink /a`
pub attribute_target : in_tree (codes "do 1 file symlink /a" ∷ []) ≡ Err (2, TraceKind.Attribute)
unfolding computed
attribute_target = refl

-- a target of another request: `do 1 file read /a symlink.target="b"`
pub attribute_other : in_tree (codes "do 1 file read /a symlink.target=\"b\"" ∷ []) ≡ Err (2, TraceKind.Attribute)
unfolding computed
attribute_other = refl

-- a real path of another request: `do 1 file read /a exec.realpath="/a"`
pub attribute_read : in_tree (codes "do 1 file read /a exec.realpath=\"/a\"" ∷ []) ≡ Err (2, TraceKind.Attribute)
unfolding computed
attribute_read = refl

-- a real path twice: `do 1 file execute /a exec.realpath="/a" exec.realpath="/a" exec.argv="a"`
pub attribute_twice : in_tree (codes "do 1 file execute /a exec.realpath=\"/a\" exec.realpath=\"/a\" exec.argv=\"a\"" ∷ []) ≡ Err (2, TraceKind.Attribute)
unfolding computed
attribute_twice = refl

-- a target twice: `do 1 file symlink /a symlink.target="b" symlink.target="b"`
pub attribute_target_twice : in_tree (codes "do 1 file symlink /a symlink.target=\"b\" symlink.target=\"b\"" ∷ []) ≡ Err (2, TraceKind.Attribute)
unfolding computed
attribute_target_twice = refl

-- a name twice: `do 1 file execute /a exec.realpath="/a" exec.argv="a" exec.envp["A"]="1"
-- exec.envp["A"]="2"`
pub attribute_name_twice : in_tree (codes "do 1 file execute /a exec.realpath=\"/a\" exec.argv=\"a\" exec.envp[\"A\"]=\"1\" exec.envp[\"A\"]=\"2\"" ∷ []) ≡ Err (2, TraceKind.Attribute)
unfolding computed
attribute_name_twice = refl

-- no value: `do 1 file execute /a exec.realpath="/a" exec.argv="a" exec.envp["A"]=NULL`
pub attribute_null : in_tree (codes "do 1 file execute /a exec.realpath=\"/a\" exec.argv=\"a\" exec.envp[\"A\"]=NULL" ∷ []) ≡ Err (2, TraceKind.Attribute)
unfolding computed
attribute_null = refl

-- arguments have no number: `do 1 file execute /a exec.realpath="/a" exec.argv[0]="a"`
pub attribute_numbered : in_tree (codes "do 1 file execute /a exec.realpath=\"/a\" exec.argv[0]=\"a\"" ∷ []) ≡ Err (2, TraceKind.Attribute)
unfolding computed
attribute_numbered = refl

-- no quotes: `do 1 file execute /a exec.realpath=/a exec.argv="a"`
pub attribute_quotes : in_tree (codes "do 1 file execute /a exec.realpath=/a exec.argv=\"a\"" ∷ []) ≡ Err (2, TraceKind.Attribute)
unfolding computed
attribute_quotes = refl

-- no spelled word: `do 1 file execute /a exec.realpath="\*" exec.argv="a"`
pub attribute_spelling : in_tree (codes "do 1 file execute /a exec.realpath=\"\\*\" exec.argv=\"a\"" ∷ []) ≡ Err (2, TraceKind.Attribute)
unfolding computed
attribute_spelling = refl

-- an attribute of the task: `do 1 file read /a task.uid=0`
pub attribute_task : in_tree (codes "do 1 file read /a task.uid=0" ∷ []) ≡ Err (2, TraceKind.Attribute)
unfolding computed
attribute_task = refl

-- a count: `do 1 file execute /a exec.argc=1 exec.realpath="/a" exec.argv="a"`
pub attribute_count : in_tree (codes "do 1 file execute /a exec.argc=1 exec.realpath=\"/a\" exec.argv=\"a\"" ∷ []) ≡ Err (2, TraceKind.Attribute)
unfolding computed
attribute_count = refl

-- no second name: `do 1 file read /a path2.uid=0`
pub attribute_second : in_tree (codes "do 1 file read /a path2.uid=0" ∷ []) ≡ Err (2, TraceKind.Attribute)
unfolding computed
attribute_second = refl

-- no second name: `do 1 file mount /a /b c 0 path2.parent.uid=0`
pub attribute_second_parent : in_tree (codes "do 1 file mount /a /b c 0 path2.parent.uid=0" ∷ []) ≡ Err (2, TraceKind.Attribute)
unfolding computed
attribute_second_parent = refl

-- no file: `do 1 network unix stream bind /a path1.uid=0`
pub attribute_net : in_tree (codes "do 1 network unix stream bind /a path1.uid=0" ∷ []) ≡ Err (2, TraceKind.Attribute)
unfolding computed
attribute_net = refl

-- no !=: `do 1 file read /a path1.uid!=0`
pub attribute_not : in_tree (codes "do 1 file read /a path1.uid!=0" ∷ []) ≡ Err (2, TraceKind.Attribute)
unfolding computed
attribute_not = refl

-- no number: `do 1 file read /a path1.uid=x`
pub attribute_value : in_tree (codes "do 1 file read /a path1.uid=x" ∷ []) ≡ Err (2, TraceKind.Attribute)
unfolding computed
attribute_value = refl

-- no range: `do 1 file read /a path1.uid=0-1`
pub attribute_range : in_tree (codes "do 1 file read /a path1.uid=0-1" ∷ []) ≡ Err (2, TraceKind.Attribute)
unfolding computed
attribute_range = refl

-- below 2^64: `do 1 file read /a path1.uid=18446744073709551616`
pub attribute_big : in_tree (codes "do 1 file read /a path1.uid=18446744073709551616" ∷ []) ≡ Err (2, TraceKind.Attribute)
unfolding computed
attribute_big = refl

-- a stat twice: `do 1 file read /a path1.uid=0 path1.gid=0 path1.uid=0`
pub attribute_again : in_tree (codes "do 1 file read /a path1.uid=0 path1.gid=0 path1.uid=0" ∷ []) ≡ Err (2, TraceKind.Attribute)
unfolding computed
attribute_again = refl

-- no type: `do 1 file read /a path1.type=foo`
pub attribute_type : in_tree (codes "do 1 file read /a path1.type=foo" ∷ []) ≡ Err (2, TraceKind.Attribute)
unfolding computed
attribute_type = refl

-- a type twice: `do 1 file read /a path1.type=file path1.type=fifo`
pub attribute_type_again : in_tree (codes "do 1 file read /a path1.type=file path1.type=fifo" ∷ []) ≡ Err (2, TraceKind.Attribute)
unfolding computed
attribute_type_again = refl

-- a folder has no type: `do 1 file read /a path1.parent.type=directory`
pub attribute_parent_type : in_tree (codes "do 1 file read /a path1.parent.type=directory" ∷ []) ≡ Err (2, TraceKind.Attribute)
unfolding computed
attribute_parent_type = refl

-- a folder has four numbers: `do 1 file read /a path1.parent.major=1`
pub attribute_parent_field : in_tree (codes "do 1 file read /a path1.parent.major=1" ∷ []) ≡ Err (2, TraceKind.Attribute)
unfolding computed
attribute_parent_field = refl

-- no pid: `tree`
pub arity_tree : read (codes "tree" ∷ []) ≡ Err (1, TraceKind.Arity)
unfolding computed
arity_tree = refl

-- no domain: `tree 1`
pub arity_start : read (codes "tree 1" ∷ []) ≡ Err (1, TraceKind.Arity)
unfolding computed
arity_start = refl

-- no pid: `ids`
pub arity_ids : in_tree (codes "ids" ∷ []) ≡ Err (2, TraceKind.Arity)
unfolding computed
arity_ids = refl

-- seven ids: `ids 1 0 0 0 0 0 0 0`
pub arity_few_ids : in_tree (codes "ids 1 0 0 0 0 0 0 0" ∷ []) ≡ Err (2, TraceKind.Arity)
unfolding computed
arity_few_ids = refl

-- nine ids: `ids 1 0 0 0 0 0 0 0 0 0`
pub arity_many_ids : in_tree (codes "ids 1 0 0 0 0 0 0 0 0 0" ∷ []) ≡ Err (2, TraceKind.Arity)
unfolding computed
arity_many_ids = refl

-- no child: `fork 1`
pub arity_fork : in_tree (codes "fork 1" ∷ []) ≡ Err (2, TraceKind.Arity)
unfolding computed
arity_fork = refl

-- an extra word: `fork 1 2 3`
pub arity_more : in_tree (codes "fork 1 2 3" ∷ []) ≡ Err (2, TraceKind.Arity)
unfolding computed
arity_more = refl

-- no pid: `do`
pub arity_do : in_tree (codes "do" ∷ []) ≡ Err (2, TraceKind.Arity)
unfolding computed
arity_do = refl

-- `do 1`
pub arity_request : in_tree (codes "do 1" ∷ []) ≡ Err (2, TraceKind.Arity)
unfolding computed
arity_request = refl

-- `do 1 file`
pub arity_file : in_tree (codes "do 1 file" ∷ []) ≡ Err (2, TraceKind.Arity)
unfolding computed
arity_file = refl

-- `do 1 file read`
pub arity_name : in_tree (codes "do 1 file read" ∷ []) ≡ Err (2, TraceKind.Arity)
unfolding computed
arity_name = refl

-- no number: `do 1 file mkdir /a`
pub arity_number : in_tree (codes "do 1 file mkdir /a" ∷ []) ≡ Err (2, TraceKind.Arity)
unfolding computed
arity_number = refl

-- no family: `do 1 network`
pub arity_network : in_tree (codes "do 1 network" ∷ []) ≡ Err (2, TraceKind.Arity)
unfolding computed
arity_network = refl

-- no kind: `do 1 network inet`
pub arity_kind : in_tree (codes "do 1 network inet" ∷ []) ≡ Err (2, TraceKind.Arity)
unfolding computed
arity_kind = refl

-- no permission: `do 1 network inet raw`
pub arity_permission : in_tree (codes "do 1 network inet raw" ∷ []) ≡ Err (2, TraceKind.Arity)
unfolding computed
arity_permission = refl

-- no port: `do 1 network inet raw bind ::1`
pub arity_port : in_tree (codes "do 1 network inet raw bind ::1" ∷ []) ≡ Err (2, TraceKind.Arity)
unfolding computed
arity_port = refl

-- no name: `do 1 misc env`
pub arity_env : in_tree (codes "do 1 misc env" ∷ []) ≡ Err (2, TraceKind.Arity)
unfolding computed
arity_env = refl

-- no domain: `do 1 task manual_domain_transition`
pub arity_domain : in_tree (codes "do 1 task manual_domain_transition" ∷ []) ≡ Err (2, TraceKind.Arity)
unfolding computed
arity_domain = refl

-- Printed texts

pub printed_nothing : printed_as (text ([])) (read (codes "" ∷ [])) ≡ true
unfolding computed
printed_nothing = refl

pub printed_blank : printed_as (text (codes "tree 7 <kernel>" ∷ [])) (read (codes "" ∷ codes "   " ∷ codes "tree 7 <kernel>" ∷ codes "" ∷ [])) ≡ true
unfolding computed
printed_blank = refl

pub kept_boot : printed_as (text (codes "tree 1 <kernel>" ∷ codes "do 1 file execute /sbin/init exec.realpath=\"/lib/systemd/systemd\" exec.argv=\"init\"" ∷ codes "do 1 file read /etc/ld.so.cache" ∷ codes "tree 2 <kernel>" ∷ codes "do 2 file execute /usr/sbin/sshd exec.realpath=\"/usr/sbin/sshd\" exec.argv=\"sshd\"" ∷ codes "do 2 network inet stream bind 0.0.0.0 22" ∷ codes "fork 2 21" ∷ codes "do 21 file execute /bin/bash exec.realpath=\"/bin/bash\" exec.argv=\"-bash\"" ∷ codes "do 21 misc env HOME" ∷ codes "do 21 file execute /bin/ls exec.realpath=\"/bin/ls\" exec.argv=\"ls\" exec.argv=\"-l\"" ∷ codes "do 21 file getattr /home/" ∷ codes "tree 3 <kernel>" ∷ codes "do 3 file write /dev/tty1" ∷ [])) (read (codes "tree 1 <kernel>" ∷ codes "do 1 file execute /sbin/init exec.realpath=\"/lib/systemd/systemd\" exec.argv=\"init\"" ∷ codes "do 1 file read /etc/ld.so.cache" ∷ codes "tree 2 <kernel>" ∷ codes "do 2 file execute /usr/sbin/sshd exec.realpath=\"/usr/sbin/sshd\" exec.argv=\"sshd\"" ∷ codes "do 2 network inet stream bind 0.0.0.0 22" ∷ codes "fork 2 21" ∷ codes "do 21 file execute /bin/bash exec.realpath=\"/bin/bash\" exec.argv=\"-bash\"" ∷ codes "do 21 misc env HOME" ∷ codes "do 21 file execute /bin/ls exec.realpath=\"/bin/ls\" exec.argv=\"ls\" exec.argv=\"-l\"" ∷ codes "do 21 file getattr /home/" ∷ codes "tree 3 <kernel>" ∷ codes "do 3 file write /dev/tty1" ∷ [])) ≡ true
unfolding computed
kept_boot = refl

pub printed_order : printed_as (text (codes "tree 1 <kernel> /a" ∷ codes "do 1 file rename /a /b path1.uid=1 path1.perm=00 path1.type=file path1.dev_minor=3 path1.parent.gid=7 path2.uid=16 path2.parent.perm=0755" ∷ [])) (read (codes "tree 1 <kernel> /a" ∷ codes "do 1 file rename /a /b path2.parent.perm=0755 path2.uid=0x10 path1.parent.gid=07 path1.dev_minor=3 path1.type=file path1.perm=0 path1.uid=1" ∷ [])) ≡ true
unfolding computed
printed_order = refl

pub printed_exec : printed_as (text (codes "tree 1 </a>" ∷ codes "do 1 file execute /a exec.realpath=\"\" exec.argv=\"x\" exec.argv=\"\" exec.envp[\"B\"]=\"2\" exec.envp[\"\"]=\"\"" ∷ [])) (read (codes "tree 1 </a>" ∷ codes "do 1 file execute /a exec.envp[\"B\"]=\"2\" exec.argv=\"x\" exec.envp[\"\"]=\"\" exec.realpath=\"\" exec.argv=\"\"" ∷ [])) ≡ true
unfolding computed
printed_exec = refl

pub printed_link : printed_as (text (codes "tree 1 <kernel>" ∷ codes "do 1 file symlink /a symlink.target=\"\\040\" path1.parent.ino=18446744073709551615" ∷ [])) (read (codes "tree 1 <kernel>" ∷ codes "do 1 file symlink /a path1.parent.ino=18446744073709551615 symlink.target=\"\\040\"" ∷ [])) ≡ true
unfolding computed
printed_link = refl

pub printed_numbers : printed_as (text (codes "tree 1 <kernel>" ∷ codes "do 1 file mkblock /a 0755 0xF 7" ∷ codes "do 1 file mount a b c 0x0" ∷ codes "do 1 network inet raw send 1::1 017" ∷ [])) (read (codes "tree 1 <kernel>" ∷ codes "do 1 file mkblock /a 00755 0x0F 7" ∷ codes "do 1 file mount a b c 0X0" ∷ codes "do 1 network inet raw send 1::0:0:1 017" ∷ [])) ≡ true
unfolding computed
printed_numbers = refl

pub kept_ids : printed_as (text (codes "tree 4294967295 <kernel>" ∷ codes "ids 4294967295 0 1 2 3 4 5 6 4294967295" ∷ codes "fork 4294967295 5" ∷ codes "ids 5 1 1 1 1 1 1 1 1" ∷ [])) (read (codes "tree 4294967295 <kernel>" ∷ codes "ids 4294967295 0 1 2 3 4 5 6 4294967295" ∷ codes "fork 4294967295 5" ∷ codes "ids 5 1 1 1 1 1 1 1 1" ∷ [])) ≡ true
unfolding computed
kept_ids = refl

pub kept_unix : printed_as (text (codes "tree 1 <kernel>" ∷ codes "do 1 network unix seqpacket listen s" ∷ codes "do 1 misc env @A" ∷ [])) (read (codes "tree 1 <kernel>" ∷ codes "do 1 network unix seqpacket listen s" ∷ codes "do 1 misc env @A" ∷ [])) ≡ true
unfolding computed
kept_unix = refl

pub kept_manual : printed_as (text (codes "tree 1 <kernel>" ∷ codes "do 1 task manual_domain_transition </x> /a /b\\*" ∷ [])) (read (codes "tree 1 <kernel>" ∷ codes "do 1 task manual_domain_transition </x> /a /b\\*" ∷ [])) ≡ true
unfolding computed
kept_manual = refl

-- The lines of trees

pub line_of_a_tree : tree_line_at (text ([] ∷ codes "tree 1 <kernel>" ∷ codes "do 1 file read /a" ∷ [] ∷ codes " tree 2 <kernel>" ∷ [])) 1 ≡ Some 5
unfolding computed tree_line_from tree_line_at
line_of_a_tree = refl

pub no_line_of_a_tree : tree_line_at (text (codes "tree 1 <kernel>" ∷ [])) 1 ≡ None
unfolding computed tree_line_from tree_line_at
no_line_of_a_tree = refl

-- Bounds of requests

-- a request for a symlink whose target is no word of bytes: it can't be asked, since its learned
-- line couldn't be written
abbrev wide : Request
wide = record { args = Args.Path (NameUnion.One (literal (codes "/a"))); perm = 8; attributes = record no_attributes { target = Some (300 ∷ []) } }

pub wide_unasked : is_request is_path wide ≡ false
unfolding computed is_request function_of literal_word
wide_unasked = refl

pub wide_unwritten : is_entry (learned_line wide []) ≡ false
unfolding computed learned_line is_entry is_cond is_clause is_attr is_side is_right is_file is_name is_net
wide_unwritten = refl
