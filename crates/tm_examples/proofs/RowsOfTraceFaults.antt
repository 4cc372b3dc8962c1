-- Traces whose first wrong word is not their only one, and words that are right next to wrong ones.
use Rattle.std.specs.Prelude.{◌≡◌, ℕ, Bool, true, false, List, [], ◌∷◌, ◌++◌, map, flat_map, Option, Some, None, Result, Ok, Err, codes, refl}
use Rattle.std.specs.Fmt.{digits}
use Rattle.tm_word.specs.Prelude.{Text, head_of, literal, spelled_pattern, spelled_word, texts_equal, word_of, words_of}
use Rattle.tm_number.specs.Numbers.{number_of, value_of, plain_of}
use Rattle.tm_addr.specs.Reading.{addr_of, v4_of, quad_of, v6_of, side_of, groups_after, last_of, group_of}
use Rattle.tm_addr.specs.Printing.{v4_spelling, v6_spelling, groups_in, longest}
use Rattle.tm_pattern.specs.Tokens.{token_at}
use Rattle.tm_pattern.specs.Reading.{step, ended, parsed, pattern_of}
use Rattle.tm_rules.specs.Types.{TraceKind}
use Rattle.tm_rules.specs.Prelude.{Trace}
use Rattle.tm_domain.specs.Names.{is_path, domain_of}
use Rattle.tm_line.specs.Permissions.{perm_on}
use Rattle.tm_line.specs.Arguments.{group_word, plain_word}
use Rattle.tm_line.specs.Domains.{domain_words, domain_at, domain_to_end}
use Rattle.tm_line.specs.Printing.{name_spelling, number_spelling, address_spelling}
use Rattle.tm_file.specs.FileLines.{row_of, file_words}
use Rattle.tm_net.specs.NetLines.{net_words}
use Rattle.tm_entry.specs.Entries.{acl_words}
use Rattle.tm_cond.specs.Attributes.{without_last, id_word, field_word, parent_word, kind_word, attr_text, numeric_word, other_word, argv_word, envp_word, attr_word}
use Rattle.tm_trace.specs.Requests.{place_in, literal_name, path_name, single_number, single_address, env_name, args_at, mount_at, file_request, inet_request, unix_request, network_request, misc_request, task_request, request_line}
use Rattle.tm_trace.specs.Attributes.{put_stat, quoted_word, value_word, with_argument, with_real_path, with_name, with_target, with_stat, with_attribute, with_sides, with_word, attributes_from}
use Rattle.tm_trace.specs.Processes.{pid_word, id_at, ids_to_end}
use Rattle.tm_trace.specs.Reading.{new_at, process_at, request_at, request_of, tree_line, ids_line, fork_line, do_line, line_at, trace_from, trace_of}
use Rattle.tm_trace.specs.Printing.{attribute_words, request_words, item_words, tree_words, trace_text}

-- the definitions that a trace's reading and printing go through
unfoldable read : Unit {0}
unfolding digits words_of literal spelled_pattern number_of value_of addr_of v4_of quad_of plain_of v6_of side_of groups_after last_of group_of v4_spelling v6_spelling groups_in longest token_at step ended parsed pattern_of spelled_word word_of head_of is_path domain_of perm_on group_word plain_word domain_words domain_at domain_to_end name_spelling number_spelling address_spelling row_of file_words net_words acl_words without_last id_word field_word parent_word kind_word attr_text numeric_word other_word argv_word envp_word attr_word place_in literal_name path_name single_number single_address env_name args_at mount_at file_request inet_request unix_request network_request misc_request task_request request_line put_stat quoted_word value_word with_argument with_real_path with_name with_target with_stat with_attribute with_sides with_word attributes_from pid_word id_at ids_to_end new_at process_at request_at request_of tree_line ids_line fork_line do_line line_at trace_from trace_of attribute_words request_words item_words tree_words trace_text
read = tt

-- the text of a first tree and these lines
abbrev text : List Text → Text
text lines = codes "tree 1 <kernel>\n" ++ flat_map (λ line. line ++ 10 ∷ []) lines

-- what is read is printed as this text
abbrev printed_as : Text → Result Trace (ℕ × TraceKind) → Bool
printed_as wanted (Ok trace) = texts_equal (trace_text trace) wanted
printed_as wanted (Err fault) = false

-- these lines after a first tree are right, and printed as they are
abbrev kept : List Text → Bool
kept lines = printed_as (text lines) (trace_of (text lines))

-- the fault of lines after a first tree, none where they are read; that of one such line
abbrev fault : Result Trace (ℕ × TraceKind) → Option (ℕ × TraceKind)
fault (Ok trace) = None
fault (Err e) = Some e

abbrev faults : List Text → List (Option (ℕ × TraceKind))
faults lines = map (λ line. fault (trace_of (text (line ∷ [])))) lines

-- Of several wrong words of a line the first decides, and what is missing comes last

trees_first_wrong_word : faults (codes "trees 0 kernel" ∷ codes "tree 0 kernel" ∷ codes "tree 1 kernel" ∷ codes "tree 2 kernel" ∷ codes "tree 2 <kernel> x" ∷ []) ≡ Some (2, TraceKind.Keyword) ∷ Some (2, TraceKind.Number) ∷ Some (2, TraceKind.KnownProcess) ∷ Some (2, TraceKind.NoDomain) ∷ Some (2, TraceKind.NoDomain) ∷ []
unfolding read
trees_first_wrong_word = refl

ids_first_wrong_word : faults (codes "ids 0 x" ∷ codes "ids 2 x" ∷ codes "ids 1 x" ∷ codes "ids 1 0 0 0 0 0 0 0 x x" ∷ codes "ids 1 0 0 0 0 0 0 0 0 x" ∷ []) ≡ Some (2, TraceKind.Number) ∷ Some (2, TraceKind.NoProcess) ∷ Some (2, TraceKind.Number) ∷ Some (2, TraceKind.Number) ∷ Some (2, TraceKind.Arity) ∷ []
unfolding read
ids_first_wrong_word = refl

forks_first_wrong_word : faults (codes "fork x 1 x" ∷ codes "fork 2 1 x" ∷ codes "fork 1 x x" ∷ codes "fork 1 1 x" ∷ codes "fork 1 2 x" ∷ []) ≡ Some (2, TraceKind.Number) ∷ Some (2, TraceKind.NoProcess) ∷ Some (2, TraceKind.Number) ∷ Some (2, TraceKind.KnownProcess) ∷ Some (2, TraceKind.Arity) ∷ []
unfolding read
forks_first_wrong_word = refl

requests_first_wrong_word : faults (codes "do x foo" ∷ codes "do 2 foo" ∷ codes "do 1 foo" ∷ codes "do 1 file execute a x" ∷ codes "do 1 file execute /a x" ∷ codes "do 1 file mkdir @d" ∷ codes "do 1 file mkdir /d" ∷ codes "do 1 file mkdir /d 5-5 x" ∷ []) ≡ Some (2, TraceKind.Number) ∷ Some (2, TraceKind.NoProcess) ∷ Some (2, TraceKind.Request) ∷ Some (2, TraceKind.Request) ∷ Some (2, TraceKind.Attribute) ∷ Some (2, TraceKind.Request) ∷ Some (2, TraceKind.Arity) ∷ Some (2, TraceKind.Request) ∷ []
unfolding read
requests_first_wrong_word = refl

-- of several wrong lines the first decides; empty lines count
first_wrong_line : fault (trace_of (text ([] ∷ codes "fork 1 2" ∷ codes "do 3 file read /a" ∷ codes "foo" ∷ []))) ≡ Some (4, TraceKind.NoProcess)
unfolding read
first_wrong_line = refl

-- a wrong word of a tree's domain before those of later lines, and a request before any tree before
-- its own wrong words
no_tree_and_no_domain : map (λ lines. fault (trace_of lines)) (codes "do 0 foo" ∷ codes "tree 1 <kern\ndo 0 foo" ∷ codes "dos" ∷ []) ≡ Some (1, TraceKind.NoTree) ∷ Some (1, TraceKind.NoDomain) ∷ Some (1, TraceKind.Keyword) ∷ []
unfolding read
no_tree_and_no_domain = refl

-- Attributes

-- what every request for a file may have, of its first name and of the folder of that
first_names : kept (codes "do 1 file read /a path1.uid=1 path1.parent.gid=2" ∷ codes "do 1 file chmod /a 0755 path1.perm=0644 path1.parent.perm=0755" ∷ codes "do 1 file mkchar /a 0644 1 3 path1.ino=7 path1.type=char path1.parent.ino=8" ∷ codes "do 1 file mount /dev/sda1 /mnt ext4 0 path1.type=block path1.major=8 path1.parent.uid=0" ∷ codes "do 1 file execute /a exec.realpath=\"/a\" exec.argv=\"a\" path1.dev_major=1 path1.parent.uid=0" ∷ codes "do 1 file symlink /a symlink.target=\"b\" path1.minor=1 path1.parent.uid=0" ∷ []) ≡ true
unfolding read
first_names = refl

-- requests with two names have those of the second, too
second_names : kept (codes "do 1 file link /a /b path1.uid=1 path1.parent.uid=2 path2.uid=3 path2.parent.uid=4" ∷ codes "do 1 file rename /a /b path2.type=file path2.parent.ino=4" ∷ codes "do 1 file pivot_root /a /b path2.dev_minor=3 path2.parent.gid=4" ∷ []) ≡ true
unfolding read
second_names = refl

-- other requests have none
no_names : faults (codes "do 1 network inet stream bind ::1 80 path1.uid=0" ∷ codes "do 1 network unix stream bind /a path1.parent.uid=0" ∷ codes "do 1 misc env A path1.uid=0" ∷ codes "do 1 task manual_domain_transition <kernel> path1.uid=0" ∷ codes "do 1 file mkdir /a 0 path2.uid=0" ∷ codes "do 1 file execute /a exec.realpath=\"/a\" exec.argv=\"a\" path2.parent.uid=0" ∷ []) ≡ Some (2, TraceKind.Attribute) ∷ Some (2, TraceKind.Attribute) ∷ Some (2, TraceKind.Attribute) ∷ Some (2, TraceKind.Attribute) ∷ Some (2, TraceKind.Attribute) ∷ Some (2, TraceKind.Attribute) ∷ []
unfolding read
no_names = refl

-- a word is cut at its first `=`: the word after it may have more of them, the name before it has
-- none
environment : kept (codes "do 1 file execute /a exec.realpath=\"/a=b\" exec.argv=\"a=b\" exec.envp[\"A\"]=\"b=c\" exec.envp[\"B\"\"]=\"\"\"" ∷ []) ≡ true
unfolding read
environment = refl

environment_names : faults (codes "do 1 file execute /a exec.realpath=\"/a\" exec.argv=\"a\" exec.envp[\"A=B\"]=\"c\"" ∷ codes "do 1 file execute /a exec.realpath=\"/a\" exec.argv=\"a\" exec.envp[A]=\"c\"" ∷ codes "do 1 file execute /a exec.realpath=\"/a\" exec.argv=\"a\" exec.envp[\"\\q\"]=\"c\"" ∷ []) ≡ Some (2, TraceKind.Attribute) ∷ Some (2, TraceKind.Attribute) ∷ Some (2, TraceKind.Attribute) ∷ []
unfolding read
environment_names = refl

-- an argument and an environment name once each, an argument once per argument; a real path and a
-- target once
repeated_words : faults (codes "do 1 file execute /a exec.realpath=\"/a\" exec.argv=\"a\" exec.argv=\"a\" exec.envp[\"A\"]=\"b\" exec.envp[\"B\"]=\"b\"" ∷ codes "do 1 file execute /a exec.realpath=\"/a\" exec.argv=\"a\" exec.realpath=\"/b\"" ∷ codes "do 1 file symlink /a symlink.target=\"b\" symlink.target=\"c\"" ∷ []) ≡ None ∷ Some (2, TraceKind.Attribute) ∷ Some (2, TraceKind.Attribute) ∷ []
unfolding read
repeated_words = refl

-- Requests

-- a name of the environment may begin with `@`; other names don't
at_signs : faults (codes "do 1 misc env @A" ∷ codes "do 1 network unix dgram send @A" ∷ codes "do 1 file mount /a /b @t 0" ∷ []) ≡ None ∷ Some (2, TraceKind.Request) ∷ Some (2, TraceKind.Request) ∷ []
unfolding read
at_signs = refl

-- a manual request takes the words that begin with `/`; the first that doesn't is judged as an
-- attribute
manual_words : faults (codes "do 1 task manual_domain_transition <kernel> /a /\\*" ∷ codes "do 1 task manual_domain_transition <kern /a" ∷ codes "do 1 task manual_domain_transition <kernel> /a /\\q x" ∷ codes "do 1 task manual_domain_transition <kernel> x /\\q" ∷ []) ≡ None ∷ Some (2, TraceKind.Request) ∷ Some (2, TraceKind.Request) ∷ Some (2, TraceKind.Attribute) ∷ []
unfolding read
manual_words = refl
