-- Small policies and requests, with just enough of the grammars to play them.
use Rattle.std.specs.Prelude.{ℕ, ◌^◌, Bool, true, false, List, [], ◌∷◌, ◌++◌, map, flat_map, Some, None, Ok, Err, Result, ◌==◌, codes, unwrap_or, option_map}
use Rattle.std.specs.List.{find}
use Rattle.std.specs.Fmt.{digits}
use Rattle.tm_word.specs.Prelude.{Pattern, Text, component_matches, components_match, left_by, literal, literal_word, matches, part_matches, spelled_pattern, texts_equal, words_of}
use Rattle.tm_rules.specs.Types.{Args, Attr, Clause, Cond, Domain, DomainRule, Entry, FileKind, Groups, Ids, Item, LineKind, Mode, NameUnion, Namespace, Policy, PolicyLine, Proc, Profile, Request, Right, Tree, function_of, no_attributes}
use Rattle.tm_rules.specs.Prelude.{Grammar, adding, addr_in, aggregated, answer, answer_of, apply_line, apply_read, args_grant, ask, attach, audit_text, book_answer, can_enter, candidate, clause_holds, config_of, control_kind, control_matches, count, decision, deleting, detach, domain_line, entries_of, except_added, except_line, except_removed, except_there, fail, first, first_query, grants, has_line, has_part, holds, is_clean, is_domain_name, is_manager, is_plain, is_quiet, learn, learn_reply, learned_line, live_domain, make, manager_line, name_in, namespace_named, number_in, number_of, profile_line, target_name, word_of, written_name}
use Rattle.tm_legal.specs.Prelude.{after, apply, by_mode, cases_from, desk_turn, edit_step, end_tree, event, execute_verdict, first_look, line_event, look_at, manual_verdict, move_to, player_event, rounds, settle, stage_event, steps_asked, supervisor_step, switched, tree_cases, tree_event, turn, turns, verdict}

-- all definitions that are shut elsewhere, opened by naming this one
unfoldable pub computed : Unit {0}
unfolding lib.Count.ones digits literal spelled_pattern words_of literal_word left_by part_matches component_matches components_match matches name_in number_in addr_in number_of word_of clause_holds holds function_of config_of namespace_named live_domain adding deleting has_line has_part aggregated args_grant grants entries_of first written_name candidate control_matches control_kind decision target_name is_domain_name can_enter learned_line by_mode move_to manual_verdict execute_verdict verdict profile_line except_added except_removed except_there except_line domain_line manager_line apply_read apply_line count learn_reply learn make fail is_manager first_query answer_of ask answer attach detach edit_step apply after book_answer audit_text tree_cases cases_from steps_asked is_plain is_quiet is_clean switched settle look_at end_tree first_look stage_event tree_event line_event desk_turn supervisor_step player_event event turn turns rounds
computed = tt

-- The policy P: profile 1 enforcing with both logs, 0 disabled, 2 learning, 4 permissive without

abbrev pub profile : Mode → Bool → Profile
profile mode log = record { comment = []; max_audit_log = 1024; max_learning_entry = 2048; config = record { mode = mode; logs = record { grant = log; reject = log } }; slots = [] }

abbrev pub no_groups : Groups
no_groups = record { paths = []; numbers = []; addrs = [] }

abbrev pub profiles : List (ℕ × Profile)
profiles = (0, profile Mode.Disabled false) ∷ (1, profile Mode.Enforcing true) ∷ (2, profile Mode.Learning false) ∷ (4, profile Mode.Permissive false) ∷ []

abbrev pub «<kernel>» : Text
«<kernel>» = codes "<kernel>"

abbrev pub kernel_namespace : Namespace
kernel_namespace = record { name = «<kernel>»; profiles = profiles; groups = no_groups; aggregators = []; controls = []; acl_groups = [] }

abbrev pub domain : Text → ℕ → List Entry → Domain
domain name n entries = record { name = name; live = true; profile = n; groups = []; quota_exceeded = false; transition_failed = false; entries = entries }

abbrev pub policy_of : Namespace → List Domain → Policy
policy_of ns domains = record { namespaces = ns ∷ []; domains = domains; by_non_root = false; managers = codes "/usr/sbin/admin" ∷ []; opened = true }

-- Lines and requests

abbrev pub plain_cond : Cond
plain_cond = record { clauses = []; grant_log = None }

abbrev pub file_line : ℕ → Pattern → Entry
file_line perms name = record { args = Args.Path (NameUnion.One name); perms = record { bits = perms }; cond = plain_cond }

abbrev pub file_request : ℕ → Text → Request
file_request perm name = record { args = Args.Path (NameUnion.One (literal name)); perm = perm; attributes = no_attributes }

abbrev pub read : Text → Request
read name = file_request 1 name

abbrev pub execute : Text → Text → Text → Request
execute name real argument = record { args = Args.Path (NameUnion.One (literal name)); perm = 0; attributes = record no_attributes { real_path = Some real; argv = argument ∷ [] } }

abbrev pub no_ids : Ids
no_ids = record { uid = 0; euid = 0; suid = 0; fsuid = 0; gid = 0; egid = 0; sgid = 0; fsgid = 0 }

abbrev pub process : ℕ → Proc
process pid = record { pid = pid; ppid = 0; ids = no_ids }

abbrev pub tree : ℕ → List Request → Tree
tree pid requests = record { start = «<kernel>»; pid = pid; records = map (λ r. Item.Do pid r) requests }

-- Enough of the grammars: file lines with one or more of the permissions, and the lines that the
-- rows' editors give

abbrev pub permission_words : List (ℕ × Text)
permission_words = (1, codes "execute") ∷ (2, codes "read") ∷ (4, codes "write") ∷ (32, codes "getattr") ∷ []

abbrev pub attr_text : Attr → Text
attr_text Attr.RealPath = codes "exec.realpath"
attr_text (Attr.Argv n) = codes "exec.argv[0]"
attr_text _ = []

abbrev pub name_text : NameUnion → Text
name_text (NameUnion.One pattern_) = spelled_pattern pattern_
name_text (NameUnion.Group group) = 64 ∷ group

abbrev pub clause_text : Clause → Text
clause_text clause = go clause.right
  where
    go : Right → Text
    go (Right.Name name) = 32 ∷ attr_text clause.left ++ 61 ∷ 34 ∷ name_text name ++ 34 ∷ []
    go _ = []

abbrev pub print_entry : Entry → Text
print_entry entry = go entry.args
  where
    go : Args → Text
    go (Args.Path name) =
        codes "file " ++ unwrap_or (option_map (λ pair. pair.1) (find (λ pair. pair.0 == entry.perms.bits) permission_words)) [] ++ 32 ∷ name_text name ++ flat_map clause_text entry.cond.clauses
    go _ = []

abbrev pub begins_with_slash : Text → Bool
begins_with_slash [] = false
begins_with_slash (b ∷ bs) = b == 47

abbrev pub known_lines : List (Text × PolicyLine)
known_lines =
    (codes "select <kernel>", PolicyLine.Domain (DomainRule.Select «<kernel>»))
    ∷ (codes "use_profile 1", PolicyLine.Domain (DomainRule.UseProfile 1))
    ∷ (codes "file read /x", PolicyLine.Domain (DomainRule.Acl false (file_line 2 (literal (codes "/x")))))
    ∷ (codes "delete <kernel> /s", PolicyLine.Domain (DomainRule.Delete (codes "<kernel> /s")))
    ∷ []

abbrev pub read_line : FileKind → Text → Result PolicyLine LineKind
read_line file line = elim (find (λ pair. texts_equal pair.0 line) known_lines) [ Some pair ↦ Ok pair.1 | None ↦ Err LineKind.Keyword ]

abbrev pub print_request : Request → Text
print_request request = print_entry (record { args = request.args; perms = record { bits = 2 ^ request.perm }; cond = plain_cond })

abbrev pub grammar : Grammar
grammar =
    record {
      read_line = read_line;
      is_path = begins_with_slash;
      print_entry = print_entry;
      can_write = λ entry. true;
      print_request = print_request;
      print_attributes = λ request. [];
    }
