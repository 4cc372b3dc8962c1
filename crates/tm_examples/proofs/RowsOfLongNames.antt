-- A name of more than 4,085 bytes is a wrong domain name wherever one stands: in scripts, traces
-- and policy lines.
use Rattle.std.specs.Prelude.{◌≡◌, ℕ, ◌==◌, nat_le, Bool, true, false, cond, List, [], ◌∷◌, length, replicate, Option, Some, None, Result, Ok, Err, codes, refl}
use Rattle.std.specs.List.{slice_split}
use Rattle.tm_word.specs.Prelude.{Text, head_of, joined, spelled_word, word_of}
use Rattle.tm_number.specs.Numbers.{number_of, value_of, plain_of}
use Rattle.tm_rules.specs.Types.{FileKind, LineKind, ScriptKind, TraceKind}
use Rattle.tm_rules.specs.Prelude.{is_namespace_word}
use Rattle.tm_domain.specs.declared.DomainFault.{DomainFault}
use Rattle.tm_domain.specs.declared.DomainFault.TheVariants.{NoNamespace}
use Rattle.tm_domain.specs.Names.{is_path, bad_path, paths_or_fault, domain_of, is_read}
use Rattle.tm_domain.specs.Names.{domain_at as name_at}
use Rattle.tm_line.specs.Arguments.{kinded, plain_word}
use Rattle.tm_line.specs.Domains.{domain_words, domain_at, domain_to_end}
use Rattle.tm_line.specs.Namespaces.{namespace_at}
use Rattle.tm_file.specs.Preferences.{prefer_at}
use Rattle.tm_net.specs.NetLines.{task_line, net_line}
use Rattle.tm_except.specs.Reading.{program_word, domain_side, from_side, program_line, keep_line, control_word, head_of as line_head_of, rule_at, named_line}
use Rattle.tm_except.specs.Reading.{line_of as except_of}
use Rattle.tm_script.specs.Steps.{number_at}
use Rattle.tm_script.specs.Edits.{exe_word, domain_rest, editor_of}
use Rattle.tm_trace.specs.Processes.{pid_word}
use Rattle.tm_trace.specs.Trees.{no_trees}
use Rattle.tm_trace.specs.Requests.{task_request, request_line}
use Rattle.tm_trace.specs.Reading.{new_at, tree_line, request_at}
use Rattle.tm_policy_line.specs.Reading.{domain_rule, delete_rule, manager_rule, manager_of, read_words}

-- more than 4,085 bytes
abbrev IsLong : Text → Type 0
IsLong text = nat_le (length text) 4085 ≡ false

-- no long text is a domain name

not_short : (text : Text) → IsLong text → (o : Option ℕ) → is_read (paths_or_fault o text) ≡ false
not_short text long (Some n) = refl
not_short text long None = rw long refl

not_named : (text : Text) → IsLong text → (words : List Text) → is_read (name_at words text) ≡ false
not_named text long [] = refl
not_named text long (first ∷ paths) = by_first (is_namespace_word is_path first)
  where
    by_first : (b : Bool) → is_read (cond b (paths_or_fault (bad_path 1 paths) text) (Err NoNamespace)) ≡ false
    by_first true = not_short text long (bad_path 1 paths)
    by_first false = refl

not_read : (text : Text) → IsLong text → is_read (domain_of text) ≡ false
unfolding domain_of
not_read text long = not_named text long (slice_split (λ b. b == 32) text)

line_kind : (r : Result Text DomainFault) → is_read r ≡ false → kinded LineKind.Domain r ≡ Err LineKind.Domain
line_kind (Ok name) e = absurd cc
line_kind (Err fault) e = refl

wrong_words : (words : List Text) → IsLong (joined words) → domain_words words ≡ Err LineKind.Domain
unfolding domain_words
wrong_words words long = line_kind (domain_of (joined words)) (not_read (joined words) long)

-- A name of two words, the second of which begins with `/`

abbrev named : Text → List Text
named path = codes "<kernel>" ∷ (47 ∷ path) ∷ []

-- with 4,075 bytes after that `/` it isn't long, with one more it is
longest : nat_le (length (joined (named (replicate 4075 97)))) 4085 ≡ true
longest = refl

too_long : IsLong (joined (named (replicate 4076 97)))
too_long = refl

-- Where it stands, whatever the path is

in_domain_lines : (path : Text) → IsLong (joined (named path)) → (read_words FileKind.Domain (named path) ≡ Err LineKind.Domain) × (read_words FileKind.Domain (codes "select" ∷ named path) ≡ Err LineKind.Domain) × (read_words FileKind.Domain (codes "delete" ∷ named path) ≡ Err LineKind.Domain)
unfolding read_words domain_rule delete_rule domain_to_end
in_domain_lines path long = let wrong : domain_words (named path) ≡ Err LineKind.Domain = wrong_words (named path) long in (rw wrong refl, rw wrong refl, rw wrong refl)

in_manager_lines : (path : Text) → IsLong (joined (named path)) → (read_words FileKind.Manager (named path) ≡ Err LineKind.Domain) × (read_words FileKind.Manager (codes "delete" ∷ named path) ≡ Err LineKind.Domain)
unfolding read_words manager_of manager_rule domain_to_end
in_manager_lines path long = let wrong : domain_words (named path) ≡ Err LineKind.Domain = wrong_words (named path) long in (rw wrong refl, rw wrong refl)

in_manual_lines : (path : Text) → IsLong (joined (named path)) → net_line (codes "task" ∷ codes "manual_domain_transition" ∷ named path) ≡ Err LineKind.Domain
unfolding net_line task_line domain_at
in_manual_lines path long = rw (wrong_words (named path) long) refl

in_preferences : (path : Text) → IsLong (joined (named path)) → prefer_at (named path) ≡ Err LineKind.Domain
unfolding prefer_at domain_at
in_preferences path long = rw (wrong_words (named path) long) refl

in_controls : (path : Text) → IsLong (joined (named path)) → (except_of (codes "keep_domain" ∷ named path) ≡ Err LineKind.Domain) × (except_of (codes "initialize_domain" ∷ codes "any" ∷ codes "from" ∷ named path) ≡ Err LineKind.Domain)
unfolding except_of named_line namespace_at rule_at line_head_of control_word keep_line program_line program_word from_side domain_side domain_to_end
in_controls path long = let wrong : domain_words (named path) ≡ Err LineKind.Domain = wrong_words (named path) long in (rw wrong refl, rw wrong refl)

in_trees : (path : Text) → IsLong (joined (named path)) → tree_line no_trees (codes "1" ∷ named path) ≡ Err TraceKind.NoDomain
unfolding tree_line new_at pid_word plain_word plain_of number_of value_of domain_to_end
in_trees path long = rw (wrong_words (named path) long) refl

in_requests : (path : Text) → IsLong (joined (named path)) → request_at (codes "task" ∷ codes "manual_domain_transition" ∷ named path) ≡ Err TraceKind.Request
unfolding request_at request_line task_request domain_at
in_requests path long = rw (wrong_words (named path) long) refl

in_editors : (path : Text) → IsLong (joined (named path)) → editor_of (codes "0" ∷ codes "0" ∷ codes "/a" ∷ named path) ≡ Err ScriptKind.Domain
unfolding editor_of number_at plain_of number_of value_of exe_word spelled_word word_of head_of domain_rest
in_editors path long = rw (wrong_words (named path) long) refl
