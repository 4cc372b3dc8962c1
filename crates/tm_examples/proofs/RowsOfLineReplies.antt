-- What lines do that are read: the order of their replies, what is deleted and shared, cursors,
-- loads.
use Rattle.std.specs.Prelude.{◌≡◌, ℕ, List, [], ◌∷◌, map, length, Option, Some, None, Result, Ok, Err, codes, refl}
use Rattle.tm_word.specs.Prelude.{Text, literal}
use Rattle.tm_rules.specs.Types.{Domain, EditReply, Entry, FileKind, LineKind, LoadFault, Namespace, Policy}
use Rattle.tm_rules.specs.Prelude.{Cursor, Edited, Grammar, apply_line, edited, load, load_lines}
use Rattle.tm_policy_line.specs.Reading.{read_line}
use Rattle.tm_examples.proofs.Examples.{computed, «<kernel>», kernel_namespace, domain, policy_of, file_line, grammar}
use Rattle.tm_examples.proofs.RowsOfLineFaults.{read}

-- the lines of all four files as they are read
abbrev lines : Grammar
lines = record grammar { read_line = read_line }

-- `<kernel>` in profile 1 with these entries
abbrev kernel_with : List Entry → Policy
kernel_with entries = policy_of kernel_namespace (domain «<kernel>» 1 entries ∷ [])

-- the policy and the cursor after some lines of the domain file
abbrev after_lines : Edited → List Text → Edited
after_lines so_far [] = so_far
after_lines so_far (text ∷ texts) = after_lines (apply_line lines so_far.policy FileKind.Domain so_far.cursor text) texts

abbrev reply_to : Policy → Cursor → Text → EditReply
reply_to policy cursor text = (apply_line lines policy FileKind.Domain cursor text).reply

-- A bad line comes before a domain that isn't chosen, that before a profile that isn't there, or a
-- line that isn't

without_a_domain : map (reply_to (kernel_with []) None) (codes "use_profile 300" ∷ codes "use_profile 9" ∷ codes "delete use_group 9" ∷ codes "delete file read /a" ∷ codes "delete file reed /a" ∷ []) ≡ EditReply.BadLine LineKind.Number ∷ EditReply.NoDomain ∷ EditReply.NoDomain ∷ EditReply.NoDomain ∷ EditReply.BadLine LineKind.Keyword ∷ []
unfolding computed read
without_a_domain = refl

with_a_domain : map (reply_to (kernel_with []) (Some 0)) (codes "use_profile 300" ∷ codes "use_profile 9" ∷ codes "use_profile 2" ∷ codes "delete use_group 9" ∷ codes "delete file read /a" ∷ codes "delete <kernel> /a" ∷ []) ≡ EditReply.BadLine LineKind.Number ∷ EditReply.NoProfile ∷ EditReply.Done ∷ EditReply.NoSuchLine ∷ EditReply.NoSuchLine ∷ EditReply.NoSuchLine ∷ []
unfolding computed read
with_a_domain = refl

-- A deleted ACL line takes away what stands of its permissions, and finds nothing only where none
-- stands

abbrev own_entries : List Domain → List Entry
own_entries [] = []
own_entries (one ∷ rest) = one.entries

-- the entries of `<kernel>` after these lines
abbrev entries_after : List Text → List Entry
entries_after texts = own_entries (after_lines (edited (kernel_with []) (Some 0)) texts).policy.domains

-- the reply to a line after others
abbrev reply_after : List Text → Text → EditReply
reply_after texts text = let so_far : Edited = after_lines (edited (kernel_with []) (Some 0)) texts in reply_to so_far.policy so_far.cursor text

some_permissions : map (reply_after (codes "file read/write /a" ∷ [])) (codes "delete file read/append /a" ∷ codes "delete file append /a" ∷ codes "delete file read/write /b" ∷ []) ≡ EditReply.Done ∷ EditReply.NoSuchLine ∷ EditReply.NoSuchLine ∷ []
unfolding computed read
some_permissions = refl

what_stays : map entries_after ((codes "file read/write /a" ∷ codes "delete file read/append /a" ∷ []) ∷ (codes "file read/write /a" ∷ codes "delete file write/read/append /a" ∷ []) ∷ []) ≡ (file_line 4 (literal (codes "/a")) ∷ []) ∷ [] ∷ []
unfolding computed read
what_stays = refl

-- Equal conditions are equal lists of clauses, wherever the log stands; no log is not `no`

abbrev count_after : List Text → ℕ
count_after texts = length (entries_after texts)

shared_entries : map count_after ((codes "file read /a task.uid=0 task.gid=0" ∷ codes "file write /a task.gid=0 task.uid=0" ∷ []) ∷ (codes "file read /a task.uid=0 grant_log=yes" ∷ codes "file write /a grant_log=yes task.uid=0" ∷ []) ∷ (codes "file read /a grant_log=no" ∷ codes "file write /a" ∷ []) ∷ (codes "file mkdir /a 0" ∷ codes "file rmdir /a" ∷ codes "file mkfifo /a 0" ∷ codes "file mkfifo /a 00" ∷ []) ∷ []) ≡ 2 ∷ 1 ∷ 2 ∷ 3 ∷ []
unfolding computed read
shared_entries = refl

-- Cursors

-- `<kernel>`, and a live domain that is chosen by two
abbrev two_domains : Policy
two_domains = policy_of kernel_namespace (domain «<kernel>» 1 [] ∷ domain (codes "<kernel> /a") 1 [] ∷ [])

abbrev cursor_after : Cursor → Text → Cursor
cursor_after cursor text = (apply_line lines two_domains FileKind.Domain cursor text).cursor

-- deleting a domain empties the cursor, deleting none leaves it; a `select` that finds none empties
-- it too
cursors : map (cursor_after (Some 1)) (codes "delete <kernel> /a" ∷ codes "delete <kernel> /b" ∷ codes "select <kernel> /b" ∷ codes "select <kernel>" ∷ codes "select <kern" ∷ []) ≡ None ∷ Some 1 ∷ None ∷ Some 0 ∷ Some 1 ∷ []
unfolding computed read
cursors = refl

-- another cursor keeps the dead domain's number, also where a new one has taken its name
abbrev taken : Edited
taken = after_lines (edited two_domains (Some 1)) (codes "delete <kernel> /a" ∷ codes "<kernel> /a" ∷ [])

new_number : taken.cursor ≡ Some 2
unfolding computed read
new_number = refl

dead_and_new : map (λ cursor. reply_to taken.policy cursor (codes "file read /x")) (Some 1 ∷ Some 2 ∷ []) ≡ EditReply.NoDomain ∷ EditReply.Done ∷ []
unfolding computed read
dead_and_new = refl

-- Profiles

-- how many profiles the namespaces have after a profile line
abbrev profiles_of : List Namespace → List ℕ
profiles_of spaces = map (λ (ns : Namespace). length ns.profiles) spaces

abbrev profiles_after : Text → List ℕ
profiles_after text = profiles_of (apply_line lines (kernel_with []) FileKind.Profile None text).policy.namespaces

-- a version defines no profile, every line with a number does
defined_profiles : map profiles_after (codes "PROFILE_VERSION=20150505" ∷ codes "</s> PROFILE_VERSION=20150505" ∷ codes "</s> 3-CONFIG::file=use_default" ∷ codes "3-PREFERENCE={ }" ∷ codes "1-COMMENT=" ∷ []) ≡ (4 ∷ []) ∷ (4 ∷ 0 ∷ []) ∷ (4 ∷ 1 ∷ []) ∷ (5 ∷ []) ∷ (4 ∷ []) ∷ []
unfolding computed read
defined_profiles = refl

-- Loads

-- the reply to a load's domain file, with profile 0 of `<kernel>` and profile 1 of `</s>`
abbrev loaded : Text → Result Policy LoadFault
loaded text = load lines (record { profile = codes "0-COMMENT=\n</s> 1-COMMENT=\n"; exception = []; domain = text; manager = [] })

abbrev load_fault : Result Policy LoadFault → Option LoadFault
load_fault (Ok policy) = None
load_fault (Err wrong) = Some wrong

-- a profile that isn't there is refused at its line; a domain whose profile isn't there only at the
-- end
loads : map (λ text. load_fault (loaded text)) (codes "<kernel>\nuse_profile 1\n" ∷ codes "</s>\nuse_profile 1\n" ∷ codes "</s>\n<kernel>\n" ∷ codes "</s>\nuse_profile 0\n" ∷ codes "use_profile 0\n" ∷ codes "use_profile 256" ∷ []) ≡ Some (LoadFault.Line FileKind.Domain 2 EditReply.NoProfile) ∷ None ∷ Some (LoadFault.UndefinedProfile 1) ∷ Some (LoadFault.Line FileKind.Domain 2 EditReply.NoProfile) ∷ Some (LoadFault.Line FileKind.Domain 1 EditReply.NoDomain) ∷ Some (LoadFault.Line FileKind.Domain 1 (EditReply.BadLine LineKind.Number)) ∷ []
unfolding computed read load_lines load
loads = refl
