-- Plain policies, quiet edits and clean runs.
use Rattle.std.specs.Prelude.{ℕ, Bool, true, false, ◌&&◌, ◌||◌, not, List, [], ◌∷◌, Option, Some, None, if◌then◌else◌, ◌==◌, codes}
use Rattle.std.specs.List.{list_any, list_all, slice_split}
use Rattle.tm_types.specs.Words.{Text}
use Rattle.tm_rules.specs.Types.{Args, Attr, Clause, Domain, DomainRule, EditReply, Entry, FileKind, LearnReply, Look, Mode, Namespace, Policy, PolicyLine, Reason, Reply, Run, Step, Take}
use Rattle.tm_types.specs.WordTexts.{texts_equal, begins_with_byte}
use Rattle.tm_types.specs.Spelling.{words_of}
use Rattle.tm_rules.specs.Policy.{has_permission}

-- Plain

-- the clauses that a learned line of an execute has: on `exec.realpath` and `exec.argv[0]`
abbrev pub is_plain_clause : Clause → Bool
is_plain_clause clause = go clause.left
  where
    go : Attr → Bool
    go Attr.RealPath = true
    go (Attr.Argv n) = n == 0
    go _ = false

-- an entry that lets something be executed
abbrev pub lets_execute : Entry → Bool
lets_execute entry = go entry.args
  where
    go : Args → Bool
    go (Args.Path n) = has_permission entry.perms.bits 0
    go (Args.Execute n prefer) = has_permission entry.perms.bits 0
    go _ = false

-- an entry that lets nothing be executed, or under such clauses alone
abbrev pub is_plain_entry : Entry → Bool
is_plain_entry entry = not (lets_execute entry) || list_all is_plain_clause entry.cond.clauses

-- a domain that is live has plain entries alone
abbrev pub is_plain_domain : Domain → Bool
is_plain_domain domain = not domain.live || list_all is_plain_entry domain.entries

-- the ACL groups of a namespace have plain entries alone
abbrev pub are_plain_groups : Namespace → Bool
are_plain_groups ns = list_all (λ group. list_all is_plain_entry group.1) ns.acl_groups

-- each execute entry of live domains and of ACL groups has no other conditions
unfoldable pub is_plain : Policy → Bool
is_plain policy = list_all is_plain_domain policy.domains && list_all are_plain_groups policy.namespaces

-- Quiet

-- the word is among these
abbrev pub is_one_of : Text → List Text → Bool
is_one_of word texts = list_any (texts_equal word) texts

-- an ACL line without the permission execute
abbrev pub is_quiet_acl : List Text → Bool
is_quiet_acl [] = false
is_quiet_acl (kind ∷ []) = is_one_of kind (codes "file" ∷ codes "network" ∷ codes "misc" ∷ codes "task" ∷ [])
is_quiet_acl (kind ∷ permissions ∷ rest) =
    is_one_of kind (codes "file" ∷ codes "network" ∷ codes "misc" ∷ codes "task" ∷ []) && not (is_one_of (codes "execute") (slice_split (λ b. b == 47) permissions))

-- a line that adds an ACL line without execute to an ACL group
abbrev pub is_quiet_group : List Text → Bool
is_quiet_group (word ∷ group ∷ line) = texts_equal word (codes "acl_group") && is_quiet_acl line
is_quiet_group _ = false

-- one word that begins with `<` may stand before `acl_group`
abbrev pub without_namespace : List Text → List Text
without_namespace [] = []
without_namespace (word ∷ rest) = if begins_with_byte 60 word then rest else word ∷ rest

-- an edit that cannot change where an execute leads or what a mode is, by the words of its line
-- alone
abbrev pub is_quiet_line : FileKind → List Text → Bool
is_quiet_line FileKind.Manager line = true
is_quiet_line FileKind.Domain [] = false
is_quiet_line FileKind.Domain (word ∷ rest) = texts_equal word (codes "select") || is_quiet_acl (word ∷ rest)
is_quiet_line FileKind.Exception line = is_quiet_group (without_namespace line)
is_quiet_line FileKind.Profile line = false

-- the words of a line alone tell it
unfoldable pub is_quiet : FileKind → Text → Bool
is_quiet file line = is_quiet_line file (words_of line)

-- what a quiet line may be when it is read: it removes nothing and lets nothing be executed
abbrev pub is_quiet_rule : PolicyLine → Bool
is_quiet_rule PolicyLine.Nothing = true
is_quiet_rule (PolicyLine.Domain (DomainRule.Select name)) = true
is_quiet_rule (PolicyLine.Domain (DomainRule.Acl false entry)) = not (lets_execute entry)
is_quiet_rule (PolicyLine.Group line) = not line.delete && not (lets_execute line.entry)
is_quiet_rule (PolicyLine.Manager delete rule) = true
is_quiet_rule _ = false

-- Clean

-- disabled, learning, or none for a manual transition
abbrev pub is_calm_mode : Option Mode → Bool
is_calm_mode None = true
is_calm_mode (Some Mode.Disabled) = true
is_calm_mode (Some Mode.Learning) = true
is_calm_mode _ = false

-- granted because the domain is full
abbrev pub is_quota : Reason → Bool
is_quota Reason.Quota = true
is_quota _ = false

-- a look in a calm mode that no quota granted
abbrev pub is_clean_look : Look → Bool
is_clean_look look = is_calm_mode look.mode && not (is_quota look.reason)

-- a granted take of clean looks
abbrev pub is_clean_take : Take → Bool
is_clean_take t = t.granted && list_all is_clean_look t.looks

-- a Learn is added or there, no transition fails, and an edit that is done is quiet
abbrev pub is_clean_step : Step × Reply → Bool
is_clean_step pair = go pair.0 pair.1
  where
    go : Step → Reply → Bool
    go (Step.Learn d entry) (Reply.Learn LearnReply.Added) = true
    go (Step.Learn d entry) (Reply.Learn LearnReply.There) = true
    go (Step.Learn d entry) _ = false
    go (Step.Fail d) reply = false
    go (Step.Edit e file line) (Reply.Edit EditReply.Done) = is_quiet file line
    go _ reply = true

-- every take is granted in mode disabled or learning, and every step is a clean one
unfoldable pub is_clean : Run → Bool
is_clean run = list_all is_clean_take run.takes && list_all is_clean_step run.steps
