-- The audit text of a take.
use Rattle.std.specs.Prelude.{ℕ, Bool, [], ◌∷◌, ◌++◌, Option, Some, None, if◌then◌else◌, unwrap_or, slice_get, decimal, codes}
use Rattle.std.specs.Option.{option_and_then}
use Rattle.tm_types.specs.Words.{Text}
use Rattle.tm_rules.specs.Types.{Domain, Entry, EntryPlace, Logs, Mode, Namespace, Policy, Proc, Reason, Request, Verdict, function_of, mode_text}
use Rattle.tm_rules.specs.Mode.{logs_of}
use Rattle.tm_rules.specs.Policy.{domain_at, namespace_of, profile_of}
use Rattle.tm_rules.specs.Edit.{acl_group}
use Rattle.tm_rules.specs.Grammar.{Grammar}

-- the entry at a place of a domain's lists
abbrev pub entry_at : Namespace → Domain → EntryPlace → Option Entry
entry_at ns domain (EntryPlace.Own i) = slice_get domain.entries i
entry_at ns domain (EntryPlace.Acl group i) = slice_get (acl_group ns group) i

-- the entry's own `grant_log` decides; without one the profile's
abbrev pub grant_logged : Logs → Option Entry → Bool
grant_logged logs None = logs.grant
grant_logged logs (Some entry) = unwrap_or entry.cond.grant_log logs.grant

-- a grant by an entry is logged by the grant log, everything else by the reject log
abbrev pub is_logged : Namespace → Domain → Logs → Reason → Bool
is_logged ns domain logs (Reason.Entry place) = grant_logged logs (entry_at ns domain place)
is_logged ns domain logs _ = logs.reject

-- yes only for a grant by an entry
abbrev pub granted_text : Reason → Text
granted_text (Reason.Entry place) = codes "yes"
granted_text _ = codes "no"

-- the word of a reason; both places of an entry have one
abbrev pub reason_text : Reason → Text
reason_text (Reason.Entry place) = codes "entry"
reason_text Reason.Disabled = codes "disabled"
reason_text Reason.Permissive = codes "permissive"
reason_text Reason.Quota = codes "quota"
reason_text Reason.Learn = codes "learn"
reason_text Reason.Ask = codes "ask"
reason_text Reason.NoEntry = codes "no_entry"
reason_text Reason.NotReady = codes "not_ready"
reason_text Reason.NoManual = codes "no_manual"

-- the process and its ids, as the header has them
abbrev pub ids_text : Proc → Text
ids_text p =
    codes " pid=" ++ decimal p.pid ++ codes " ppid=" ++ decimal p.ppid
    ++ codes " uid=" ++ decimal p.ids.uid ++ codes " euid=" ++ decimal p.ids.euid ++ codes " suid=" ++ decimal p.ids.suid ++ codes " fsuid=" ++ decimal p.ids.fsuid
    ++ codes " gid=" ++ decimal p.ids.gid ++ codes " egid=" ++ decimal p.ids.egid ++ codes " sgid=" ++ decimal p.ids.sgid ++ codes " fsgid=" ++ decimal p.ids.fsgid

-- the header, the domain, the request's line, an empty line
abbrev pub audit_lines : Grammar → Domain → Mode → Proc → Request → Reason → Text
audit_lines g domain mode process request reason =
    codes "profile=" ++ decimal domain.profile ++ codes " mode=" ++ mode_text mode
    ++ codes " granted=" ++ granted_text reason ++ codes " verdict=" ++ reason_text reason ++ ids_text process ++ g.print_attributes request ++ 10 ∷ []
    ++ domain.name ++ 10 ∷ []
    ++ g.print_request request ++ 10 ∷ 10 ∷ []

-- in mode disabled there is none
abbrev pub audit_in : Grammar → Policy → Proc → Request → Verdict → Domain → Logs → Mode → Option Text
audit_in g policy process request verdict domain logs Mode.Disabled = None
audit_in g policy process request verdict domain logs mode =
    if is_logged (namespace_of policy domain) domain logs verdict.reason then Some (audit_lines g domain mode process request verdict.reason) else None

-- no text for a manual transition and none in mode disabled; else one where the log of its reason
-- says so
unfoldable pub audit_text : Grammar → Policy → ℕ → Proc → Request → Verdict → Option Text
audit_text g policy d process request verdict =
    option_and_then
    (λ domain. option_and_then
    (λ profile. option_and_then
    (λ function. option_and_then (audit_in g policy process request verdict domain (logs_of profile function)) verdict.mode)
    (function_of request.args request.perm))
    (profile_of policy domain))
    (domain_at policy d)
