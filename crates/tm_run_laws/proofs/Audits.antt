-- The audit text of a take can be written as a word: it is made of bytes, and begins with
-- `profile`.
use Rattle.std.proofs.Common.{◌≡◌, ℕ, ◌<◌, Bool, true, false, cond, List, [], ◌∷◌, ◌++◌, length, take, refl, sym, ap, subst, ◌∙◌, arith}
use Rattle.std.specs.Prelude.{Option, Some, None, codes, decimal, IfSome}
use Rattle.std.specs.Option.{option_and_then}
use Rattle.std.specs.List.{AllByRecursion}
use Rattle.std.proofs.lemmas.List.Splits.{join_with_byte-slice_split}
use Rattle.tm_word.specs.Prelude.{Text, are_bytes}
use Rattle.tm_rules.specs.Prelude.{DomainName, Grammar, audit_in, audit_lines, audit_text, domain_at, granted_text, ids_text, is_domain_name, is_logged, logs_of, namespace_of, profile_of, reason_text}
use Rattle.tm_rules.specs.Types.{Domain, Logs, Look, Mode, Policy, Proc, Reason, Request, Run, Take, Verdict, function_of, mode_text}
use Rattle.tm_domain.specs.Names.{is_path}
use Rattle.tm_line.specs.DomainWords.{domain_parts}
use Rattle.tm_line.proofs.WholeLaws.{parts_are}
use Rattle.tm_line.proofs.Steps.{all}
use Rattle.tm_trace.specs.Printing.{request_words, request_text, attribute_words, attributes_text}
use Rattle.tm_trace.specs.Written.{is_trace_request}
use Rattle.tm_trace.proofs.WordLaws.{request_are}
use Rattle.tm_trace.proofs.TextLaws.{request_joined}
use Rattle.tm_grammar.specs.Tomoyo.{tomoyo_grammar}
use Rattle.tm_legal.specs.Prelude.{Case, EndsWith, IsNamed, Legal, LookHolds, Scene, TakeHolds, cases_of, last_look, opening_of, state_at, steps_of, subject_of}
use Rattle.tm_legal.proofs.Named.{steps_keep_names}
use Rattle.tm_run.specs.Written.{is_audit}
use Rattle.tm_run_laws.specs.Scenes.{IsReadScene}
use Rattle.tm_run_laws.proofs.Lists.{All-map, All-both, All-at, of-images, to-images}
use Rattle.tm_run_laws.proofs.Bytes.{bytes-append, bytes-parts, decimal-bytes, joined-bytes}
use Rattle.tm_legal.proofs.Legality.{cases_take}
use Rattle.tm_run_laws.proofs.Cases.{IsAsked, cases_ask, take_of}

-- ---- the parts of the text

mode_bytes : (mode : Mode) → are_bytes (mode_text mode) ≡ true
mode_bytes Mode.Disabled = refl
mode_bytes Mode.Learning = refl
mode_bytes Mode.Permissive = refl
mode_bytes Mode.Enforcing = refl

granted_bytes : (reason : Reason) → are_bytes (granted_text reason) ≡ true
granted_bytes (Reason.Entry place) = refl
granted_bytes _ = refl

reason_bytes : (reason : Reason) → are_bytes (reason_text reason) ≡ true
reason_bytes (Reason.Entry place) = refl
reason_bytes _ = refl

-- a text of bytes
record IsBytes (text : Text) : Type 0 where
  are : are_bytes text ≡ true

-- what stands behind it
longer : {front : Text} (more : Text) → IsBytes front → are_bytes more ≡ true → IsBytes (front ++ more)
longer {front} more h k = record { are = bytes-append front more h.are k }

-- a name or a number behind its key
keyed : {front : Text} (key value : Text) → IsBytes front → are_bytes key ≡ true → are_bytes value ≡ true → IsBytes (front ++ key ++ value)
keyed key value h k l = longer value (longer key h k) l

ids_bytes : (p : Proc) → are_bytes (ids_text p) ≡ true
ids_bytes p =
    let key : IsBytes (codes " pid=") = record { are = refl } in
    let pid = longer (decimal p.pid) key (decimal-bytes p.pid) in
    let ppid = keyed (codes " ppid=") (decimal p.ppid) pid refl (decimal-bytes p.ppid) in
    let uid = keyed (codes " uid=") (decimal p.ids.uid) ppid refl (decimal-bytes p.ids.uid) in
    let euid = keyed (codes " euid=") (decimal p.ids.euid) uid refl (decimal-bytes p.ids.euid) in
    let suid = keyed (codes " suid=") (decimal p.ids.suid) euid refl (decimal-bytes p.ids.suid) in
    let fsuid = keyed (codes " fsuid=") (decimal p.ids.fsuid) suid refl (decimal-bytes p.ids.fsuid) in
    let gid = keyed (codes " gid=") (decimal p.ids.gid) fsuid refl (decimal-bytes p.ids.gid) in
    let egid = keyed (codes " egid=") (decimal p.ids.egid) gid refl (decimal-bytes p.ids.egid) in
    let sgid = keyed (codes " sgid=") (decimal p.ids.sgid) egid refl (decimal-bytes p.ids.sgid) in
    (keyed (codes " fsgid=") (decimal p.ids.fsgid) sgid refl (decimal-bytes p.ids.fsgid)).are

request_bytes : (request : Request) → is_trace_request request ≡ true → (are_bytes (request_text request) ≡ true) × (are_bytes (attributes_text request) ≡ true)
request_bytes request h =
    bytes-parts (request_text request) (attributes_text request)
    (subst (λ (text : Text). are_bytes text ≡ true) (request_joined request) (joined-bytes (request_words request ++ attribute_words request.attributes) (request_are request h)))

name_bytes : (name : DomainName) → is_domain_name is_path name ≡ true → are_bytes name ≡ true
name_bytes name h = subst (λ (text : Text). are_bytes text ≡ true) (join_with_byte-slice_split 32 name) (joined-bytes (domain_parts name) (parts_are name h))

lines_bytes : (domain : Domain) (mode : Mode) (process : Proc) (request : Request) (reason : Reason) → is_domain_name is_path domain.name ≡ true → is_trace_request request ≡ true → are_bytes (audit_lines tomoyo_grammar domain mode process request reason) ≡ true
lines_bytes domain mode process request reason name asked =
    let texts = request_bytes request asked in
    let key : IsBytes (codes "profile=") = record { are = refl } in
    let profile = longer (decimal domain.profile) key (decimal-bytes domain.profile) in
    let moded = keyed (codes " mode=") (mode_text mode) profile refl (mode_bytes mode) in
    let granted = keyed (codes " granted=") (granted_text reason) moded refl (granted_bytes reason) in
    let judged = keyed (codes " verdict=") (reason_text reason) granted refl (reason_bytes reason) in
    let made = longer (ids_text process) judged (ids_bytes process) in
    let header = keyed (attributes_text request) (10 ∷ []) made texts.1 refl in
    let named = keyed domain.name (10 ∷ []) header (name_bytes domain.name name) refl in
    (keyed (request_text request) (10 ∷ 10 ∷ []) named texts.0 refl).are

-- ---- the text

line_audit : (domain : Domain) (mode : Mode) (process : Proc) (request : Request) (reason : Reason) → is_domain_name is_path domain.name ≡ true → is_trace_request request ≡ true → is_audit (Some (audit_lines tomoyo_grammar domain mode process request reason)) ≡ true
line_audit domain mode process request reason name asked = all _ _ (all _ _ (lines_bytes domain mode process request reason name asked) refl) refl

if_logged : (b : Bool) (text : Text) → is_audit (Some text) ≡ true → is_audit (cond b (Some text) None) ≡ true
if_logged true text h = h
if_logged false text h = refl

in_audit : (policy : Policy) (process : Proc) (request : Request) (v : Verdict) (domain : Domain) (logs : Logs) (mode : Mode) → is_domain_name is_path domain.name ≡ true → is_trace_request request ≡ true → is_audit (audit_in tomoyo_grammar policy process request v domain logs mode) ≡ true
in_audit policy process request v domain logs Mode.Disabled name asked = refl
in_audit policy process request v domain logs Mode.Learning name asked =
    if_logged (is_logged (namespace_of policy domain) domain logs v.reason) (audit_lines tomoyo_grammar domain Mode.Learning process request v.reason) (line_audit domain Mode.Learning process request v.reason name asked)
in_audit policy process request v domain logs Mode.Permissive name asked =
    if_logged (is_logged (namespace_of policy domain) domain logs v.reason) (audit_lines tomoyo_grammar domain Mode.Permissive process request v.reason) (line_audit domain Mode.Permissive process request v.reason name asked)
in_audit policy process request v domain logs Mode.Enforcing name asked =
    if_logged (is_logged (namespace_of policy domain) domain logs v.reason) (audit_lines tomoyo_grammar domain Mode.Enforcing process request v.reason) (line_audit domain Mode.Enforcing process request v.reason name asked)

then_audit : {A : Type 0} (f : A → Option Text) (o : Option A) → ((x : A) → o ≡ Some x → is_audit (f x) ≡ true) → is_audit (option_and_then f o) ≡ true
then_audit f None h = refl
then_audit f (Some x) h = h x refl

text_audit : (policy : Policy) (d : ℕ) (process : Proc) (request : Request) (v : Verdict) → IsNamed is_path policy → is_trace_request request ≡ true → is_audit (audit_text tomoyo_grammar policy d process request v) ≡ true
unfolding audit_text
text_audit policy d process request v named asked =
    then_audit _ (domain_at policy d)
    (λ domain at. let name = All-at (λ (x : Domain). is_domain_name is_path x.name ≡ true) policy.domains d domain named at in
    then_audit _ (profile_of policy domain) (λ profile e. then_audit _ (function_of request.args request.perm) (λ function f. then_audit (audit_in tomoyo_grammar policy process request v domain (logs_of profile function)) v.mode (λ mode h. in_audit policy process request v domain (logs_of profile function) mode name asked))))

-- ---- every take

module _ (scene : Scene) (run : Run) (read : IsReadScene scene) where
  named_at : (version : ℕ) → IsNamed scene.grammar.is_path (state_at scene run.steps version).policy
  named_at version = steps_keep_names scene.grammar (opening_of scene) (take version (steps_of run.steps)) read.can_play.grammar read.can_play.named

  look_audit : (c : Case) (look : Look) → is_trace_request c.request ≡ true → LookHolds scene run.steps (subject_of c) look → EndsWith scene run.steps (subject_of c) c.taken look → is_audit c.taken.audit ≡ true
  look_audit c look asked holds ends =
      let policy = (state_at scene run.steps look.version).policy in
      let is = subst (λ o. IfSome o (λ (v : Verdict). c.taken.audit ≡ audit_text scene.grammar policy c.taken.before c.now.process c.request v)) holds.1 ends.audit in
      let same : c.taken.audit ≡ audit_text tomoyo_grammar policy c.taken.before c.now.process c.request holds.0 = is ∙ ap (λ (g : Grammar). audit_text g policy c.taken.before c.now.process c.request holds.0) read.grammar in
      let named : IsNamed is_path policy = subst (λ (g : Grammar). IsNamed g.is_path policy) read.grammar (named_at look.version) in
      subst (λ o. is_audit o ≡ true) (sym same) (text_audit policy c.taken.before c.now.process c.request holds.0 named asked)

  looks_audit : (c : Case) (looks : List Look) → is_trace_request c.request ≡ true → 0 < length looks → AllByRecursion (LookHolds scene run.steps (subject_of c)) looks → IfSome (last_look looks) (EndsWith scene run.steps (subject_of c) c.taken) → is_audit c.taken.audit ≡ true
  looks_audit c [] asked some holds ends = absurd (omega (arith, some))
  looks_audit c (look ∷ []) asked some holds ends = look_audit c look asked holds.0 ends
  looks_audit c (look ∷ next ∷ looks) asked some holds ends = looks_audit c (next ∷ looks) asked (omega arith) holds.1 ends

  -- what a case gives
  abbrev Facts : Case → Type 0
  Facts c = ((is_trace_request c.request ≡ true) × (0 < length c.taken.looks)) × (TakeHolds scene run.steps c × IfSome (last_look c.taken.looks) (EndsWith scene run.steps (subject_of c) c.taken))

  case_audit : (c : Case) → Facts c → is_audit c.taken.audit ≡ true
  case_audit c f = looks_audit c c.taken.looks f.0.0 f.0.1 f.1.0.shown f.1.1

  pub takes_audit : Legal scene run → AllByRecursion (λ (t : Take). is_audit t.audit ≡ true) run.takes
  takes_audit legal =
      let same = cases_take scene run legal.takes in
      let some = of-images (λ (t : Take). 0 < length t.looks) take_of (cases_of scene run) (subst (AllByRecursion (λ (t : Take). 0 < length t.looks)) (sym same) legal.takes.looks) in
      let first = All-both IsAsked (λ (c : Case). 0 < length c.taken.looks) (cases_of scene run) (cases_ask scene run read.trace.trees) some in
      let second = All-both (TakeHolds scene run.steps) (λ (c : Case). IfSome (last_look c.taken.looks) (EndsWith scene run.steps (subject_of c) c.taken)) (cases_of scene run) legal.verdicts legal.outcomes in
      let facts = All-both (λ (c : Case). (is_trace_request c.request ≡ true) × (0 < length c.taken.looks)) (λ c. TakeHolds scene run.steps c × IfSome (last_look c.taken.looks) (EndsWith scene run.steps (subject_of c) c.taken)) (cases_of scene run) first second in
      subst (AllByRecursion (λ (t : Take). is_audit t.audit ≡ true)) same (to-images (λ (t : Take). is_audit t.audit ≡ true) take_of (cases_of scene run) (All-map Facts (λ c. is_audit c.taken.audit ≡ true) (cases_of scene run) case_audit facts))
