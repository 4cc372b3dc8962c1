-- Each take of a clean run is granted again by the switched final policy, in the domain that it
-- began in, and ends in the same.
use Rattle.std.proofs.Common.{◌≡◌, ◌≤◌, ◌<◌, ℕ, length, map, Bool, true, refl, sym, ap, ◌∙◌, subst, arith}
use Rattle.std.specs.Prelude.{Option, Some, not, is_some, IfSome, IsTrue, option_map}
use Rattle.std.specs.List.{AllByRecursion, list_all}
use Rattle.std.proofs.lemmas.Bool.{and_parts}
use Rattle.tm_rules.specs.Types.{Domain, Look, Move, Namespace, Policy, Proc, Profile, Request, Run, Take, Verdict}
use Rattle.tm_rules.specs.Prelude.{at_key, domain_at, first, is_calm_mode, is_clean, is_clean_look, is_clean_step, is_clean_take, is_execute, is_plain, is_quota, is_request, namespace_named, namespace_of, namespace_word, profile_of}
use Rattle.tm_legal.specs.Prelude.{CanPlay, Case, EndsWith, Execute, FoundLine, Grows, IsLive, Legal, LookHolds, LooksRise, OwnLineGrants, OwnSteps, Scene, StaysLearned, Subject, execute_found, final_policy, is_granting, last_look, line_found, look_grants, opening_of, retry_written, state_at, step_at, steps_asked, subject_of, switched, switched_profile, verdict_at}
use Rattle.tm_rerun_laws.specs.Repeating.{Parts, execute_of}
use Rattle.tm_legal.proofs.Histories.{state_at-newest}
use Rattle.tm_rerun_laws.proofs.Switched.{switched_keeps}
use Rattle.tm_rerun_laws.proofs.PlainFirst.{plain_first}
use Rattle.tm_rerun_laws.proofs.Later.{Later, DomainLater, NamespaceLater, later-of, live-later}
use Rattle.tm_rerun_laws.proofs.FirstLater.{grown, first-own, first-later, first-switched}
use Rattle.tm_rerun_laws.proofs.SameWay.{way_of, SameFound, same-way}
use Rattle.tm_rerun_laws.proofs.Lands.{Leaves, made-live, step-within, no-fail, after-leads, leads, arrives}
use Rattle.tm_rerun_laws.proofs.Again.{IsCalm}
use Rattle.tm_rerun_laws.proofs.VerdictAgain.{Again, Ground, verdict-again}
use Rattle.tm_rerun_laws.proofs.CalmLooks.{asks, VerdictThere, verdict-there, granted-so, not-true, last-is, last-has, last-passes, last-version, execute_of-grown}

-- what is known of a take of the first run
pub record TakeFacts (scene : Scene) (run : Run) (t : Take) : Type 0 where
  pub some : 0 < length t.looks
  pub clean : is_clean_take t ≡ true
  pub live : IsLive (final_policy scene run) t.before

-- what is known of a case of the first run
pub record CaseFacts (scene : Scene) (run : Run) (c : Case) : Type 0 where
  pub take_facts : TakeFacts scene run c.taken
  pub request : is_request scene.grammar.is_path c.request ≡ true
  pub rises : LooksRise run.steps c.now.floor c.taken.looks
  pub holds : AllByRecursion (LookHolds scene run.steps (subject_of c)) c.taken.looks
  pub own : AllByRecursion (OwnSteps scene run.steps (subject_of c)) c.taken.looks
  pub ends : IfSome (last_look c.taken.looks) (EndsWith scene run.steps (subject_of c) c.taken)
  pub learned : AllByRecursion (StaysLearned scene run (subject_of c)) c.taken.looks

module _ (parts : Parts) (scene : Scene) (run : Run) (can : CanPlay scene) (plain : IsTrue (is_plain scene.policy)) (legal : Legal scene run) (clean : IsTrue (is_clean run)) where
  pub clean_parts : (list_all is_clean_take run.takes ≡ true) × (list_all is_clean_step run.steps ≡ true)
  unfolding is_clean
  clean_parts = and_parts (list_all is_clean_take run.takes) (list_all is_clean_step run.steps) clean

  -- the policy of a version
  abbrev policy_at : ℕ → Policy
  policy_at k = (state_at scene run.steps k).policy

  -- the final policy
  abbrev final : Policy
  final = final_policy scene run

  -- the rerun's policy
  abbrev rerun : Policy
  rerun = switched final

  final-is : policy_at (length run.steps) ≡ final
  final-is = ap (λ s. s.policy) (state_at-newest scene run.steps)

  pub later-at : (k : ℕ) → k ≤ length run.steps → Later (policy_at k) final rerun
  later-at k le = later-of switched_keeps (policy_at k) final (subst (λ (p : Policy). Grows (policy_at k) p) final-is (parts.grows scene run can.grammar legal clean k (length run.steps) le (omega arith)))

  leaves-at : (k : ℕ) → k ≤ length run.steps → Leaves run.steps (policy_at k) rerun
  leaves-at k le =
      record {
        live = live-later (policy_at k) final rerun (later-at k le);
        makes = λ n d m name step reply.
            live-later (policy_at n) final rerun (later-at n (step-within run.steps n _ step)) name m (made-live scene.grammar (opening_of scene) run.steps legal.places.replies n d m name step reply);
        fails = no-fail run.steps clean_parts.1;
      }

  module _ (k : ℕ) (le : k ≤ length run.steps) (d : ℕ) (process : Proc) (request : Request) (x : Domain) (profile : Profile) (at : domain_at (policy_at k) d ≡ Some x) (has : profile_of (policy_at k) x ≡ Some profile) where
    -- the domain's namespace
    abbrev ns_at : Namespace
    ns_at = namespace_of (policy_at k) x

    domain_then : DomainLater final rerun d x
    domain_then = (later-at k le).domains d x at

    namespace_then : NamespaceLater ns_at (namespace_named final (namespace_word x.name)) (namespace_named rerun (namespace_word x.name))
    namespace_then = (later-at k le).namespaces (namespace_word x.name)

    -- the domain later
    abbrev grown_x : Domain
    grown_x = record x { entries = domain_then.entries }

    -- its namespace later
    abbrev grown_ns : Namespace
    grown_ns = grown ns_at namespace_then.acl_groups namespace_then.profiles

    ground : (attached : Bool) (ended : ℕ) → Ground scene.grammar.is_path (policy_at k) rerun attached process request d ended x profile domain_then.entries namespace_then.acl_groups namespace_then.profiles
    ground attached ended =
        record {
          at = at;
          has = has;
          at_later = domain_then.there;
          has_later = ap (λ (ns : Namespace). at_key ns.profiles x.profile) namespace_then.is ∙ namespace_then.switched_each x.profile ∙ ap (option_map switched_profile) has;
          namespace_later = namespace_then.is;
          modes = switched_keeps.modes profile;
          some = first-later ns_at namespace_then.acl_groups namespace_then.profiles x domain_then.entries process request domain_then.grow namespace_then.grow;
        }

    -- what was learned is found
    learned-found : (let s : Subject = record { domain = d; process = process; request = request } in OwnLineGrants rerun s → is_some (first grown_ns grown_x process request) ≡ true)
    learned-found own =
        let found : is_some (first (namespace_of rerun own.domain) own.domain process request) ≡ true = first-own (namespace_of rerun own.domain) process request own.domain own.place own.entry own.stands own.grants_it in
        let both : Some own.domain ≡ Some grown_x = sym own.is_there ∙ domain_then.there in
        let same : own.domain ≡ grown_x = cc in
        subst (λ (ns : Namespace). is_some (first ns grown_x process request) ≡ true) namespace_then.is
        (subst (λ (y : Domain). is_some (first (namespace_of rerun y) y process request) ≡ true) same found)

    -- an execute leads to the same name
    same-found : IsLive final d → is_request scene.grammar.is_path request ≡ true → is_execute request ≡ true → way_of ns_at x.name (first grown_ns grown_x process request) request ≡ way_of ns_at x.name (first ns_at x process request) request
    same-found (z, there, live) asked executes =
        let both : Some z ≡ Some grown_x = sym there ∙ domain_then.unswitched in
        let same : z ≡ grown_x = cc in
        let alive : x.live ≡ true = ap (λ (y : Domain). y.live) (sym same) ∙ live in
        let e : Execute = execute_of ns_at request in
        let plain_final : IsTrue (is_plain final) = subst (λ (p : Policy). IsTrue (is_plain p)) final-is (parts.plain scene run can plain legal clean (length run.steps) (omega arith)) in
        let now : option_map line_found (first ns_at x process request) ≡ execute_found (policy_at k) d e =
        plain_first scene.grammar.is_path (policy_at k) d x process request (parts.plain scene run can plain legal clean k le) at alive asked executes in
        let last : option_map line_found (first (namespace_of final grown_x) grown_x process request) ≡ execute_found final d (execute_of (namespace_of final grown_x) request) =
        plain_first scene.grammar.is_path final d grown_x process request plain_final domain_then.unswitched alive asked executes in
        let later : option_map line_found (first grown_ns grown_x process request) ≡ execute_found final d e =
        ap (option_map line_found) (first-switched ns_at namespace_then.acl_groups namespace_then.profiles grown_x process request)
        ∙ subst (λ (m : Namespace). option_map line_found (first m grown_x process request) ≡ execute_found final d (execute_of m request)) namespace_then.unswitched last
        ∙ ap (execute_found final d) (execute_of-grown ns_at namespace_then.acl_groups request) in
        let stays : SameFound e (execute_found (policy_at k) d e) (execute_found (policy_at (length run.steps)) d e) =
        parts.first_execute scene run can plain legal clean d k (length run.steps) e (x, at, alive) le (omega arith) in
        same-way ns_at x.name e (first ns_at x process request) (first grown_ns grown_x process request) request refl
        (subst (λ (o : Option FoundLine). SameFound e o (option_map line_found (first grown_ns grown_x process request))) (sym now)
        (subst (λ (o : Option FoundLine). SameFound e (execute_found (policy_at k) d e) o) (sym later) (subst (λ (p : Policy). SameFound e (execute_found (policy_at k) d e) (execute_found p d e)) final-is stays)))

  module _ (c : Case) (facts : CaseFacts scene run c) (look : Look) (is_last : last_look c.taken.looks ≡ Some look) where
    -- what the look's version says
    look-again : (le : look.version ≤ length run.steps) (v : Verdict) → verdict_at scene run.steps (subject_of c) look.version ≡ Some v → look.mode ≡ v.mode → look.reason ≡ v.reason → look.step ≡ v.step → Again scene.grammar.is_path rerun c.now.process c.request c.taken.before c.taken.after
    look-again le v is mode reason move =
        let s : Subject = subject_of c in
        let d : ℕ = c.taken.before in
        let attached : Bool = (state_at scene run.steps look.version).queries.attached in
        let p : Policy = policy_at look.version in
        let there : VerdictThere scene.grammar.is_path p attached c.now.process c.request d v = verdict-there scene.grammar.is_path p attached c.now.process c.request d v is in
        let take_parts : (c.taken.granted ≡ true) × (list_all is_clean_look c.taken.looks ≡ true) = and_parts c.taken.granted (list_all is_clean_look c.taken.looks) facts.take_facts.clean in
        let look_parts : (is_calm_mode look.mode ≡ true) × (not (is_quota look.reason) ≡ true) = and_parts (is_calm_mode look.mode) (not (is_quota look.reason)) (last-passes is_clean_look c.taken.looks look is_last take_parts.1) in
        let calm : IsCalm v = record { calm = ap is_calm_mode (sym mode) ∙ look_parts.0; no_quota = ap is_quota (sym reason) ∙ not-true (is_quota look.reason) look_parts.1 } in
        let ends : EndsWith scene run.steps s c.taken look = rw is_last at facts.ends in
        let grants : look_grants look ≡ true = sym ends.granted ∙ take_parts.0 in
        let granting : is_granting v.reason ≡ true = ap is_granting (sym reason) ∙ granted-so look.reason look.heard (ap asks reason ∙ there.calms calm.calm) grants in
        let own : OwnSteps scene run.steps s look = last-has (OwnSteps scene run.steps s) c.taken.looks look is_last facts.own in
        let asked : map (step_at run.steps) look.own ≡ map Some (steps_asked scene.grammar d (retry_written run.steps look) v true) = rw (is, grants) at own.asked in
        let led : leads run.steps d v.step look.own ≡ Some c.taken.after = ap (λ (m : Move). leads run.steps d m look.own) (sym move) ∙ sym (after-leads run.steps d look grants) ∙ ends.domain in
        let stays : StaysLearned scene run s look = last-has (StaysLearned scene run s) c.taken.looks look is_last facts.learned in
        let x : Domain = there.domain in
        let dt : DomainLater final rerun d x = domain_then look.version le d c.now.process c.request x there.profile there.at there.has in
        let nt : NamespaceLater (namespace_of p x) (namespace_named final (namespace_word x.name)) (namespace_named rerun (namespace_word x.name)) = namespace_then look.version le d c.now.process c.request x there.profile there.at there.has in
        verdict-again scene.grammar.is_path p rerun attached c.now.process c.request d c.taken.after x there.profile dt.entries nt.acl_groups nt.profiles
        (ground look.version le d c.now.process c.request x there.profile there.at there.has attached c.taken.after) v
        (record {
          is = is;
          calm = calm;
          grants = granting;
          arrives = λ target step named. arrives scene.grammar run.steps p rerun (leaves-at look.version le) x d c.taken.after (retry_written run.steps look) v look.own target step named asked led;
          learned = λ learn. learned-found look.version le d c.now.process c.request x there.profile there.at there.has (stays.switched_too (reason ∙ learn));
          same_way = same-found look.version le d c.now.process c.request x there.profile there.at there.has facts.take_facts.live facts.request;
        })

  pub case-again : (c : Case) → CaseFacts scene run c → Again scene.grammar.is_path rerun c.now.process c.request c.taken.before c.taken.after
  case-again c facts =
      let (look, is_last) = last-is c.taken.looks facts.take_facts.some in
      let (v, is, shown) = last-has (LookHolds scene run.steps (subject_of c)) c.taken.looks look is_last facts.holds in
      look-again c facts look is_last (last-version run.steps c.taken.looks c.now.floor look is_last facts.rises) v is shown.mode shown.reason shown.move
