-- What a pass at an engine on a machine knows, as a seat says it.
use Rattle.std.proofs.Common.{◌≡◌, ℕ, ◌+◌, List, [], ◌∷◌, ◌++◌, length, Bool, true, true≢false, refl, ◌∙◌, sym, ap, subst, arith}
use Rattle.std.specs.Prelude.{Option, Some, None, IsSome, is_some, option_map, unwrap_or, slice_get, take}
use Rattle.std.specs.Option.{option_and_then, IfSome}
use mathlib.Core.List.{IsPrefix}
use Rattle.tm_rules.specs.Prelude.{audit_text, domain_at, is_request, profile_of}
use Rattle.tm_change_domains.specs.Standing.{Standing, StandsIn}
use Rattle.tm_rules.specs.Types.{Domain, Made, Policy, Proc, Profile, Reply, Request, Start, Verdict}
use Rattle.tm_machine.specs.Tomoyo.{tomoyo_grammar}
use Rattle.tm_machine.proofs.IsOne.{is_one}
use Rattle.tm_legal.specs.Prelude.{DomainIn, IsOpened, Replies, Scene, Situation, State, after, apply, opening, verdict, verdict_in}
use Rattle.tm_made.specs.Made.{steps_made, told_from, start_in, EachFits}
use Rattle.tm_made.proofs.Telling.{each-fitted, told-reply}
use Rattle.tm_joint.specs.AtLists.{state_after}
use Rattle.tm_joint.proofs.ListLaws.{looks-are-judged}
use Rattle.tm_machine.specs.Office.{fits_at, fits_at_stays, reply_in}
use Rattle.tm_core.specs.Judging.{judged}
use Rattle.tm_take.specs.Looking.{verdict_at}
use Rattle.tm_take.specs.declared.judged.Judged.{Judged}
use Rattle.tm_publish.specs.declared.event.Event.{Event}
use Rattle.tm_publish.specs.declared.pass.Pass.{Pass}
use Rattle.tm_publish.specs.History as history
use Rattle.tm_publish.specs.declared.event.Event.TheVariants as event
use Rattle.tm_publish.specs.Words.{home, known}
use Rattle.tm_seat.specs.Seats.{scene_of, state_of, ShowsAt, FitsFrom, Begins, IsMade}
use Rattle.tm_seat.proofs.Opening.{some-trace, fits-scene, state-scene}
use Rattle.tm_replay.specs.Seats.{no_start, home_of}

pub begins-of : (xs ys : List Made) → IsPrefix xs ys → Begins xs ys
begins-of xs ys h = (h.0, sym h.1)

-- steps that fit one after another, by their replies
pub fitted-from : (start : Start) (list : List Made) → EachFits tomoyo_grammar start list → FitsFrom start list
fitted-from start list each =
    let (trace, trees) = some-trace start.trees in
    let scene : Scene = scene_of start trace None in
    let same : opening (start_in scene) ≡ opening start = rw trees refl in
    subst (λ (s : State). Replies tomoyo_grammar s (told_from tomoyo_grammar s (steps_made list))) same
    (each-fitted scene list (subst (λ (s : State). EachFrom s list) (sym same) each))
  where
    EachFrom : State → List Made → Type 0
    EachFrom s xs = (k : ℕ) (made : Made) → slice_get xs k ≡ Some made → is_some (apply tomoyo_grammar (after tomoyo_grammar s (steps_made (take k xs))) made.step).reply ≡ true

module _ {L O : Type 0} {n : _} {l : _} {o : _} where
  -- a pass has an opening
  pub home-is : (pass : Pass L O Start Made n l o) (p : Start) → home pass ≡ Some p → home_of pass ≡ p
  home-is pass p is = ap (λ (found : Option Start). unwrap_or found no_start) is

  pub home-there : (pass : Pass L O Start Made n l o) → home pass ≡ Some (home_of pass)
  home-there pass = there pass.mind.front.seen.log pass.mind.front.opened
    where
      there : (log : List (Event Start Made)) → history.is_opened log ≡ true → history.opening_of log ≡ Some (unwrap_or (history.opening_of log) no_start)
      there [] is = absurd (true≢false (sym is))
      there (event.Opened p k ∷ log) is = refl
      there (event.Made s k ∷ log) is = absurd (true≢false (sym is))

  -- the same pass's opening
  pub home-same : (old new : Pass L O Start Made n l o) → home new ≡ home old → home_of new ≡ home_of old
  home-same old new same = ap (λ (found : Option Start). unwrap_or found no_start) same

  -- what a pass knows fits from its opening
  pub knows-fit : (old new : Pass L O Start Made n l o) → home new ≡ home old → ((p : Start) → home old ≡ Some p → EachFits tomoyo_grammar p (known new)) → FitsFrom (home_of new) (known new)
  knows-fit old new opened each =
      rw (ap (λ (found : Option Start). unwrap_or found no_start) opened)
      (fitted-from (home_of old) (known new) (each (home_of old) (home-there old)))

-- a look is there, where its domain is
some-map : {A B : Type 0} (f : A → B) (found : Option A) → IsSome found → IsSome (option_map f found)
some-map f None is = is
some-map f (Some x) is = refl

pub looks-there : (start : Start) (xs ys : List Made) (domain : ℕ) (process : Proc) (request : Request) → IsOpened start.policy → Begins xs ys → FitsFrom start ys → DomainIn (state_of start xs).policy domain → is_request tomoyo_grammar.is_path request ≡ true → IsSome (judged (state_of start ys) domain process request)
looks-there start xs ys domain process request opened begins fitted there asked =
    let (trace, trees) = some-trace start.trees in
    let scene : Scene = scene_of start trace None in
    let now : Situation = record { process = process; domain = Some domain; floor = 0 } in
    let list : List Made = xs ++ begins.0 in
    let fits : FitsFrom start list = subst (FitsFrom start) begins.1 fitted in
    let there_in : DomainIn (state_after scene xs).policy domain =
    subst (λ (s : State). DomainIn s.policy domain) (sym (state-scene start opened trace None trees xs)) there in
    let judged_in : IsSome (verdict_at (state_after scene list) domain process request) =
    looks-are-judged scene xs begins.0 now domain request is_one opened (fits-scene start opened trace None trees list fits) refl there_in asked in
    let judged_at : IsSome (verdict_at (state_of start list) domain process request) =
    subst (λ (s : State). IsSome (verdict_at s domain process request)) (state-scene start opened trace None trees list) judged_in in
    let judged_last : IsSome (verdict_at (state_of start ys) domain process request) =
    subst (λ (l : List Made). IsSome (verdict_at (state_of start l) domain process request)) (sym begins.1) judged_at in
    some-map _ (verdict_at (state_of start ys) domain process request) judged_last

-- where a verdict is found the domain is there with its profile
verdict-there : (policy : Policy) (attached : Bool) (domain : ℕ) (process : Proc) (request : Request) (v : Verdict) → verdict tomoyo_grammar.is_path policy attached domain process request ≡ Some v → DomainIn policy domain
unfolding verdict
verdict-there policy attached domain process request v h = of-domain (domain_at policy domain) refl h
  where
    of-profile : (its : Domain) (found : Option Profile) → domain_at policy domain ≡ Some its → profile_of policy its ≡ found → option_and_then (verdict_in tomoyo_grammar.is_path policy attached process request its) found ≡ Some v → DomainIn policy domain
    of-profile its None there profiled h = absurd cc
    of-profile its (Some profile) there profiled h = record { domain = its; there = there; profile = profile; profiled = profiled }

    of-domain : (found : Option Domain) → domain_at policy domain ≡ found → option_and_then (λ its. option_and_then (verdict_in tomoyo_grammar.is_path policy attached process request its) (profile_of policy its)) found ≡ Some v → DomainIn policy domain
    of-domain None there h = absurd cc
    of-domain (Some its) there h = of-profile its (profile_of policy its) there refl h

-- what is judged at the state after a list is what a seat shows there
pub shows-at : (start : Start) (list : List Made) (domain : ℕ) (process : Proc) (request : Request) (shown : Judged) (version : ℕ) → judged (state_of start list) domain process request ≡ Some shown → version ≡ length list → ShowsAt start list domain process request shown version
shows-at start list domain process request shown version h at = go (verdict_at (state_of start list) domain process request) refl h
  where
    policy : Policy
    policy = (state_of start list).policy

    its : Verdict → Judged
    its v = record { verdict = v; audit = audit_text tomoyo_grammar policy domain process request v }

    go : (found : Option Verdict) → verdict_at (state_of start list) domain process request ≡ found → option_map its found ≡ Some shown → ShowsAt start list domain process request shown version
    go None is none = absurd cc
    go (Some v) is same =
        let both : its v ≡ shown = cc in
        let verdict_same : v ≡ shown.verdict = ap (λ (j : Judged). j.verdict) both in
        let audit_same : audit_text tomoyo_grammar policy domain process request v ≡ shown.audit = ap (λ (j : Judged). j.audit) both in
        record {
          there = verdict-there policy (state_of start list).queries.attached domain process request v is;
          version_is = at;
          verdict_is = is ∙ ap Some verdict_same;
          audit_is = sym audit_same ∙ ap (audit_text tomoyo_grammar policy domain process request) verdict_same;
        }

-- the same of what a look may show
pub shows-ok : (start start' : Start) (list : List Made) (domain : ℕ) (process : Proc) (request : Request) (found : Option Judged) (version : ℕ) (shown : Option (Judged × ℕ)) → start' ≡ start → found ≡ judged (state_of start list) domain process request → version ≡ length list → IfSome shown (λ j. found ≡ Some j.0) → IfSome shown (λ j. j.1 ≡ version) → IfSome shown (λ j. ShowsAt start' list domain process request j.0 j.1)
shows-ok start start' list domain process request found version None same is at shown version_is = tt
shows-ok start start' list domain process request found version (Some (shown, number)) same is at shown_is version_is =
    subst (λ (s : Start). ShowsAt s list domain process request shown number) (sym same) (shows-at start list domain process request shown number (sym is ∙ shown_is) (version_is ∙ at))

-- where a look stands, its domain is there with its profile
pub stands-there : (policy : Policy) (domain : ℕ) (standing : Standing) → standing.number ≡ domain → StandsIn policy standing → DomainIn policy domain
stands-there policy domain standing number h =
    record { domain = standing.domain; there = subst (λ d. domain_at policy d ≡ Some standing.domain) number h.domain; profile = standing.profile; profiled = h.profile }

-- a step that fits after what is known fits after all that goes on from it
pub fits-on : (start : Start) (xs ys : List Made) (made : Made) → IsPrefix xs ys → IsSome (apply tomoyo_grammar (state_of start xs) made.step).reply → fits_at start ys made ≡ true
fits-on start xs ys made more fit = subst (λ (zs : List Made). fits_at start zs made ≡ true) more.1 (fits_at_stays start xs more.0 made fit)

-- it was made, after others' steps
pub is-made : (start : Start) (old before new : List Made) (made : Made) (number : ℕ) (reply : Reply) → IsPrefix old before → new ≡ before ++ made ∷ [] → number ≡ length before + 1 → IsSome (apply tomoyo_grammar (state_of start old) made.step).reply → reply_in start new number ≡ Some reply → IsMade start old made new reply
is-made start old before new made number reply more is numbered fit told = (
  more.0,
  rw more.1 is,
  rw more.1 (told-reply tomoyo_grammar start before new made number reply is (omega (arith, numbered)) (fits-on start old before made more fit) told),
)
