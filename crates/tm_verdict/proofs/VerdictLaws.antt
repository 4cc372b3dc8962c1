-- The verdict by kinds: what is in common to the code and the definition.
use Rattle.std.proofs.Common.{◌≡◌, ℕ, ◌<◌, ◌≤◌, Bool, true, false, ◌==◌, ◌&&◌, ◌||◌, not, refl, sym, ap, ◌∙◌, subst, length, arith, eqb-true}
use Rattle.std.specs.Prelude.{Option, Some, None, Result, Ok, Err, IfOk, option_map, is_some, if◌then◌else◌}
use Rattle.std.specs.Option.{option_and_then}
use Rattle.std.proofs.lemmas.Option.{slice_get_within}
use Rattle.tm_word.specs.Prelude.{Text, Word}
use Rattle.tm_rules.specs.Prelude.{DomainName, Granting, are_literal, can_enter, candidate, decision, domain_at, first, found_of, is_domain_name, is_execute, is_manual, is_request, learned_line, line_of, namespace_of, profile_of}
use Rattle.tm_rules.specs.Types.{Args, Domain, Entry, Found, Function, InetKind, Mode, Move, Namespace, Policy, Proc, Profile, Reason, Request, UnixKind, Verdict, function_of, row_functions}
use Rattle.tm_rules.proofs.EqualityLaws.{both}
use Rattle.tm_rep.specs.Standing.{Standing, StandsIn}
use Rattle.tm_legal.specs.Prelude.{by_entry, by_mode, denied, execute_verdict, is_enforcing, made, manual_verdict, move_to, verdict, verdict_in}
use Rattle.tm_verdict.specs.declared.targets.Way.{Way}
use Rattle.tm_verdict.specs.Leading.{granting_at, way_to, way_by}
use Rattle.tm_verdict.specs.Bare.{bare_of, completed}
use Rattle.tm_verdict.proofs.Firsts.{told}

-- a target is told once
made-again : (step : Move) (target : Option DomainName) → made step (made step target) ≡ made step target
made-again Move.Stay target = refl
made-again (Move.Enter n) target = refl
made-again Move.Make target = refl
made-again Move.Fail target = refl

by_mode-made : (mode : Mode) (attached : Bool) (domain : Domain) (found : Option Granting) (line : Entry) (step : Move) (target : Option DomainName) → by_mode mode attached domain found line step (made step target) ≡ by_mode mode attached domain found line step target
unfolding by_mode
by_mode-made Mode.Disabled attached domain found line step target = rw (made-again step target) refl
by_mode-made Mode.Learning attached domain (Some x) line step target = rw (made-again step target) refl
by_mode-made Mode.Learning attached domain None line step target = rw (made-again step target) refl
by_mode-made Mode.Permissive attached domain (Some x) line step target = rw (made-again step target) refl
by_mode-made Mode.Permissive attached domain None line step target = rw (made-again step target) refl
by_mode-made Mode.Enforcing attached domain (Some x) line step target = rw (made-again step target) refl
by_mode-made Mode.Enforcing attached domain None line step target = rw (made-again step target) refl

by_entry-made : (mode : Option Mode) (found : Granting) (step : Move) (target : Option DomainName) → by_entry mode found step (made step target) ≡ by_entry mode found step target
by_entry-made mode found step target = rw (made-again step target) refl

-- no name stands in the line of a request that is no execute
pub line_any : (request : Request) (x y : Word) → is_execute request ≡ false → learned_line request x ≡ learned_line request y
unfolding learned_line
line_any request x y other = rw other refl

module _ (is_path : Text → Bool) (policy : Policy) (domain : Domain) where
  -- a manual transition by where its name leads
  pub manual_entered : (name : DomainName) (found : Granting) (way : Way) → way ≡ way_to is_path policy domain true (Some name) → way.ready ≡ true → (line : Entry) → completed (bare_of (by_entry None found way.leads.step way.leads.target)) line ≡ manual_verdict is_path policy domain name (Some found)
  unfolding manual_verdict
  manual_entered name found way is ready line =
      let can : can_enter is_path policy domain.name name ≡ true = sym (ap (λ (w : Way). w.ready) is) ∙ ready in
      rw (can, is) (by_entry-made None found (move_to is_path policy domain (Some name)) (Some name))

  pub manual_barred : (name : DomainName) (found : Granting) (way : Way) → way ≡ way_to is_path policy domain true (Some name) → way.ready ≡ false → (line : Entry) → completed (bare_of (denied None Reason.NotReady)) line ≡ manual_verdict is_path policy domain name (Some found)
  unfolding manual_verdict
  manual_barred name found way is ready line =
      let can : can_enter is_path policy domain.name name ≡ false = sym (ap (λ (w : Way). w.ready) is) ∙ ready in
      rw can refl

  -- an execute by where its decision leads
  execute_is : (attached : Bool) (ns : Namespace) (mode : Mode) (found : Option Granting) (request : Request) → (let way : Way = way_by is_path policy domain (candidate ns found request) (decision ns domain.name found request) in
      execute_verdict is_path policy attached domain ns mode found request
      ≡ (if not way.ready && (way.strict || is_enforcing mode) then denied (Some mode) Reason.NotReady else by_mode mode attached domain found (line_of ns request) way.leads.step way.leads.target))
  unfolding execute_verdict
  execute_is attached ns mode found request = rw by_mode-made refl

  module _ (attached : Bool) (ns : Namespace) (mode : Mode) (found : Option Granting) (request : Request) (way : Way) (is : way ≡ way_by is_path policy domain (candidate ns found request) (decision ns domain.name found request)) where
    execute_by : execute_verdict is_path policy attached domain ns mode found request
        ≡ (if not way.ready && (way.strict || is_enforcing mode) then denied (Some mode) Reason.NotReady else by_mode mode attached domain found (line_of ns request) way.leads.step way.leads.target)
    execute_by =
        subst
        (λ (way : Way). execute_verdict is_path policy attached domain ns mode found request
        ≡ (if not way.ready && (way.strict || is_enforcing mode) then denied (Some mode) Reason.NotReady else by_mode mode attached domain found (line_of ns request) way.leads.step way.leads.target)) (sym is)
        (execute_is attached ns mode found request)

    pub execute_barred : (not way.ready && (way.strict || is_enforcing mode)) ≡ true → denied (Some mode) Reason.NotReady ≡ execute_verdict is_path policy attached domain ns mode found request
    execute_barred barred = sym (execute_by ∙ rw barred refl)

    pub execute_goes : (not way.ready && (way.strict || is_enforcing mode)) ≡ false → by_mode mode attached domain found (line_of ns request) way.leads.step way.leads.target ≡ execute_verdict is_path policy attached domain ns mode found request
    execute_goes free = sym (execute_by ∙ rw free refl)

-- a row has at most eleven permissions
row-few : (args : Args) → length (row_functions args) ≤ 11
row-few (Args.Path n) = omega arith
row-few (Args.PathNumber n k) = omega arith
row-few (Args.Device n a b c) = omega arith
row-few (Args.Path2 n m) = omega arith
row-few (Args.Mount a b c d) = omega arith
row-few (Args.Inet InetKind.Stream b c) = omega arith
row-few (Args.Inet InetKind.Dgram b c) = omega arith
row-few (Args.Inet InetKind.Raw b c) = omega arith
row-few (Args.Unix UnixKind.Stream b) = omega arith
row-few (Args.Unix UnixKind.Dgram b) = omega arith
row-few (Args.Unix UnixKind.Seqpacket b) = omega arith
row-few (Args.Env n) = omega arith
row-few (Args.Execute n p) = omega arith
row-few (Args.Manual n) = omega arith

pub perm_below : (args : Args) (perm : ℕ) (function : Function) → function_of args perm ≡ Some function → perm < 16
unfolding function_of
perm_below args perm function is = let within : perm < length (row_functions args) = slice_get_within (row_functions args) perm function is in omega (arith, within, row-few args)

-- so has what a trace asks for: a manual transition has the first
below_any : (args : Args) (perm : ℕ) (manual : Bool) (known : Option Function) → function_of args perm ≡ known → (is_some known || (manual && perm == 0)) ≡ true → perm < 16
below_any args perm manual (Some function) is one = perm_below args perm function is
below_any args perm true None is one = let first : perm ≡ 0 = eqb-true perm 0 one in omega (arith, first)
below_any args perm false None is one = absurd cc

pub asked_below : (is_path : Text → Bool) (request : Request) → is_request is_path request ≡ true → request.perm < 16
unfolding is_request
asked_below is_path request asked =
    below_any request.args request.perm (is_manual request) (function_of request.args request.perm) refl (both _ _ (both _ _ asked).0).1

-- what a manual transition asks for is a right name
pub asked_name : (is_path : Text → Bool) (request : Request) (name : DomainName) → is_request is_path request ≡ true → request.args ≡ Args.Manual name → is_domain_name is_path name ≡ true
unfolding is_request
asked_name is_path request name asked is =
    let literal : are_literal is_path request.args ≡ true = (both _ _ (both _ _ asked).0).0 in
    rw is at literal

-- what is so of each answer
pub if_ok : {A E : Type 0} (P Q : A → Type 0) (r : Result A E) → ((x : A) → P x → Q x) → IfOk r P → IfOk r Q
if_ok P Q (Ok x) f h = f x h
if_ok P Q (Err e) f h = tt

-- The verdict by where its look stands
module _ (is_path : Text → Bool) (policy : Policy) (attached : Bool) (process : Proc) (request : Request) where
  -- there is none where the domain or its profile isn't there
  pub nowhere : (d : ℕ) → option_and_then (profile_of policy) (domain_at policy d) ≡ None → None ≡ verdict is_path policy attached d process request
  unfolding verdict
  nowhere d absent = go (domain_at policy d) absent
    where
      go : (o : Option Domain) → option_and_then (profile_of policy) o ≡ None
          → None ≡ option_and_then (λ domain. option_and_then (verdict_in is_path policy attached process request domain) (profile_of policy domain)) o
      go None e = refl
      go (Some domain) e = rw e refl

  -- by what a search told there
  pub by_standing : (s : Standing) (seen : Option Found) (v : Option Verdict) → StandsIn policy s → seen ≡ option_map found_of (first s.namespace s.domain process request)
      → ((process : Proc) → namespace_of policy s.domain ≡ s.namespace → first s.namespace s.domain process request ≡ granting_at s.namespace s.domain seen → v ≡ verdict_in is_path policy attached process request s.domain s.profile)
      → v ≡ verdict is_path policy attached s.number process request
  unfolding verdict
  by_standing s seen v stands sees judged =
      let granting : first s.namespace s.domain process request ≡ granting_at s.namespace s.domain seen = rw sees (sym (told s.namespace s.domain process request)) in
      judged process stands.namespace granting ∙ rw (stands.domain, stands.profile) refl
