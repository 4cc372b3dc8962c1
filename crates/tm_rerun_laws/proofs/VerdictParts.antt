-- Of each verdict: its line is one that is learned for the request, and it enters live domains
-- alone.
use Rattle.std.proofs.Common.{◌≡◌, ℕ, Bool, true, false, refl, subst}
use Rattle.std.specs.Prelude.{Option, Some, None, ◌&&◌, ◌||◌, if◌then◌else◌, option_map, not}
use Rattle.std.specs.Option.{option_and_then, option_map_or}
use Rattle.tm_word.specs.Prelude.{Text, Word}
use Rattle.tm_rules.specs.Prelude.{Decision, DomainName, Granting, aggregated, can_enter, candidate, decision, domain_at, first, is_execute, is_strict, learned_line, live_domain, mode_of, namespace_of, path_of, profile_of, target_name}
use Rattle.tm_rules.specs.Types.{Args, Attributes, Domain, Entry, Function, Mode, Move, Namespace, Policy, Proc, Profile, Reason, Request, Verdict, function_of}
use Rattle.tm_legal.specs.Prelude.{by_entry, by_mode, denied, execute_verdict, in_mode, is_enforcing, is_ready, manual_verdict, move_to, moving, verdict, verdict_in, with_line}

-- a line that is learned for the request
abbrev pub IsLineOf : Request → Option Entry → Type 0
IsLineOf request None = Unit {0}
IsLineOf request (Some entry) = (name : Word) × (entry ≡ learned_line request name)

-- what is entered is live
abbrev pub EntersLive : Policy → Move → Type 0
EntersLive p (Move.Enter n) = (name : DomainName) × (live_domain p name ≡ Some n)
EntersLive p move = Unit {0}

pub record Shows (p : Policy) (request : Request) (v : Verdict) : Type 0 where
  pub line : IsLineOf request v.line
  pub move : EntersLive p v.step

module _ (is_path : Text → Bool) (p : Policy) (attached : Bool) (domain : Domain) (request : Request) where
  moved : (target : Option DomainName) → EntersLive p (move_to is_path p domain target)
  unfolding move_to
  moved None = tt
  moved (Some name) = by_live (live_domain p name) refl
    where
      by_name : (b : Bool) → EntersLive p (if b then Move.Make else Move.Fail)
      by_name true = tt
      by_name false = tt

      by_live : (o : Option ℕ) → live_domain p name ≡ o → EntersLive p (option_map_or Move.Enter o (if can_enter is_path p domain.name name then Move.Make else Move.Fail))
      by_live None e = by_name (can_enter is_path p domain.name name)
      by_live (Some n) e = (name, e)

  denied-shows : (mode : Option Mode) (reason : Reason) → Shows p request (denied mode reason)
  denied-shows mode reason = record { line = tt; move = tt }

  mode-shows : (mode : Mode) (found : Option Granting) (name : Word) (move : Move) (target : Option DomainName) → EntersLive p move → Shows p request (by_mode mode attached domain found (learned_line request name) move target)
  unfolding by_mode
  mode-shows Mode.Disabled found name move target h = record { line = tt; move = h }
  mode-shows Mode.Learning (Some found) name move target h = record { line = tt; move = h }
  mode-shows Mode.Permissive (Some found) name move target h = record { line = tt; move = h }
  mode-shows Mode.Enforcing (Some found) name move target h = record { line = tt; move = h }
  mode-shows Mode.Learning None name move target h = by_quota domain.quota_exceeded
    where
      by_quota : (b : Bool) → Shows p request (if b then moving (Some Mode.Learning) Reason.Quota move target else with_line (moving (Some Mode.Learning) Reason.Learn move target) (learned_line request name))
      by_quota true = record { line = tt; move = h }
      by_quota false = record { line = (name, refl); move = h }
  mode-shows Mode.Permissive None name move target h = record { line = tt; move = h }
  mode-shows Mode.Enforcing None name move target h = by_desk attached
    where
      by_desk : (b : Bool) → Shows p request (if b then with_line (moving (Some Mode.Enforcing) Reason.Ask move target) (learned_line request name) else denied (Some Mode.Enforcing) Reason.NoEntry)
      by_desk true = record { line = (name, refl); move = h }
      by_desk false = denied-shows (Some Mode.Enforcing) Reason.NoEntry

  manual-shows : (name : DomainName) (found : Option Granting) → Shows p request (manual_verdict is_path p domain name found)
  unfolding manual_verdict
  manual-shows name None = denied-shows None Reason.NoManual
  manual-shows name (Some found) = go (can_enter is_path p domain.name name)
    where
      go : (b : Bool) → Shows p request (if b then by_entry None found (move_to is_path p domain (Some name)) (Some name) else denied None Reason.NotReady)
      go true = record { line = tt; move = moved (Some name) }
      go false = denied-shows None Reason.NotReady

  execute-shows : (ns : Namespace) (mode : Mode) (found : Option Granting) → Shows p request (execute_verdict is_path p attached domain ns mode found request)
  unfolding execute_verdict
  execute-shows ns mode found = go (not (is_ready is_path p domain target) && (is_strict decided || is_enforcing mode))
    where
      decided : Decision
      decided = decision ns domain.name found request

      target : Option DomainName
      target = target_name domain.name (candidate ns found request) decided

      go : (b : Bool) → Shows p request (if b then denied (Some mode) Reason.NotReady else by_mode mode attached domain found (learned_line request (aggregated ns (path_of request))) (move_to is_path p domain target) target)
      go true = denied-shows (Some mode) Reason.NotReady
      go false = mode-shows mode found (aggregated ns (path_of request)) (move_to is_path p domain target) target (moved target)

  in_mode-shows : (ns : Namespace) (found : Option Granting) (mode : Mode) → Shows p request (in_mode is_path p attached domain ns request found mode)
  in_mode-shows ns found mode = go (is_execute request)
    where
      go : (b : Bool) → Shows p request (if b then execute_verdict is_path p attached domain ns mode found request else by_mode mode attached domain found (learned_line request (aggregated ns (path_of request))) Move.Stay None)
      go true = execute-shows ns mode found
      go false = mode-shows mode found (aggregated ns (path_of request)) Move.Stay None tt

  -- a given verdict
  given : (v w : Verdict) → Some v ≡ Some w → Shows p request v → Shows p request w
  given v w e h = let same : v ≡ w = cc in subst (Shows p request) same h

  function-shows : (ns : Namespace) (found : Option Granting) (mode : Function → Mode) (o : Option Function) (v : Verdict) → option_map (λ function. in_mode is_path p attached domain ns request found (mode function)) o ≡ Some v → Shows p request v
  function-shows ns found mode None v e = absurd cc
  function-shows ns found mode (Some function) v e = given (in_mode is_path p attached domain ns request found (mode function)) v e (in_mode-shows ns found (mode function))

module _ (is_path : Text → Bool) (p : Policy) (attached : Bool) (process : Proc) (domain : Domain) (profile : Profile) where
  in-shows : (args : Args) (perm : ℕ) (attributes : Attributes) → (let request : Request = record { args = args; perm = perm; attributes = attributes } in (v : Verdict) → verdict_in is_path p attached process request domain profile ≡ Some v → Shows p request v)
  in-shows (Args.Manual name) perm attributes v e =
      let request : Request = record { args = Args.Manual name; perm = perm; attributes = attributes } in
      let found : Option Granting = first (namespace_of p domain) domain process request in
      given is_path p attached domain request (manual_verdict is_path p domain name found) v e (manual-shows is_path p attached domain request name found)
  in-shows (Args.Path n) perm attributes v e = function-shows is_path p attached domain _ (namespace_of p domain) _ (mode_of profile) (function_of (Args.Path n) perm) v e
  in-shows (Args.Execute n prefer) perm attributes v e = function-shows is_path p attached domain _ (namespace_of p domain) _ (mode_of profile) (function_of (Args.Execute n prefer) perm) v e
  in-shows (Args.PathNumber n k) perm attributes v e = function-shows is_path p attached domain _ (namespace_of p domain) _ (mode_of profile) (function_of (Args.PathNumber n k) perm) v e
  in-shows (Args.Device n a b c) perm attributes v e = function-shows is_path p attached domain _ (namespace_of p domain) _ (mode_of profile) (function_of (Args.Device n a b c) perm) v e
  in-shows (Args.Path2 n m) perm attributes v e = function-shows is_path p attached domain _ (namespace_of p domain) _ (mode_of profile) (function_of (Args.Path2 n m) perm) v e
  in-shows (Args.Mount a b c d) perm attributes v e = function-shows is_path p attached domain _ (namespace_of p domain) _ (mode_of profile) (function_of (Args.Mount a b c d) perm) v e
  in-shows (Args.Inet a b c) perm attributes v e = function-shows is_path p attached domain _ (namespace_of p domain) _ (mode_of profile) (function_of (Args.Inet a b c) perm) v e
  in-shows (Args.Unix a b) perm attributes v e = function-shows is_path p attached domain _ (namespace_of p domain) _ (mode_of profile) (function_of (Args.Unix a b) perm) v e
  in-shows (Args.Env n) perm attributes v e = function-shows is_path p attached domain _ (namespace_of p domain) _ (mode_of profile) (function_of (Args.Env n) perm) v e

pub verdict-shows : (is_path : Text → Bool) (p : Policy) (attached : Bool) (d : ℕ) (process : Proc) (request : Request) (v : Verdict) → verdict is_path p attached d process request ≡ Some v → Shows p request v
unfolding verdict
verdict-shows is_path p attached d process request v = by_domain (domain_at p d)
  where
    by_profile : (domain : Domain) (o : Option Profile) → option_and_then (verdict_in is_path p attached process request domain) o ≡ Some v → Shows p request v
    by_profile domain None e = absurd cc
    by_profile domain (Some profile) e = in-shows is_path p attached process domain profile request.args request.perm request.attributes v e

    by_domain : (o : Option Domain) → option_and_then (λ domain. option_and_then (verdict_in is_path p attached process request domain) (profile_of p domain)) o ≡ Some v → Shows p request v
    by_domain None e = absurd cc
    by_domain (Some domain) e = by_profile domain (profile_of p domain) e
