-- What a look that learns has seen: nothing was found, and the line is that of its request.
use Rattle.std.proofs.Common.{◌≡◌, ℕ, List, [], ◌∷◌, Bool, true, false, refl, sym, subst}
use Rattle.std.specs.Prelude.{Option, Some, None, ◌&&◌, ◌||◌, ◌==◌, if◌then◌else◌, slice_get, option_map, not, is_some}
use Rattle.std.specs.List.{AllByRecursion, list_all}
use Rattle.std.specs.Option.{option_and_then}
use Rattle.std.specs.Bool.{beq}
use Rattle.std.proofs.lemmas.Bool.{eqb-true, eqb-false, and_parts}
use Rattle.std.proofs.lemmas.Nat.Bits.{bit_at-pow_other}
use Rattle.tm_word.specs.Prelude.{Text, Word, are_bytes, is_empty}
use Rattle.tm_rules.specs.Prelude.{Decision, DomainName, Grammar, Granting, aggregated, are_literal, bytes_if, can_enter, candidate, decision, domain_at, first, has_bytes, has_exec, has_its_attributes, has_no_exec, is_execute, is_manual, is_path_word, is_request, is_stat, is_strict, is_symlink, learned_line, lets_execute, line_of, may_have, mode_of, namespace_of, path_of, profile_of, searched, target_name}
use Rattle.tm_rules.specs.Types.{Args, Attributes, Domain, Entry, Function, Groups, Mode, Move, NamePlace, Namespace, Policy, Proc, Profile, Reason, Request, Step, Verdict, function_of}
use Rattle.tm_rules.proofs.LearnedLaws.{execute-first}
use Rattle.tm_legal.specs.Prelude.{Execute, by_entry, by_mode, denied, execute_line, execute_verdict, in_mode, is_enforcing, is_ready, manual_verdict, move_to, moving, steps_asked, steps_of_line, steps_of_move, verdict, verdict_in, with_line}
use Rattle.tm_legal.proofs.Asked.{All-append}
use Rattle.tm_rerun_laws.proofs.Executes.{IsExecute, Blind, blind-quiet}

-- The verdict

-- a verdict that learns has found nothing and has this line
abbrev LearnsNew : Option Granting → Entry → Verdict → Type 0
LearnsNew found line v = v.reason ≡ Reason.Learn → (found ≡ None) × (v.line ≡ Some line)

by_mode-new : (mode : Mode) (attached : Bool) (domain : Domain) (found : Option Granting) (line : Entry) (move : Move) (target : Option DomainName) → LearnsNew found line (by_mode mode attached domain found line move target)
unfolding by_mode
by_mode-new Mode.Disabled attached domain found line move target h = absurd cc
by_mode-new Mode.Learning attached domain (Some x) line move target h = absurd cc
by_mode-new Mode.Permissive attached domain (Some x) line move target h = absurd cc
by_mode-new Mode.Enforcing attached domain (Some x) line move target h = absurd cc
by_mode-new Mode.Learning attached domain None line move target h = go domain.quota_exceeded h
  where
    go : (b : Bool) → LearnsNew None line (if b then moving (Some Mode.Learning) Reason.Quota move target else with_line (moving (Some Mode.Learning) Reason.Learn move target) line)
    go true h = absurd cc
    go false h = (refl, refl)
by_mode-new Mode.Permissive attached domain None line move target h = absurd cc
by_mode-new Mode.Enforcing attached domain None line move target h = go attached h
  where
    go : (b : Bool) → LearnsNew None line (if b then with_line (moving (Some Mode.Enforcing) Reason.Ask move target) line else denied (Some Mode.Enforcing) Reason.NoEntry)
    go true h = absurd cc
    go false h = absurd cc

module _ (is_path : Text → Bool) (p : Policy) (attached : Bool) (process : Proc) where
  manual-new : (domain : Domain) (name : DomainName) (found : Option Granting) (line : Entry) → LearnsNew found line (manual_verdict is_path p domain name found)
  unfolding manual_verdict
  manual-new domain name None line h = absurd cc
  manual-new domain name (Some found) line h = go (can_enter is_path p domain.name name) h
    where
      go : (b : Bool) → LearnsNew (Some found) line (if b then by_entry None found (move_to is_path p domain (Some name)) (Some name) else denied None Reason.NotReady)
      go true h = absurd cc
      go false h = absurd cc

  execute-new : (domain : Domain) (ns : Namespace) (mode : Mode) (found : Option Granting) (request : Request) → LearnsNew found (line_of ns request) (execute_verdict is_path p attached domain ns mode found request)
  unfolding execute_verdict
  execute-new domain ns mode found request = go (not (is_ready is_path p domain target) && (is_strict decided || is_enforcing mode))
    where
      decided : Decision
      decided = decision ns domain.name found request

      target : Option DomainName
      target = target_name domain.name (candidate ns found request) decided

      go : (b : Bool) → LearnsNew found (line_of ns request) (if b then denied (Some mode) Reason.NotReady else by_mode mode attached domain found (line_of ns request) (move_to is_path p domain target) target)
      go true h = absurd cc
      go false h = by_mode-new mode attached domain found (line_of ns request) (move_to is_path p domain target) target h

  in_mode-new : (domain : Domain) (ns : Namespace) (request : Request) (found : Option Granting) (mode : Mode) → LearnsNew found (line_of ns request) (in_mode is_path p attached domain ns request found mode)
  in_mode-new domain ns request found mode = go (is_execute request)
    where
      go : (b : Bool) → LearnsNew found (line_of ns request) (if b then execute_verdict is_path p attached domain ns mode found request else by_mode mode attached domain found (line_of ns request) Move.Stay None)
      go true = execute-new domain ns mode found request
      go false = by_mode-new mode attached domain found (line_of ns request) Move.Stay None

  -- what a domain's verdict that learns has seen
  abbrev SeenNew : Domain → Request → Option Verdict → Type 0
  SeenNew domain request o = (v : Verdict) → o ≡ Some v → LearnsNew (first (namespace_of p domain) domain process request) (line_of (namespace_of p domain) request) v

  function-new : (domain : Domain) (request : Request) (mode : Function → Mode) (o : Option Function) → SeenNew domain request (option_map (λ function. in_mode is_path p attached domain (namespace_of p domain) request (first (namespace_of p domain) domain process request) (mode function)) o)
  function-new domain request mode None v is = absurd cc
  function-new domain request mode (Some function) v is =
      let made : Verdict = in_mode is_path p attached domain (namespace_of p domain) request (first (namespace_of p domain) domain process request) (mode function) in
      let same : made ≡ v = cc in
      subst (λ (w : Verdict). LearnsNew (first (namespace_of p domain) domain process request) (line_of (namespace_of p domain) request) w) same (in_mode-new domain (namespace_of p domain) request (first (namespace_of p domain) domain process request) (mode function))

  in-new : (domain : Domain) (profile : Profile) (args : Args) (perm : ℕ) (attributes : Attributes) → (let request : Request = record { args = args; perm = perm; attributes = attributes } in SeenNew domain request (verdict_in is_path p attached process request domain profile))
  in-new domain profile (Args.Manual name) perm attributes v is =
      let request : Request = record { args = Args.Manual name; perm = perm; attributes = attributes } in
      let found : Option Granting = first (namespace_of p domain) domain process request in
      let made : Verdict = manual_verdict is_path p domain name found in
      let same : made ≡ v = cc in
      subst (λ (w : Verdict). LearnsNew found (line_of (namespace_of p domain) request) w) same (manual-new domain name found (line_of (namespace_of p domain) request))
  in-new domain profile (Args.Path n) perm attributes v is = function-new domain (record { args = Args.Path n; perm = perm; attributes = attributes }) (mode_of profile) (function_of (Args.Path n) perm) v is
  in-new domain profile (Args.Execute n q) perm attributes v is = function-new domain (record { args = Args.Execute n q; perm = perm; attributes = attributes }) (mode_of profile) (function_of (Args.Execute n q) perm) v is
  in-new domain profile (Args.PathNumber n k) perm attributes v is = function-new domain (record { args = Args.PathNumber n k; perm = perm; attributes = attributes }) (mode_of profile) (function_of (Args.PathNumber n k) perm) v is
  in-new domain profile (Args.Device n a b c) perm attributes v is = function-new domain (record { args = Args.Device n a b c; perm = perm; attributes = attributes }) (mode_of profile) (function_of (Args.Device n a b c) perm) v is
  in-new domain profile (Args.Path2 n m) perm attributes v is = function-new domain (record { args = Args.Path2 n m; perm = perm; attributes = attributes }) (mode_of profile) (function_of (Args.Path2 n m) perm) v is
  in-new domain profile (Args.Mount a b c d) perm attributes v is = function-new domain (record { args = Args.Mount a b c d; perm = perm; attributes = attributes }) (mode_of profile) (function_of (Args.Mount a b c d) perm) v is
  in-new domain profile (Args.Inet a b c) perm attributes v is = function-new domain (record { args = Args.Inet a b c; perm = perm; attributes = attributes }) (mode_of profile) (function_of (Args.Inet a b c) perm) v is
  in-new domain profile (Args.Unix a n) perm attributes v is = function-new domain (record { args = Args.Unix a n; perm = perm; attributes = attributes }) (mode_of profile) (function_of (Args.Unix a n) perm) v is
  in-new domain profile (Args.Env n) perm attributes v is = function-new domain (record { args = Args.Env n; perm = perm; attributes = attributes }) (mode_of profile) (function_of (Args.Env n) perm) v is

  -- a look that learns: its domain is there, nothing was found in it, and the line is the request's
  pub record IsNew (d : ℕ) (request : Request) (line : Option Entry) : Type 0 where
    pub domain : Domain
    pub there : domain_at p d ≡ Some domain
    pub none : first (namespace_of p domain) domain process request ≡ None
    pub line_is : line ≡ Some (line_of (namespace_of p domain) request)

  pub verdict-new : (d : ℕ) (request : Request) (v : Verdict) → verdict is_path p attached d process request ≡ Some v → v.reason ≡ Reason.Learn → IsNew d request v.line
  unfolding verdict
  verdict-new d request v is learns = by_domain (domain_at p d) refl is
    where
      by_profile : (domain : Domain) → domain_at p d ≡ Some domain → (o : Option Profile) → option_and_then (verdict_in is_path p attached process request domain) o ≡ Some v → IsNew d request v.line
      by_profile domain at None is = absurd cc
      by_profile domain at (Some profile) is =
          let n = in-new domain profile request.args request.perm request.attributes v is learns in record { domain = domain; there = at; none = n.0; line_is = n.1 }

      by_domain : (o : Option Domain) → domain_at p d ≡ o → option_and_then (λ domain. option_and_then (verdict_in is_path p attached process request domain) (profile_of p domain)) o ≡ Some v → IsNew d request v.line
      by_domain None at is = absurd cc
      by_domain (Some domain) at is = by_profile domain at (profile_of p domain) is

-- The steps that a verdict asks for

-- a Learn is asked for by a verdict that learns, of its line and in its domain
abbrev pub LearnsBy : ℕ → Verdict → Step → Type 0
LearnsBy d v (Step.Learn e line) = (e ≡ d) × (v.reason ≡ Reason.Learn) × (v.line ≡ Some line)
LearnsBy d v _ = Unit {0}

line-learns : (g : Grammar) (d retry : ℕ) (mode : Option Mode) (reason : Reason) (name : NamePlace) (step : Move) (target : Option DomainName) (line : Option Entry) → (let v : Verdict = record { mode = mode; reason = reason; name = name; step = step; target = target; line = line } in AllByRecursion (LearnsBy d v) (steps_of_line g d retry v))
line-learns g d retry mode Reason.Learn name step target (Some line) = ((refl, refl, refl), tt)
line-learns g d retry mode Reason.Learn name step target None = tt
line-learns g d retry mode Reason.Ask name step target (Some line) = (tt, tt)
line-learns g d retry mode Reason.Ask name step target None = tt
line-learns g d retry mode (Reason.Entry place) name step target line = tt
line-learns g d retry mode Reason.Disabled name step target line = tt
line-learns g d retry mode Reason.Permissive name step target line = tt
line-learns g d retry mode Reason.Quota name step target line = tt
line-learns g d retry mode Reason.NoEntry name step target line = tt
line-learns g d retry mode Reason.NotReady name step target line = tt
line-learns g d retry mode Reason.NoManual name step target line = tt

move-learns : (d : ℕ) (mode : Option Mode) (reason : Reason) (name : NamePlace) (step : Move) (target : Option DomainName) (line : Option Entry) → (let v : Verdict = record { mode = mode; reason = reason; name = name; step = step; target = target; line = line } in AllByRecursion (LearnsBy d v) (steps_of_move d v))
move-learns d mode reason name Move.Make (Some target) line = (tt, tt)
move-learns d mode reason name Move.Make None line = tt
move-learns d mode reason name Move.Fail target line = (tt, tt)
move-learns d mode reason name Move.Stay target line = tt
move-learns d mode reason name (Move.Enter n) target line = tt

pub asked-learns : (g : Grammar) (d retry : ℕ) (v : Verdict) (granted : Bool) → AllByRecursion (LearnsBy d v) (steps_asked g d retry v granted)
unfolding steps_asked
asked-learns g d retry v granted = All-append (LearnsBy d v) (steps_of_line g d retry v) (if granted then steps_of_move d v else []) (line-learns g d retry v.mode v.reason v.name v.step v.target v.line) (go granted)
  where
    go : (b : Bool) → AllByRecursion (LearnsBy d v) (if b then steps_of_move d v else [])
    go true = move-learns d v.mode v.reason v.name v.step v.target v.line
    go false = tt

-- Requests that a trace can hold

-- an execute has its three values
pub record HasValues (request : Request) : Type 0 where
  pub real : Word
  pub argument : Word
  pub real_is : request.attributes.real_path ≡ Some real
  pub argument_is : slice_get request.attributes.argv 0 ≡ Some argument

pub has-values : (is_path : Text → Bool) (request : Request) → is_request is_path request ≡ true → is_execute request ≡ true → HasValues request
unfolding is_request
has-values is_path request is execute =
    let asked : Bool = is_some (function_of request.args request.perm) || (is_manual request && request.perm == 0) in
    let has : Bool = if is_execute request then has_exec request else has_no_exec request in
    let b = and_parts (are_literal is_path request.args && asked) (has_its_attributes request) is in
    let linked : Bool = beq (is_symlink request) (is_some request.attributes.target) in
    let target : Bool = bytes_if request.attributes.target in
    let may : Bool = list_all (may_have request.args) request.attributes.stats in
    let c = and_parts (has && linked && target && may) (list_all is_stat request.attributes.stats) b.1 in
    let d = and_parts (has && linked && target) may c.0 in
    let f = and_parts (has && linked) target d.0 in
    let e : has_exec request ≡ true = rw execute at (and_parts has linked f.0).0 in
    let path : Bool = is_path_word (path_of request) in
    let there : Bool = has_bytes request.attributes.real_path in
    let some : Bool = not (is_empty request.attributes.argv) in
    let words : Bool = list_all are_bytes request.attributes.argv in
    let i = and_parts (path && there && some && words) (list_all (λ pair. are_bytes pair.0 && are_bytes pair.1) request.attributes.envp) e in
    let j = and_parts (path && there && some) words i.0 in
    let k = and_parts (path && there) some j.0 in
    let real = real-of request.attributes.real_path (and_parts path there k.0).1 in
    let argument = argument-of request.attributes.argv k.1 in
    record { real = real.0; argument = argument.0; real_is = real.1; argument_is = argument.1 }
  where
    real-of : (o : Option Word) → has_bytes o ≡ true → (w : Word) × (o ≡ Some w)
    real-of None h = absurd cc
    real-of (Some w) h = (w, refl)

    argument-of : (ws : List Word) → not (is_empty ws) ≡ true → (w : Word) × (slice_get ws 0 ≡ Some w)
    argument-of [] h = absurd cc
    argument-of (w ∷ ws) h = (w, refl)

-- an execute's line is that of its three values
pub record Executed (ns : Namespace) (request : Request) : Type 0 where
  pub values : Execute
  pub is : IsExecute values (searched ns request)
  pub line : line_of ns request ≡ execute_line values

values-line : (request : Request) (name real argument : Word) → is_execute request ≡ true → request.perm ≡ 0 → request.attributes.real_path ≡ Some real → slice_get request.attributes.argv 0 ≡ Some argument
    → (let x : Execute = record { name = name; real = real; argument = argument } in learned_line request name ≡ execute_line x)
unfolding learned_line
values-line request name real argument execute perm real_is argument_is = rw (execute, perm, real_is, argument_is) refl

pub executed : (is_path : Text → Bool) (ns : Namespace) (request : Request) → is_request is_path request ≡ true → is_execute request ≡ true → Executed ns request
executed is_path ns request is execute =
    let has = has-values is_path request is execute in
    let perm : request.perm ≡ 0 = eqb-true request.perm 0 (execute-first request execute) in
    let values : Execute = record { name = aggregated ns (path_of request); real = has.real; argument = has.argument } in
    record {
      values = values;
      is = rw execute (record { args = refl; perm = perm; real = has.real_is; argument = has.argument_is });
      line = values-line request (aggregated ns (path_of request)) has.real has.argument execute perm has.real_is has.argument_is;
    }

-- the line of another request lets nothing be executed
other-line : (is_path : Text → Bool) (args : Args) (perm : ℕ) → are_literal is_path args ≡ true → (attributes : Attributes) → (let request : Request = record { args = args; perm = perm; attributes = attributes } in is_execute request ≡ false → (ns : Namespace) → lets_execute (line_of ns request) ≡ false)
unfolding learned_line
other-line is_path (Args.Path n) perm literal_ attributes other ns = rw other (rw (bit_at-pow_other perm 0 (λ same. eqb-false perm 0 other (sym same))) refl)
other-line is_path (Args.Execute n q) perm literal_ attributes other ns = absurd cc
other-line is_path (Args.PathNumber n k) perm literal_ attributes other ns = refl
other-line is_path (Args.Device n a b c) perm literal_ attributes other ns = refl
other-line is_path (Args.Path2 n m) perm literal_ attributes other ns = refl
other-line is_path (Args.Mount a b c d) perm literal_ attributes other ns = refl
other-line is_path (Args.Inet a b c) perm literal_ attributes other ns = refl
other-line is_path (Args.Unix a n) perm literal_ attributes other ns = refl
other-line is_path (Args.Env n) perm literal_ attributes other ns = refl
other-line is_path (Args.Manual n) perm literal_ attributes other ns = refl

pub other-blind : (is_path : Text → Bool) (ns : Namespace) (request : Request) → is_request is_path request ≡ true → is_execute request ≡ false → (groups : Groups) (x : Execute) → Blind groups x (line_of ns request)
unfolding is_request
other-blind is_path ns request is other groups x =
    let asked : Bool = is_some (function_of request.args request.perm) || (is_manual request && request.perm == 0) in
    let b = and_parts (are_literal is_path request.args && asked) (has_its_attributes request) is in
    let c = and_parts (are_literal is_path request.args) asked b.0 in
    let line : Entry = line_of ns request in
    blind-quiet groups x line.args line.perms.bits line.cond (other-line is_path request.args request.perm c.0 request.attributes other ns)
