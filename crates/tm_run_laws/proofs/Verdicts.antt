-- The line that a verdict has can be written.
use Rattle.std.proofs.Common.{◌≡◌, ℕ, Bool, true, false, cond, ◌&&◌, ◌||◌, not}
use Rattle.std.specs.Prelude.{Option, Some, None, ◌==◌, if◌then◌else◌, option_map, unwrap_or, is_some, IfSome}
use Rattle.std.specs.List.{AllByRecursion, find, list_all}
use Rattle.std.specs.Bool.{beq}
use Rattle.std.specs.Option.{option_and_then}
use Rattle.std.proofs.lemmas.Bool.{and_parts}
use Rattle.tm_word.specs.Prelude.{Pattern, Text, Word, are_bytes, is_empty, matches, texts_equal}
use Rattle.tm_rules.specs.Types.{Args, Attributes, Domain, Entry, Function, Mode, Move, Namespace, Policy, Proc, Profile, Reason, Request, Verdict, function_of}
use Rattle.tm_rules.specs.Prelude.{Decision, DomainName, Grammar, Granting, IsGrammar, aggregated, are_literal, bytes_if, can_enter, candidate, decision, domain_at, empty_namespace, first, has_bytes, has_exec, has_its_attributes, has_no_exec, is_execute, is_manual, is_path_word, is_request, is_stat, is_strict, is_symlink, line_of, may_have, mode_of, namespace_named, namespace_of, namespace_word, path_of, profile_of, target_name}
use Rattle.tm_legal.specs.Prelude.{by_entry, by_mode, denied, execute_verdict, in_mode, is_enforcing, is_ready, manual_verdict, move_to, moving, verdict, verdict_in, with_line}
use Rattle.tm_legal.proofs.Asked.{found_holds}

-- ---- learned lines

-- each aggregator leads to a path
abbrev pub LeadToPaths : Policy → Type 0
LeadToPaths p = AllByRecursion (λ (ns : Namespace). AllByRecursion (λ (pair : Pattern × Word). is_path_word pair.1 ≡ true) ns.aggregators) p.namespaces

aggregated_path : (ns : Namespace) (path : Word) → AllByRecursion (λ (pair : Pattern × Word). is_path_word pair.1 ≡ true) ns.aggregators → is_path_word path ≡ true → is_path_word (aggregated ns path) ≡ true
unfolding aggregated
aggregated_path ns path all is =
    by_found (find (λ (pair : Pattern × Word). matches pair.0 path) ns.aggregators) (found_holds (λ (pair : Pattern × Word). is_path_word pair.1 ≡ true) (λ (pair : Pattern × Word). matches pair.0 path) ns.aggregators all)
  where
    by_found : (o : Option (Pattern × Word)) → IfSome o (λ (pair : Pattern × Word). is_path_word pair.1 ≡ true) → is_path_word (unwrap_or (option_map (λ pair. pair.1) o) path) ≡ true
    by_found None h = is
    by_found (Some pair) h = h

aggregators_of : (p : Policy) (name : Text) → LeadToPaths p → AllByRecursion (λ (pair : Pattern × Word). is_path_word pair.1 ≡ true) (namespace_named p name).aggregators
unfolding namespace_named
aggregators_of p name lead =
    by_found (find (λ (ns : Namespace). texts_equal ns.name name) p.namespaces)
    (found_holds (λ (ns : Namespace). AllByRecursion (λ (pair : Pattern × Word). is_path_word pair.1 ≡ true) ns.aggregators) (λ (ns : Namespace). texts_equal ns.name name) p.namespaces lead)
  where
    by_found : (o : Option Namespace) → IfSome o (λ (ns : Namespace). AllByRecursion (λ (pair : Pattern × Word). is_path_word pair.1 ≡ true) ns.aggregators) → AllByRecursion (λ (pair : Pattern × Word). is_path_word pair.1 ≡ true) (unwrap_or o (empty_namespace name)).aggregators
    by_found None h = tt
    by_found (Some ns) h = h

-- what an execute executes is a path
asks_path : (is_path : Text → Bool) (request : Request) → is_request is_path request ≡ true → is_execute request ≡ true → is_path_word (path_of request) ≡ true
unfolding is_request
asks_path is_path request is execute =
    let asked : Bool = is_some (function_of request.args request.perm) || (is_manual request && request.perm == 0) in
    let has : Bool = if is_execute request then has_exec request else has_no_exec request in
    let b = and_parts (are_literal is_path request.args && asked) (has_its_attributes request) is in
    let linked : Bool = beq (is_symlink request) (is_some request.attributes.target) in
    let target : Bool = bytes_if request.attributes.target in
    let may : Bool = list_all (may_have request.args) request.attributes.stats in
    let c = and_parts (has && linked && target && may) (list_all is_stat request.attributes.stats) b.1 in
    let d = and_parts (has && linked && target) may c.0 in
    let f = and_parts (has && linked) target d.0 in
    let e : has_exec request ≡ true = rw execute at (and_parts has linked f.0).0 in
    let path : Bool = is_path_word (path_of request) in
    let real : Bool = has_bytes request.attributes.real_path in
    let some : Bool = not (is_empty request.attributes.argv) in
    let argv : Bool = list_all are_bytes request.attributes.argv in
    let i = and_parts (path && real && some && argv) (list_all (λ pair. are_bytes pair.0 && are_bytes pair.1) request.attributes.envp) e in
    let j = and_parts (path && real && some) argv i.0 in
    let k = and_parts (path && real) some j.0 in
    (and_parts path real k.0).0

line_can : (g : Grammar) (p : Policy) (x : Domain) (request : Request) → IsGrammar g → LeadToPaths p → is_request g.is_path request ≡ true → g.can_write (line_of (namespace_of p x) request) ≡ true
line_can g p x request grammar lead is =
    let ns : Namespace = namespace_of p x in
    grammar.learned request (aggregated ns (path_of request)) is (λ execute. aggregated_path ns (path_of request) (aggregators_of p (namespace_word x.name) lead) (asks_path g.is_path request is execute))

-- ---- verdicts

module _ (g : Grammar) where
  -- its line, where it has one, can be written
  abbrev pub LineWritten : Verdict → Type 0
  LineWritten v = IfSome v.line (λ entry. g.can_write entry ≡ true)

  -- the same of a verdict, where there is one
  abbrev IsFine : Option Verdict → Type 0
  IsFine o = IfSome o LineWritten

  then_fine : {A : Type 0} (f : A → Option Verdict) (o : Option A) → ((x : A) → IsFine (f x)) → IsFine (option_and_then f o)
  then_fine f None h = tt
  then_fine f (Some x) h = h x

  map_fine : {A : Type 0} (f : A → Verdict) (o : Option A) → ((x : A) → LineWritten (f x)) → IsFine (option_map f o)
  map_fine f None h = tt
  map_fine f (Some x) h = h x

  mode_fine : (mode : Mode) (attached : Bool) (domain : Domain) (found : Option Granting) (line : Entry) (move : Move) (target : Option DomainName) → g.can_write line ≡ true → LineWritten (by_mode mode attached domain found line move target)
  unfolding by_mode
  mode_fine Mode.Disabled attached domain found line move target can = tt
  mode_fine Mode.Learning attached domain (Some found) line move target can = tt
  mode_fine Mode.Permissive attached domain (Some found) line move target can = tt
  mode_fine Mode.Enforcing attached domain (Some found) line move target can = tt
  mode_fine Mode.Learning attached domain None line move target can = by_quota domain.quota_exceeded
    where
      by_quota : (b : Bool) → LineWritten (cond b (moving (Some Mode.Learning) Reason.Quota move target) (with_line (moving (Some Mode.Learning) Reason.Learn move target) line))
      by_quota true = tt
      by_quota false = can
  mode_fine Mode.Permissive attached domain None line move target can = tt
  mode_fine Mode.Enforcing attached domain None line move target can = by_desk attached
    where
      by_desk : (b : Bool) → LineWritten (cond b (with_line (moving (Some Mode.Enforcing) Reason.Ask move target) line) (denied (Some Mode.Enforcing) Reason.NoEntry))
      by_desk true = can
      by_desk false = tt

  manual_fine : (p : Policy) (domain : Domain) (name : DomainName) (found : Option Granting) → LineWritten (manual_verdict g.is_path p domain name found)
  unfolding manual_verdict
  manual_fine p domain name None = tt
  manual_fine p domain name (Some found) = by_way (can_enter g.is_path p domain.name name)
    where
      by_way : (b : Bool) → LineWritten (cond b (by_entry None found (move_to g.is_path p domain (Some name)) (Some name)) (denied None Reason.NotReady))
      by_way true = tt
      by_way false = tt

  execute_fine : (p : Policy) (attached : Bool) (domain : Domain) (ns : Namespace) (mode : Mode) (found : Option Granting) (request : Request) → g.can_write (line_of ns request) ≡ true → LineWritten (execute_verdict g.is_path p attached domain ns mode found request)
  unfolding execute_verdict
  execute_fine p attached domain ns mode found request can = by_ready (not (is_ready g.is_path p domain target) && (is_strict decided || is_enforcing mode))
    where
      decided : Decision
      decided = decision ns domain.name found request

      target : Option DomainName
      target = target_name domain.name (candidate ns found request) decided

      by_ready : (b : Bool) → LineWritten (cond b (denied (Some mode) Reason.NotReady) (by_mode mode attached domain found (line_of ns request) (move_to g.is_path p domain target) target))
      by_ready true = tt
      by_ready false = mode_fine mode attached domain found (line_of ns request) (move_to g.is_path p domain target) target can

  in_mode_fine : (p : Policy) (attached : Bool) (domain : Domain) (ns : Namespace) (request : Request) (found : Option Granting) (mode : Mode) → g.can_write (line_of ns request) ≡ true → LineWritten (in_mode g.is_path p attached domain ns request found mode)
  in_mode_fine p attached domain ns request found mode can = by_kind (is_execute request)
    where
      by_kind : (b : Bool) → LineWritten (cond b (execute_verdict g.is_path p attached domain ns mode found request) (by_mode mode attached domain found (line_of ns request) Move.Stay None))
      by_kind true = execute_fine p attached domain ns mode found request can
      by_kind false = mode_fine mode attached domain found (line_of ns request) Move.Stay None can

  function_fine : (p : Policy) (attached : Bool) (domain : Domain) (request : Request) (found : Option Granting) (mode : Function → Mode) (o : Option Function) → g.can_write (line_of (namespace_of p domain) request) ≡ true
      → IsFine (option_map (λ function. in_mode g.is_path p attached domain (namespace_of p domain) request found (mode function)) o)
  function_fine p attached domain request found mode o can =
      map_fine (λ function. in_mode g.is_path p attached domain (namespace_of p domain) request found (mode function)) o (λ function. in_mode_fine p attached domain (namespace_of p domain) request found (mode function) can)

  in_fine : (p : Policy) (attached : Bool) (process : Proc) (domain : Domain) (profile : Profile) (args : Args) (perm : ℕ) (attributes : Attributes)
      → (let request : Request = record { args = args; perm = perm; attributes = attributes } in g.can_write (line_of (namespace_of p domain) request) ≡ true → IsFine (verdict_in g.is_path p attached process request domain profile))
  in_fine p attached process domain profile (Args.Manual name) perm attributes can =
      let request : Request = record { args = Args.Manual name; perm = perm; attributes = attributes } in
      manual_fine p domain name (first (namespace_of p domain) domain process request)
  in_fine p attached process domain profile (Args.Path n) perm attributes can =
      let request : Request = record { args = Args.Path n; perm = perm; attributes = attributes } in
      function_fine p attached domain request (first (namespace_of p domain) domain process request) (mode_of profile) (function_of request.args perm) can
  in_fine p attached process domain profile (Args.Execute n prefer) perm attributes can =
      let request : Request = record { args = Args.Execute n prefer; perm = perm; attributes = attributes } in
      function_fine p attached domain request (first (namespace_of p domain) domain process request) (mode_of profile) (function_of request.args perm) can
  in_fine p attached process domain profile (Args.PathNumber n k) perm attributes can =
      let request : Request = record { args = Args.PathNumber n k; perm = perm; attributes = attributes } in
      function_fine p attached domain request (first (namespace_of p domain) domain process request) (mode_of profile) (function_of request.args perm) can
  in_fine p attached process domain profile (Args.Device n mode major minor) perm attributes can =
      let request : Request = record { args = Args.Device n mode major minor; perm = perm; attributes = attributes } in
      function_fine p attached domain request (first (namespace_of p domain) domain process request) (mode_of profile) (function_of request.args perm) can
  in_fine p attached process domain profile (Args.Path2 n m) perm attributes can =
      let request : Request = record { args = Args.Path2 n m; perm = perm; attributes = attributes } in
      function_fine p attached domain request (first (namespace_of p domain) domain process request) (mode_of profile) (function_of request.args perm) can
  in_fine p attached process domain profile (Args.Mount device dir kind flags) perm attributes can =
      let request : Request = record { args = Args.Mount device dir kind flags; perm = perm; attributes = attributes } in
      function_fine p attached domain request (first (namespace_of p domain) domain process request) (mode_of profile) (function_of request.args perm) can
  in_fine p attached process domain profile (Args.Inet kind addr port) perm attributes can =
      let request : Request = record { args = Args.Inet kind addr port; perm = perm; attributes = attributes } in
      function_fine p attached domain request (first (namespace_of p domain) domain process request) (mode_of profile) (function_of request.args perm) can
  in_fine p attached process domain profile (Args.Unix kind n) perm attributes can =
      let request : Request = record { args = Args.Unix kind n; perm = perm; attributes = attributes } in
      function_fine p attached domain request (first (namespace_of p domain) domain process request) (mode_of profile) (function_of request.args perm) can
  in_fine p attached process domain profile (Args.Env n) perm attributes can =
      let request : Request = record { args = Args.Env n; perm = perm; attributes = attributes } in
      function_fine p attached domain request (first (namespace_of p domain) domain process request) (mode_of profile) (function_of request.args perm) can

  -- the verdict on a request that a trace can hold
  pub line_written : (p : Policy) (attached : Bool) (d : ℕ) (process : Proc) (request : Request) → IsGrammar g → LeadToPaths p → is_request g.is_path request ≡ true → IfSome (verdict g.is_path p attached d process request) LineWritten
  unfolding verdict
  line_written p attached d process request grammar lead is =
      then_fine (λ domain. option_and_then (verdict_in g.is_path p attached process request domain) (profile_of p domain)) (domain_at p d) (λ domain. then_fine (verdict_in g.is_path p attached process request domain) (profile_of p domain)
      (λ profile. in_fine p attached process domain profile request.args request.perm request.attributes (line_can g p domain request grammar lead is)))
