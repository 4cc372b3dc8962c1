-- Each verdict on a request of a process whose domain is there: it is given, and the steps that it
-- asks for fit.
use Rattle.std.proofs.Common.{◌≡◌, ℕ, ◌+◌, ◌*◌, ◌^◌, List, [], ◌∷◌, ◌++◌, Bool, true, false, true≢false, refl, sym, ap, ◌∙◌, subst, arith, inl, inr, ◌⊎◌}
use Rattle.std.specs.Prelude.{Option, Some, None, ◌&&◌, ◌||◌, ◌==◌, cond, if◌then◌else◌, option_map, unwrap_or, not, IsSome, is_some, count_ones, IfSome}
use Rattle.std.specs.List.{AllByRecursion, find, list_all}
use Rattle.std.specs.Bool.{beq}
use Rattle.std.specs.Option.{option_map_or}
use Rattle.std.specs.Int.Count.{ones, ones_in, ones_cat}
use Rattle.std.proofs.lemmas.Nat.{pow_pos}
use Rattle.std.proofs.lemmas.Bool.{and_parts}
use Rattle.tm_word.specs.Prelude.{Pattern, Text, Word, are_bytes, is_empty, matches, texts_equal}
use Rattle.tm_rules.specs.Prelude.{Decision, DomainName, Grammar, Granting, IsGrammar, aggregated, are_literal, bytes_if, can_enter, candidate, decision, empty_namespace, first, has_bytes, has_exec, has_its_attributes, has_no_exec, is_domain_name, is_execute, is_manual, is_path_word, is_request, is_stat, is_strict, is_symlink, is_task, learned_line, line_of, live_domain, may_have, mode_of, namespace_named, namespace_of, namespace_word, path_of, permission, target_name}
use Rattle.tm_rules.specs.Types.{Args, Attributes, Domain, Entry, Function, Mode, Move, NamePlace, Namespace, Policy, Proc, Profile, Reason, Request, Step, Verdict, function_of}
use Rattle.tm_legal.specs.Prelude.{DomainIn, EndsMake, LineFits, MoveFits, NoMake, NotAsk, Ready, by_entry, by_mode, denied, execute_verdict, fits_entry, in_mode, is_enforcing, is_make, is_ready, made, manual_verdict, move_to, moving, steps_of_line, steps_of_move, verdict, verdict_in, with_line}
use Rattle.tm_legal.proofs.Kept.{DomainIn-later, Keeps, Sound, Ready-later, live_in}

-- Lists

pub All-append : {A : Type 0} (P : A → Type 0) (xs ys : List A) → AllByRecursion P xs → AllByRecursion P ys → AllByRecursion P (xs ++ ys)
All-append P [] ys h k = k
All-append P (x ∷ xs) ys h k = (h.0, All-append P xs ys h.1 k)

-- what holds of all holds of the one that is found
pub found_holds : {A : Type 0} (P : A → Type 0) (t : A → Bool) (xs : List A) → AllByRecursion P xs → IfSome (find t xs) P
found_holds P t [] h = tt
found_holds P t (x ∷ xs) h = go (t x) (found_holds P t xs h.1)
  where
    go : (b : Bool) → IfSome (find t xs) P → IfSome (cond b (Some x) (find t xs)) P
    go true rest = h.0
    go false rest = rest

-- Lines that are learned

-- one place of a row is one permission
one_permission : (k : ℕ) → count_ones (permission k) ≡ 1
unfolding ones ones_in
one_permission k = ap ones (let same : 2 ^ k ≡ 1 * 2 ^ k + 0 = omega arith in same) ∙ ones_cat k 1 0 (pow_pos k)

-- a learned line has one permission, and isn't a manual one
learned_shape : (request : Request) (name : Word) → is_task request.args ≡ false → (count_ones (learned_line request name).perms.bits ≡ 1) × (is_task (learned_line request name).args ≡ false)
unfolding learned_line
learned_shape request name task = go (is_execute request) refl
  where
    go : (b : Bool) → is_execute request ≡ b → (count_ones (learned_line request name).perms.bits ≡ 1) × (is_task (learned_line request name).args ≡ false)
    go true e = rw e (one_permission request.perm, refl)
    go false e = rw e (one_permission request.perm, task)

-- the path of an execute, and each name that an aggregator gives it
aggregated-path : (ns : Namespace) (path : Word) → AllByRecursion (λ (pair : Pattern × Word). is_path_word pair.1 ≡ true) ns.aggregators → is_path_word path ≡ true → is_path_word (aggregated ns path) ≡ true
unfolding aggregated
aggregated-path ns path all is = go (find (λ pair. matches pair.0 path) ns.aggregators) (found_holds (λ (pair : Pattern × Word). is_path_word pair.1 ≡ true) (λ pair. matches pair.0 path) ns.aggregators all)
  where
    go : (o : Option (Pattern × Word)) → IfSome o (λ (pair : Pattern × Word). is_path_word pair.1 ≡ true) → is_path_word (unwrap_or (option_map (λ pair. pair.1) o) path) ≡ true
    go None h = is
    go (Some pair) h = h

-- the aggregators of each namespace of a sound policy
aggregators-of : (p : Policy) (name : Text) → Sound p → AllByRecursion (λ (pair : Pattern × Word). is_path_word pair.1 ≡ true) (namespace_named p name).aggregators
unfolding namespace_named
aggregators-of p name sound = go (find (λ (ns : Namespace). texts_equal ns.name name) p.namespaces) (found_holds (λ (ns : Namespace). AllByRecursion (λ (pair : Pattern × Word). is_path_word pair.1 ≡ true) ns.aggregators) (λ (ns : Namespace). texts_equal ns.name name) p.namespaces sound.aggregators)
  where
    go : (o : Option Namespace) → IfSome o (λ (ns : Namespace). AllByRecursion (λ (pair : Pattern × Word). is_path_word pair.1 ≡ true) ns.aggregators) → AllByRecursion (λ (pair : Pattern × Word). is_path_word pair.1 ≡ true) (unwrap_or o (empty_namespace name)).aggregators
    go None h = tt
    go (Some ns) h = h

-- the parts of a request that a trace can hold
asks_function : (is_path : Text → Bool) (request : Request) → is_request is_path request ≡ true → is_manual request ≡ false → IsSome (function_of request.args request.perm)
unfolding is_request
asks_function is_path request is manual =
    let asked : Bool = is_some (function_of request.args request.perm) || (is_manual request && request.perm == 0) in
    let b = and_parts (are_literal is_path request.args && asked) (has_its_attributes request) is in
    let c = and_parts (are_literal is_path request.args) asked b.0 in
    go (is_some (function_of request.args request.perm)) (rw manual at c.1)
  where
    go : (x : Bool) → (x || false) ≡ true → x ≡ true
    go true e = refl
    go false e = e

asks_path : (is_path : Text → Bool) (request : Request) → is_request is_path request ≡ true → is_execute request ≡ true → is_path_word (path_of request) ≡ true
unfolding is_request
asks_path is_path request is execute =
    let asked : Bool = is_some (function_of request.args request.perm) || (is_manual request && request.perm == 0) in
    let has : Bool = if is_execute request then has_exec request else has_no_exec request in
    let b = and_parts (are_literal is_path request.args && asked) (has_its_attributes request) is in
    let linked : Bool = beq (is_symlink request) (is_some request.attributes.target) in
    let target : Bool = bytes_if request.attributes.target in
    let may : Bool = list_all (may_have request.args) request.attributes.stats in
    let c = and_parts (has && linked && target && may) (list_all is_stat request.attributes.stats) b.1 in
    let d = and_parts (has && linked && target) may c.0 in
    let f = and_parts (has && linked) target d.0 in
    let e : has_exec request ≡ true = rw execute at (and_parts has linked f.0).0 in
    let path : Bool = is_path_word (path_of request) in
    let real : Bool = has_bytes request.attributes.real_path in
    let some : Bool = not (is_empty request.attributes.argv) in
    let argv : Bool = list_all are_bytes request.attributes.argv in
    let i = and_parts (path && real && some && argv) (list_all (λ pair. are_bytes pair.0 && are_bytes pair.1) request.attributes.envp) e in
    let j = and_parts (path && real && some) argv i.0 in
    let k = and_parts (path && real) some j.0 in
    (and_parts path real k.0).0

-- the line of a request that isn't manual can be learned
line-fits : (g : Grammar) (p : Policy) (x : Domain) (request : Request) → IsGrammar g → Sound p → is_request g.is_path request ≡ true → is_task request.args ≡ false → fits_entry g (line_of (namespace_of p x) request) ≡ true
line-fits g p x request grammar sound is task =
    let ns : Namespace = namespace_of p x in
    let name : Word = aggregated ns (path_of request) in
    let shape = learned_shape request name task in
    let writes : g.can_write (learned_line request name) ≡ true =
    grammar.learned request name is (λ execute. aggregated-path ns (path_of request) (aggregators-of p (namespace_word x.name) sound) (asks_path g.is_path request is execute)) in
    rw (writes, shape.0, shape.1) refl

-- Verdicts

-- `ask`, or another reason
pub ask_or_not : (reason : Reason) → (reason ≡ Reason.Ask) ⊎ NotAsk reason
ask_or_not Reason.Ask = inl refl
ask_or_not (Reason.Entry place) = inr tt
ask_or_not Reason.Disabled = inr tt
ask_or_not Reason.Permissive = inr tt
ask_or_not Reason.Quota = inr tt
ask_or_not Reason.Learn = inr tt
ask_or_not Reason.NoEntry = inr tt
ask_or_not Reason.NotReady = inr tt
ask_or_not Reason.NoManual = inr tt

pub MoveFits-later : (g : Grammar) (p q : Policy) (d : ℕ) (move : Move) (target : Option DomainName) → Keeps p q → MoveFits g p d move target → MoveFits g q d move target
MoveFits-later g p q d Move.Stay target keeps h = tt
MoveFits-later g p q d (Move.Enter n) target keeps h = DomainIn-later p q n keeps h
MoveFits-later g p q d Move.Make target keeps h = (h.0, h.1, Ready-later g p q (Step.Make d h.0) keeps h.2)
MoveFits-later g p q d Move.Fail target keeps h = tt

-- what a verdict asks for fits; where nobody is attached it asks nobody
pub record Lawful (g : Grammar) (p : Policy) (attached : Bool) (d : ℕ) (v : Verdict) : Type 0 where
  pub line : LineFits g v.reason v.line
  pub move : MoveFits g p d v.step v.target
  pub alone : attached ≡ false → NotAsk v.reason

module _ (g : Grammar) (p : Policy) (attached : Bool) (d : ℕ) (h : DomainIn p d) where
  move_to-fits : (target : Option DomainName) → Sound p → MoveFits g p d (move_to g.is_path p h.domain target) (made (move_to g.is_path p h.domain target) target)
  unfolding move_to can_enter
  move_to-fits None sound = tt
  move_to-fits (Some name) sound = by_live (live_domain p name) refl
    where
      right : Bool
      right = is_domain_name g.is_path name && texts_equal (namespace_word name) (namespace_word h.domain.name)

      by_name : (b : Bool) → right ≡ b → MoveFits g p d (if b then Move.Make else Move.Fail) (made (if b then Move.Make else Move.Fail) (Some name))
      by_name true e = (name, refl, (h, e))
      by_name false e = tt

      by_live : (o : Option ℕ) → live_domain p name ≡ o → MoveFits g p d (option_map_or Move.Enter o (if (is_some o || right) then Move.Make else Move.Fail)) (made (option_map_or Move.Enter o (if (is_some o || right) then Move.Make else Move.Fail)) (Some name))
      by_live None e = by_name right refl
      by_live (Some n) e = live_in p name n sound e

  mode-lawful : (mode : Mode) (found : Option Granting) (line : Entry) (move : Move) (target : Option DomainName) → fits_entry g line ≡ true → MoveFits g p d move (made move target) → Lawful g p attached d (by_mode mode attached h.domain found line move target)
  unfolding by_mode
  mode-lawful Mode.Disabled found line move target fits good = record { line = tt; move = good; alone = λ a. tt }
  mode-lawful Mode.Learning (Some found) line move target fits good = record { line = tt; move = good; alone = λ a. tt }
  mode-lawful Mode.Permissive (Some found) line move target fits good = record { line = tt; move = good; alone = λ a. tt }
  mode-lawful Mode.Enforcing (Some found) line move target fits good = record { line = tt; move = good; alone = λ a. tt }
  mode-lawful Mode.Learning None line move target fits good = by_quota h.domain.quota_exceeded
    where
      by_quota : (b : Bool) → Lawful g p attached d (if b then moving (Some Mode.Learning) Reason.Quota move target else with_line (moving (Some Mode.Learning) Reason.Learn move target) line)
      by_quota true = record { line = tt; move = good; alone = λ a. tt }
      by_quota false = record { line = fits; move = good; alone = λ a. tt }
  mode-lawful Mode.Permissive None line move target fits good = record { line = tt; move = good; alone = λ a. tt }
  mode-lawful Mode.Enforcing None line move target fits good = by_desk attached refl
    where
      by_desk : (b : Bool) → attached ≡ b → Lawful g p attached d (if b then with_line (moving (Some Mode.Enforcing) Reason.Ask move target) line else denied (Some Mode.Enforcing) Reason.NoEntry)
      by_desk true e = record { line = refl; move = good; alone = λ a. absurd (true≢false (sym e ∙ a)) }
      by_desk false e = record { line = tt; move = tt; alone = λ a. tt }

  -- what a denied request asks for
  not_ready-lawful : (mode : Option Mode) → Lawful g p attached d (denied mode Reason.NotReady)
  not_ready-lawful mode = record { line = tt; move = tt; alone = λ a. tt }

  manual-lawful : (name : DomainName) (found : Option Granting) → Sound p → Lawful g p attached d (manual_verdict g.is_path p h.domain name found)
  unfolding manual_verdict
  manual-lawful name None sound = record { line = tt; move = tt; alone = λ a. tt }
  manual-lawful name (Some found) sound = by_entry_ (can_enter g.is_path p h.domain.name name)
    where
      by_entry_ : (b : Bool) → Lawful g p attached d (if b then by_entry None found (move_to g.is_path p h.domain (Some name)) (Some name) else denied None Reason.NotReady)
      by_entry_ true = record { line = tt; move = move_to-fits (Some name) sound; alone = λ a. tt }
      by_entry_ false = not_ready-lawful None

  execute-lawful : (ns : Namespace) (mode : Mode) (found : Option Granting) (request : Request) → Sound p → fits_entry g (line_of ns request) ≡ true → Lawful g p attached d (execute_verdict g.is_path p attached h.domain ns mode found request)
  unfolding execute_verdict
  execute-lawful ns mode found request sound fits = by_ready (not (is_ready g.is_path p h.domain target) && (is_strict decided || is_enforcing mode))
    where
      decided : Decision
      decided = decision ns h.domain.name found request

      target : Option DomainName
      target = target_name h.domain.name (candidate ns found request) decided

      by_ready : (b : Bool) → Lawful g p attached d (if b then denied (Some mode) Reason.NotReady else by_mode mode attached h.domain found (line_of ns request) (move_to g.is_path p h.domain target) target)
      by_ready true = not_ready-lawful (Some mode)
      by_ready false = mode-lawful mode found (line_of ns request) (move_to g.is_path p h.domain target) target fits (move_to-fits target sound)

  in_mode-lawful : (ns : Namespace) (request : Request) (found : Option Granting) (mode : Mode) → Sound p → fits_entry g (line_of ns request) ≡ true → Lawful g p attached d (in_mode g.is_path p attached h.domain ns request found mode)
  in_mode-lawful ns request found mode sound fits = go (is_execute request)
    where
      go : (b : Bool) → Lawful g p attached d (if b then execute_verdict g.is_path p attached h.domain ns mode found request else by_mode mode attached h.domain found (line_of ns request) Move.Stay None)
      go true = execute-lawful ns mode found request sound fits
      go false = mode-lawful mode found (line_of ns request) Move.Stay None fits tt

  -- a verdict is given, and it is lawful
  abbrev Given : Option Verdict → Type 0
  Given o = (v : Verdict) × (o ≡ Some v) × Lawful g p attached d v

  function-given : (ns : Namespace) (request : Request) (found : Option Granting) (mode : Function → Mode) (o : Option Function) → Sound p → fits_entry g (line_of ns request) ≡ true → IsSome o → Given (option_map (λ function. in_mode g.is_path p attached h.domain ns request found (mode function)) o)
  function-given ns request found mode None sound fits some = absurd cc
  function-given ns request found mode (Some function) sound fits some = (in_mode g.is_path p attached h.domain ns request found (mode function), refl, in_mode-lawful ns request found (mode function) sound fits)

  -- every request that a trace can hold has a verdict
  in-given : IsGrammar g → Sound p → (process : Proc) (profile : Profile) (args : Args) (perm : ℕ) (attributes : Attributes) → (let request : Request = record { args = args; perm = perm; attributes = attributes } in is_request g.is_path request ≡ true → Given (verdict_in g.is_path p attached process request h.domain profile))
  in-given grammar sound process profile (Args.Manual name) perm attributes is =
      let request : Request = record { args = Args.Manual name; perm = perm; attributes = attributes } in
      let found : Option Granting = first (namespace_of p h.domain) h.domain process request in (manual_verdict g.is_path p h.domain name found, refl, manual-lawful name found sound)
  in-given grammar sound process profile (Args.Path n) perm attributes is =
      let request : Request = record { args = Args.Path n; perm = perm; attributes = attributes } in
      function-given (namespace_of p h.domain) request (first (namespace_of p h.domain) h.domain process request) (mode_of profile) (function_of request.args perm) sound (line-fits g p h.domain request grammar sound is refl) (asks_function g.is_path request is refl)
  in-given grammar sound process profile (Args.Execute n prefer) perm attributes is =
      let request : Request = record { args = Args.Execute n prefer; perm = perm; attributes = attributes } in
      function-given (namespace_of p h.domain) request (first (namespace_of p h.domain) h.domain process request) (mode_of profile) (function_of request.args perm) sound (line-fits g p h.domain request grammar sound is refl) (asks_function g.is_path request is refl)
  in-given grammar sound process profile (Args.PathNumber n k) perm attributes is =
      let request : Request = record { args = Args.PathNumber n k; perm = perm; attributes = attributes } in
      function-given (namespace_of p h.domain) request (first (namespace_of p h.domain) h.domain process request) (mode_of profile) (function_of request.args perm) sound (line-fits g p h.domain request grammar sound is refl) (asks_function g.is_path request is refl)
  in-given grammar sound process profile (Args.Device n mode major minor) perm attributes is =
      let request : Request = record { args = Args.Device n mode major minor; perm = perm; attributes = attributes } in
      function-given (namespace_of p h.domain) request (first (namespace_of p h.domain) h.domain process request) (mode_of profile) (function_of request.args perm) sound (line-fits g p h.domain request grammar sound is refl) (asks_function g.is_path request is refl)
  in-given grammar sound process profile (Args.Path2 n m) perm attributes is =
      let request : Request = record { args = Args.Path2 n m; perm = perm; attributes = attributes } in
      function-given (namespace_of p h.domain) request (first (namespace_of p h.domain) h.domain process request) (mode_of profile) (function_of request.args perm) sound (line-fits g p h.domain request grammar sound is refl) (asks_function g.is_path request is refl)
  in-given grammar sound process profile (Args.Mount device dir kind flags) perm attributes is =
      let request : Request = record { args = Args.Mount device dir kind flags; perm = perm; attributes = attributes } in
      function-given (namespace_of p h.domain) request (first (namespace_of p h.domain) h.domain process request) (mode_of profile) (function_of request.args perm) sound (line-fits g p h.domain request grammar sound is refl) (asks_function g.is_path request is refl)
  in-given grammar sound process profile (Args.Inet kind addr port) perm attributes is =
      let request : Request = record { args = Args.Inet kind addr port; perm = perm; attributes = attributes } in
      function-given (namespace_of p h.domain) request (first (namespace_of p h.domain) h.domain process request) (mode_of profile) (function_of request.args perm) sound (line-fits g p h.domain request grammar sound is refl) (asks_function g.is_path request is refl)
  in-given grammar sound process profile (Args.Unix kind n) perm attributes is =
      let request : Request = record { args = Args.Unix kind n; perm = perm; attributes = attributes } in
      function-given (namespace_of p h.domain) request (first (namespace_of p h.domain) h.domain process request) (mode_of profile) (function_of request.args perm) sound (line-fits g p h.domain request grammar sound is refl) (asks_function g.is_path request is refl)
  in-given grammar sound process profile (Args.Env n) perm attributes is =
      let request : Request = record { args = Args.Env n; perm = perm; attributes = attributes } in
      function-given (namespace_of p h.domain) request (first (namespace_of p h.domain) h.domain process request) (mode_of profile) (function_of request.args perm) sound (line-fits g p h.domain request grammar sound is refl) (asks_function g.is_path request is refl)

-- a process whose domain is there has a verdict on every request that a trace can hold
pub judged : (g : Grammar) (p : Policy) (attached : Bool) (d : ℕ) (process : Proc) (request : Request) → IsGrammar g → Sound p → (h : DomainIn p d) → is_request g.is_path request ≡ true → (v : Verdict) × (verdict g.is_path p attached d process request ≡ Some v) × Lawful g p attached d v
unfolding verdict
judged g p attached d process request grammar sound h is =
    let given = in-given g p attached d h grammar sound process h.profile request.args request.perm request.attributes is in (given.0, rw (h.there, h.profiled) given.1, given.2)

-- The steps that a verdict asks for

pub NoMake-append : (xs ys : List Step) → NoMake xs → NoMake ys → NoMake (xs ++ ys)
NoMake-append xs ys h k = All-append (λ step. is_make step ≡ false) xs ys h k

pub EndsMake-append : (xs : List Step) (d : ℕ) (name : DomainName) → NoMake xs → EndsMake (xs ++ Step.Make d name ∷ [])
EndsMake-append [] d name h = refl
EndsMake-append (x ∷ []) d name h = (h.0, refl)
EndsMake-append (x ∷ y ∷ xs) d name h = (h.0, EndsMake-append (y ∷ xs) d name h.1)

module _ (g : Grammar) (p : Policy) (d : ℕ) (h : DomainIn p d) where
  -- the Learn that is asked for fits, and is no Make
  pub line-ready : (r : ℕ) (mode : Option Mode) (reason : Reason) (name : NamePlace) (step : Move) (target : Option DomainName) (line : Option Entry) → NotAsk reason → LineFits g reason line → (let v : Verdict = record { mode = mode; reason = reason; name = name; step = step; target = target; line = line } in AllByRecursion (Ready g p) (steps_of_line g d r v) × NoMake (steps_of_line g d r v))
  line-ready r mode Reason.Learn name step target (Some line) not_ask fits = (((fits, h), tt), (refl, tt))
  line-ready r mode Reason.Learn name step target None not_ask fits = (tt, tt)
  line-ready r mode Reason.Ask name step target line not_ask fits = absurd not_ask
  line-ready r mode (Reason.Entry place) name step target line not_ask fits = (tt, tt)
  line-ready r mode Reason.Disabled name step target line not_ask fits = (tt, tt)
  line-ready r mode Reason.Permissive name step target line not_ask fits = (tt, tt)
  line-ready r mode Reason.Quota name step target line not_ask fits = (tt, tt)
  line-ready r mode Reason.NoEntry name step target line not_ask fits = (tt, tt)
  line-ready r mode Reason.NotReady name step target line not_ask fits = (tt, tt)
  line-ready r mode Reason.NoManual name step target line not_ask fits = (tt, tt)

  -- the Make or the Fail that is asked for fits
  pub move-ready : (mode : Option Mode) (reason : Reason) (name : NamePlace) (step : Move) (target : Option DomainName) (line : Option Entry) → MoveFits g p d step target → (let v : Verdict = record { mode = mode; reason = reason; name = name; step = step; target = target; line = line } in AllByRecursion (Ready g p) (steps_of_move d v))
  move-ready mode reason name Move.Stay target line fits = tt
  move-ready mode reason name (Move.Enter n) target line fits = tt
  move-ready mode reason name Move.Make None line fits = absurd cc
  move-ready mode reason name Move.Make (Some made_) line fits = let same : fits.0 ≡ made_ = cc in (subst (λ n. Ready g p (Step.Make d n)) same fits.2, tt)
  move-ready mode reason name Move.Fail target line fits = (h, tt)

  -- all that is asked for fits, where nobody is asked
  pub owed-ready : (r : ℕ) (v : Verdict) → NotAsk v.reason → LineFits g v.reason v.line → MoveFits g p d v.step v.target → (b : Bool) → AllByRecursion (Ready g p) (steps_of_line g d r v ++ (if b then steps_of_move d v else []))
  owed-ready r v not_ask line move b = All-append (Ready g p) (steps_of_line g d r v) (if b then steps_of_move d v else []) (line-ready r v.mode v.reason v.name v.step v.target v.line not_ask line).0 (go b)
    where
      go : (b : Bool) → AllByRecursion (Ready g p) (if b then steps_of_move d v else [])
      go true = move-ready v.mode v.reason v.name v.step v.target v.line move
      go false = tt

-- a verdict `ask` asks for an Ask
pub ask-line : (g : Grammar) (d r : ℕ) (v : Verdict) → v.reason ≡ Reason.Ask → LineFits g v.reason v.line → (text : Text) × (steps_of_line g d r v ≡ Step.Ask d r text ∷ [])
ask-line g d r v ask fits = go v.mode v.reason v.name v.step v.target v.line ask fits
  where
    go : (mode : Option Mode) (reason : Reason) (name : NamePlace) (step : Move) (target : Option DomainName) (line : Option Entry) → reason ≡ Reason.Ask → LineFits g reason line → (let w : Verdict = record { mode = mode; reason = reason; name = name; step = step; target = target; line = line } in (text : Text) × (steps_of_line g d r w ≡ Step.Ask d r text ∷ []))
    go mode Reason.Ask name step target (Some line) e h = (g.print_entry line, refl)
    go mode Reason.Ask name step target None e h = absurd cc
    go mode Reason.Learn name step target line e h = absurd cc
    go mode (Reason.Entry place) name step target line e h = absurd cc
    go mode Reason.Disabled name step target line e h = absurd cc
    go mode Reason.Permissive name step target line e h = absurd cc
    go mode Reason.Quota name step target line e h = absurd cc
    go mode Reason.NoEntry name step target line e h = absurd cc
    go mode Reason.NotReady name step target line e h = absurd cc
    go mode Reason.NoManual name step target line e h = absurd cc

-- a verdict that isn't `ask` asks for the same steps whatever the retry number
pub same_line_steps : (g : Grammar) (d r q : ℕ) (mode : Option Mode) (reason : Reason) (name : NamePlace) (step : Move) (target : Option DomainName) (line : Option Entry) → NotAsk reason → (let v : Verdict = record { mode = mode; reason = reason; name = name; step = step; target = target; line = line } in steps_of_line g d r v ≡ steps_of_line g d q v)
same_line_steps g d r q mode Reason.Learn name step target (Some line) not_ask = refl
same_line_steps g d r q mode Reason.Learn name step target None not_ask = refl
same_line_steps g d r q mode Reason.Ask name step target line not_ask = absurd not_ask
same_line_steps g d r q mode (Reason.Entry place) name step target line not_ask = refl
same_line_steps g d r q mode Reason.Disabled name step target line not_ask = refl
same_line_steps g d r q mode Reason.Permissive name step target line not_ask = refl
same_line_steps g d r q mode Reason.Quota name step target line not_ask = refl
same_line_steps g d r q mode Reason.NoEntry name step target line not_ask = refl
same_line_steps g d r q mode Reason.NotReady name step target line not_ask = refl
same_line_steps g d r q mode Reason.NoManual name step target line not_ask = refl
