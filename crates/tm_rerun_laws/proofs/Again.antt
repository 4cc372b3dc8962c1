-- The verdict of a later policy whose modes are switched, where the earlier one granted a clean
-- look.
use Rattle.std.proofs.Common.{◌≡◌, ℕ, List, [], Bool, true, false, true≢false, refl, sym, ap, ◌∙◌}
use Rattle.std.specs.Prelude.{Option, Some, None, ◌&&◌, ◌||◌, not, if◌then◌else◌, is_some}
use Rattle.tm_word.specs.Prelude.{Text}
use Rattle.tm_rules.specs.Prelude.{DomainName, Grammar, Granting, can_enter, decision, is_calm_mode, is_execute, is_quota, is_strict, line_of}
use Rattle.tm_rules.specs.Types.{Domain, Entry, Heard, Look, Mode, Move, Namespace, Policy, Reason, Request, Step, Verdict}
use Rattle.tm_legal.specs.Prelude.{by_entry, by_mode, denied, execute_verdict, grants_with, in_mode, is_enforcing, is_granting, is_ready, is_repeated, made, move_to, moving, steps_asked, switched_mode, with_line}
use Rattle.tm_rerun_laws.proofs.SameWay.{way_of}
use Rattle.tm_rerun_laws.proofs.Lands.{Arrives}

-- a verdict as a look shows it
abbrev pub shown : Verdict → Look
shown v = record { version = 0; mode = v.mode; reason = v.reason; step = v.step; own = []; heard = None }

-- where such a look leads
abbrev pub Lands : Move → ℕ → ℕ → Type 0
Lands Move.Stay before after = after ≡ before
Lands (Move.Enter n) before after = after ≡ n
Lands Move.Make before after = ⊥
Lands Move.Fail before after = ⊥

-- a verdict that grants, asks for no step, and lands
pub record IsAgain (v : Verdict) (before after : ℕ) : Type 0 where
  pub repeated : is_repeated (shown v) ≡ true
  pub grants : (heard : Option Heard) → grants_with v.reason heard ≡ true
  pub asks_nothing : (g : Grammar) (d retry : ℕ) (granted : Bool) → steps_asked g d retry v granted ≡ []
  pub lands : Lands v.step before after

none-either : (b : Bool) → (if b then (let none : List Step = [] in none) else []) ≡ []
none-either true = refl
none-either false = refl

pub disabled-again : (move : Move) (target : Option DomainName) (before after : ℕ) → Lands move before after → IsAgain (moving (Some Mode.Disabled) Reason.Disabled move target) before after
unfolding steps_asked
disabled-again Move.Stay target before after h = record { repeated = refl; grants = λ heard. refl; asks_nothing = λ g d retry granted. none-either granted; lands = h }
disabled-again (Move.Enter n) target before after h = record { repeated = refl; grants = λ heard. refl; asks_nothing = λ g d retry granted. none-either granted; lands = h }
disabled-again Move.Make target before after h = absurd h
disabled-again Move.Fail target before after h = absurd h

entry-again : (found : Granting) (move : Move) (target : Option DomainName) (before after : ℕ) → Lands move before after → IsAgain (by_entry (Some Mode.Enforcing) found move target) before after
unfolding steps_asked
entry-again found Move.Stay target before after h = record { repeated = refl; grants = λ heard. refl; asks_nothing = λ g d retry granted. none-either granted; lands = h }
entry-again found (Move.Enter n) target before after h = record { repeated = refl; grants = λ heard. refl; asks_nothing = λ g d retry granted. none-either granted; lands = h }
entry-again found Move.Make target before after h = absurd h
entry-again found Move.Fail target before after h = absurd h

pub manual-again : (found : Granting) (move : Move) (target : Option DomainName) (before after : ℕ) → Lands move before after → IsAgain (by_entry None found move target) before after
unfolding steps_asked
manual-again found Move.Stay target before after h = record { repeated = refl; grants = λ heard. refl; asks_nothing = λ g d retry granted. none-either granted; lands = h }
manual-again found (Move.Enter n) target before after h = record { repeated = refl; grants = λ heard. refl; asks_nothing = λ g d retry granted. none-either granted; lands = h }
manual-again found Move.Make target before after h = absurd h
manual-again found Move.Fail target before after h = absurd h

-- By mode

pub if-both : {A : Type 0} (P : A → Type 0) (b : Bool) (x y : A) → P x → P y → P (if b then x else y)
if-both P true x y h k = h
if-both P false x y h k = k

mode-is : (mode : Mode) (attached : Bool) (domain : Domain) (found : Option Granting) (line : Entry) (move : Move) (target : Option DomainName) → (by_mode mode attached domain found line move target).mode ≡ Some mode
unfolding by_mode
mode-is Mode.Disabled attached domain found line move target = refl
mode-is Mode.Learning attached domain None line move target = if-both (λ (v : Verdict). v.mode ≡ Some Mode.Learning) domain.quota_exceeded (moving (Some Mode.Learning) Reason.Quota move target) (with_line (moving (Some Mode.Learning) Reason.Learn move target) line) refl refl
mode-is Mode.Learning attached domain (Some g) line move target = refl
mode-is Mode.Permissive attached domain None line move target = refl
mode-is Mode.Permissive attached domain (Some g) line move target = refl
mode-is Mode.Enforcing attached domain None line move target = if-both (λ (v : Verdict). v.mode ≡ Some Mode.Enforcing) attached (with_line (moving (Some Mode.Enforcing) Reason.Ask move target) line) (denied (Some Mode.Enforcing) Reason.NoEntry) refl refl
mode-is Mode.Enforcing attached domain (Some g) line move target = refl

-- the verdict moves so
pub record MovesSo (v : Verdict) (move : Move) (target : Option DomainName) : Type 0 where
  pub step : v.step ≡ move
  pub target_is : v.target ≡ made move target

pub moves-so : (mode : Mode) (attached : Bool) (domain : Domain) (found : Option Granting) (line : Entry) (move : Move) (target : Option DomainName) → is_granting (by_mode mode attached domain found line move target).reason ≡ true → MovesSo (by_mode mode attached domain found line move target) move target
unfolding by_mode
moves-so Mode.Disabled attached domain found line move target h = record { step = refl; target_is = refl }
moves-so Mode.Learning attached domain None line move target h =
    if-both (λ (v : Verdict). MovesSo v move target) domain.quota_exceeded (moving (Some Mode.Learning) Reason.Quota move target) (with_line (moving (Some Mode.Learning) Reason.Learn move target) line) (record { step = refl; target_is = refl }) (record { step = refl; target_is = refl })
moves-so Mode.Learning attached domain (Some g) line move target h = record { step = refl; target_is = refl }
moves-so Mode.Permissive attached domain None line move target h = record { step = refl; target_is = refl }
moves-so Mode.Permissive attached domain (Some g) line move target h = record { step = refl; target_is = refl }
moves-so Mode.Enforcing attached domain None line move target h = go attached h
  where
    go : (b : Bool) → is_granting (if b then with_line (moving (Some Mode.Enforcing) Reason.Ask move target) line else denied (Some Mode.Enforcing) Reason.NoEntry).reason ≡ true → MovesSo (if b then with_line (moving (Some Mode.Enforcing) Reason.Ask move target) line else denied (Some Mode.Enforcing) Reason.NoEntry) move target
    go true e = absurd cc
    go false e = absurd cc
moves-so Mode.Enforcing attached domain (Some g) line move target h = record { step = refl; target_is = refl }

-- a verdict in a calm mode that no quota granted
pub record IsCalm (v : Verdict) : Type 0 where
  pub calm : is_calm_mode v.mode ≡ true
  pub no_quota : is_quota v.reason ≡ false

pub by_mode-again : (mode : Mode) (attached more : Bool) (domain later : Domain) (found again : Option Granting) (line line' : Entry) (move : Move) (target : Option DomainName) (move' : Move) (target' : Option DomainName) (before after : ℕ)
    → IsCalm (by_mode mode attached domain found line move target) → (is_some found ≡ true → is_some again ≡ true) → ((by_mode mode attached domain found line move target).reason ≡ Reason.Learn → is_some again ≡ true) → Lands move' before after
    → IsAgain (by_mode (switched_mode mode) more later again line' move' target') before after
unfolding by_mode
by_mode-again Mode.Disabled attached more domain later found again line line' move target move' target' before after calm some learned lands = disabled-again move' target' before after lands
by_mode-again Mode.Learning attached more domain later found (Some g) line line' move target move' target' before after calm some learned lands = entry-again g move' target' before after lands
by_mode-again Mode.Learning attached more domain later (Some f) None line line' move target move' target' before after calm some learned lands = absurd (true≢false (sym (some refl)))
by_mode-again Mode.Learning attached more domain later None None line line' move target move' target' before after calm some learned lands = absurd (go domain.quota_exceeded calm.no_quota learned)
  where
    go : (b : Bool) → is_quota (if b then moving (Some Mode.Learning) Reason.Quota move target else with_line (moving (Some Mode.Learning) Reason.Learn move target) line).reason ≡ false → ((if b then moving (Some Mode.Learning) Reason.Quota move target else with_line (moving (Some Mode.Learning) Reason.Learn move target) line).reason ≡ Reason.Learn → false ≡ true) → ⊥
    go true quota learn = true≢false quota
    go false quota learn = true≢false (sym (learn refl))
by_mode-again Mode.Permissive attached more domain later found again line line' move target move' target' before after calm some learned lands =
    absurd (true≢false (sym calm.calm ∙ ap is_calm_mode (mode-is Mode.Permissive attached domain found line move target)))
by_mode-again Mode.Enforcing attached more domain later found again line line' move target move' target' before after calm some learned lands =
    absurd (true≢false (sym calm.calm ∙ ap is_calm_mode (mode-is Mode.Enforcing attached domain found line move target)))

-- By kind of request

-- the name that a request leads to
abbrev pub target_in : Namespace → DomainName → Option Granting → Request → Option DomainName
target_in ns name found request = if is_execute request then way_of ns name found request else None

unless-ready : (ready u : Bool) (a b : Verdict) → ready ≡ true → (if not ready && u then a else b) ≡ b
unless-ready true u a b e = refl
unless-ready false u a b e = absurd cc

module _ (is_path : Text → Bool) (policy : Policy) (attached : Bool) (domain : Domain) (ns : Namespace) (request : Request) (found : Option Granting) (mode : Mode) where
  -- what the mode says, with the move into the target
  abbrev pub said : Verdict
  said = by_mode mode attached domain found (line_of ns request) (move_to is_path policy domain (target_in ns domain.name found request)) (target_in ns domain.name found request)

  pub granted-said : is_granting (in_mode is_path policy attached domain ns request found mode).reason ≡ true → in_mode is_path policy attached domain ns request found mode ≡ said
  unfolding execute_verdict move_to
  granted-said h = by_kind (is_execute request) h
    where
      way : Option DomainName
      way = way_of ns domain.name found request

      strict : Bool
      strict = is_strict (decision ns domain.name found request) || is_enforcing mode

      entered : Verdict
      entered = by_mode mode attached domain found (line_of ns request) (move_to is_path policy domain way) way

      by_ready : (b : Bool) → is_granting (if b then denied (Some mode) Reason.NotReady else entered).reason ≡ true → (if b then denied (Some mode) Reason.NotReady else entered) ≡ entered
      by_ready true e = absurd cc
      by_ready false e = refl

      by_kind : (b : Bool) → is_granting (if b then execute_verdict is_path policy attached domain ns mode found request else by_mode mode attached domain found (line_of ns request) Move.Stay None).reason ≡ true
          → (if b then execute_verdict is_path policy attached domain ns mode found request else by_mode mode attached domain found (line_of ns request) Move.Stay None)
          ≡ by_mode mode attached domain found (line_of ns request) (move_to is_path policy domain (if b then way_of ns domain.name found request else None)) (if b then way_of ns domain.name found request else None)
      by_kind true e = by_ready (not (is_ready is_path policy domain way) && strict) e
      by_kind false e = refl

  pub ready-said : is_ready is_path policy domain (target_in ns domain.name found request) ≡ true → in_mode is_path policy attached domain ns request found mode ≡ said
  unfolding execute_verdict move_to
  ready-said h = by_kind (is_execute request) h
    where
      way : Option DomainName
      way = way_of ns domain.name found request

      by_kind : (b : Bool) → is_ready is_path policy domain (if b then way_of ns domain.name found request else None) ≡ true
          → (if b then execute_verdict is_path policy attached domain ns mode found request else by_mode mode attached domain found (line_of ns request) Move.Stay None)
          ≡ by_mode mode attached domain found (line_of ns request) (move_to is_path policy domain (if b then way_of ns domain.name found request else None)) (if b then way_of ns domain.name found request else None)
      by_kind true e = unless-ready (is_ready is_path policy domain way) (is_strict (decision ns domain.name found request) || is_enforcing mode) (denied (Some mode) Reason.NotReady) (by_mode mode attached domain found (line_of ns request) (move_to is_path policy domain way) way) e
      by_kind false e = refl

module _ (is_path : Text → Bool) (q : Policy) (domain : Domain) (before after : ℕ) where
  pub arrived-ready : (target : Option DomainName) → Arrives q before after target → is_ready is_path q domain target ≡ true
  unfolding can_enter
  arrived-ready None h = refl
  arrived-ready (Some name) h = rw h refl

  pub arrived-lands : (target : Option DomainName) → Arrives q before after target → Lands (move_to is_path q domain target) before after
  unfolding move_to
  arrived-lands None h = h
  arrived-lands (Some name) h = rw h refl
