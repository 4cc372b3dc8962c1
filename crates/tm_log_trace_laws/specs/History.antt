-- The lines of a trace in the order in which they happened, and where each process is.
use Rattle.std.specs.Prelude.{◌≡◌, ⊤, ℕ, suc, ◌==◌, ◌&&◌, not, Bool, true, false, if◌then◌else◌, ◌⊎◌, List, [], ◌∷◌, Option, Some, None}
use Rattle.tm_rules.specs.Types.{Args, Item}
use Rattle.tm_rules.specs.Prelude.{DomainName, Trace, is_execute, pid_of_line}
use Rattle.tm_log.specs.declared.log.Used.{Used}
use Rattle.tm_log_processes.specs.Domains.{leads}

-- a line of the trace: the place of its tree, from 0, the line itself, the domain in which its
-- process is there, and the record of the log that it is of, if any
pub record Happening : Type 0 where
  pub tree : ℕ
  pub item : Item
  pub domain : DomainName
  pub used : Option Used

-- where a process is: its tree, its domain, and whether its last line was an execute that may have
-- led it on
pub record Stand : Type 0 where
  pub tree : ℕ
  pub domain : DomainName
  pub is_open : Bool

-- the stands of processes by their pids, the latest first
abbrev pub Stands : Type 0
Stands = List (ℕ × Stand)

abbrev pub stand_of : Stands → ℕ → Option Stand
stand_of [] pid = None
stand_of (one ∷ more) pid = if one.0 == pid then Some one.1 else stand_of more pid

-- a process may be in a domain: it was there, or its execute may have led there
abbrev pub MayBe : Stand → DomainName → Type 0
MayBe stand domain = (stand.domain ≡ domain) ⊎ ((stand.is_open ≡ true) × (leads stand.domain domain ≡ true))

-- it is there, in this tree
abbrev pub StandsIn : Option Stand → ℕ → DomainName → Type 0
StandsIn None tree domain = ⊥
StandsIn (Some stand) tree domain = (stand.tree ≡ tree) × MayBe stand domain

-- where a manual transition leads; other requests that no record is of lead nowhere
abbrev pub led : Args → DomainName → DomainName
led (Args.Manual to) domain = to
led _ domain = domain

abbrev pub domain_after : Item → DomainName → DomainName
domain_after (Item.Do pid request) domain = led request.args domain
domain_after (Item.Ids pid ids) domain = domain
domain_after (Item.Fork pid child) domain = domain

-- after a record its process is in the record's domain, and may go on from there by an execute that
-- wasn't refused
abbrev pub stand_by : Option Used → Happening → Stand
stand_by None h = record { tree = h.tree; domain = domain_after h.item h.domain; is_open = false }
stand_by (Some used) h = record {
  tree = h.tree;
  domain = h.domain;
  is_open = is_execute used.«record».request && not used.«record».refused;
}

abbrev pub stand_after : Happening → Stand
stand_after h = stand_by h.used h

-- a child stands where its parent does
abbrev pub with_child : Item → Stand → Stands → Stands
with_child (Item.Fork pid child) stand stands = (child, stand) ∷ stands
with_child (Item.Ids pid ids) stand stands = stands
with_child (Item.Do pid request) stand stands = stands

abbrev pub after_line : Stands → Happening → Stands
after_line stands h = with_child h.item (stand_after h) ((pid_of_line h.item, stand_after h) ∷ stands)

-- each line is of a process that is in the line's tree and may be in the line's domain
abbrev pub Replays : Stands → List Happening → Type 0
Replays stands [] = ⊤
Replays stands (h ∷ more) =
    StandsIn (stand_of stands (pid_of_line h.item)) h.tree h.domain × Replays (after_line stands h) more

-- the first process of each tree, the first of which has this place
abbrev pub firsts_from : ℕ → Trace → Stands
firsts_from t [] = []
firsts_from t (tree ∷ trees) =
    (tree.pid, record { tree = t; domain = tree.start; is_open = false }) ∷ firsts_from (suc t) trees
