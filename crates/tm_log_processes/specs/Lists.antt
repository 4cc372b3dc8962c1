-- The processes in the order of their making, and the domain of each.
use Rattle.std.specs.Prelude.{ℕ, zero, suc, ◌==◌, ◌&&◌, ◌||◌, Bool, true, false, not, if◌then◌else◌, List, [], ◌∷◌, ◌++◌, length, slice_get, slice_set, unwrap_or, Option, Some, None}
use Rattle.tm_rules.specs.Prelude.{DomainName}
use Rattle.tm_word.specs.Prelude.{texts_equal}
use Rattle.tm_log_processes.specs.declared.process.Process.{Process}
use Rattle.tm_log_processes.specs.Domains.{leads}
use Rattle.tm_log_processes.specs.Processes.{nobody}

-- the processes, and at the same places their domains
pub record Listed : Type 0 where
  pub processes : List Process
  pub domains : List DomainName

abbrev pub none_listed : Listed
none_listed = record { processes = []; domains = [] }

-- the process at a place
abbrev pub at : Listed → ℕ → Process
at list p = unwrap_or (slice_get list.processes p) nobody

abbrev pub with_process : Listed → ℕ → Process → Listed
with_process list p process = record list { processes = slice_set list.processes p process }

abbrev pub with_domain : Listed → ℕ → DomainName → Listed
with_domain list p domain = record list { domains = slice_set list.domains p domain }

-- its domain is this one
abbrev pub is_named : Option DomainName → DomainName → Bool
is_named None domain = false
is_named (Some own) domain = texts_equal own domain

abbrev pub is_in : Listed → ℕ → DomainName → Bool
is_in list p domain = is_named (slice_get list.domains p) domain

-- its last move was an execute, and this other domain is one transition further
abbrev pub moved_from : Bool → Option DomainName → DomainName → Bool
moved_from is_open None domain = false
moved_from is_open (Some own) domain = is_open && not (texts_equal own domain) && leads own domain

unfoldable pub moved : Listed → ℕ → DomainName → Bool
moved list p domain = moved_from (at list p).is_open (slice_get list.domains p) domain

-- it is in the domain or moved there
unfoldable pub fits : Listed → ℕ → DomainName → Bool
fits list p domain = is_in list p domain || moved list p domain

-- one process more, which is last
abbrev pub entered : Listed → Process → DomainName → Listed × ℕ
entered list process domain = (record { processes = list.processes ++ process ∷ []; domains = list.domains ++ domain ∷ [] }, length list.processes)

-- it is in the domain, and its last move was no execute
abbrev pub is_settled : Listed → DomainName → ℕ → Bool
is_settled list domain p = not (at list p).is_open && is_in list p domain

-- the first number from k on, of so many, that passes the test
abbrev pub first_from : (ℕ → Bool) → ℕ → ℕ → Option ℕ
first_from test k zero = None
first_from test k (suc n) = if test k then Some k else first_from test (suc k) n

-- the first process that is in the domain and stays there
unfoldable pub settled_in : Listed → DomainName → Option ℕ
settled_in list domain = first_from (is_settled list domain) 0 (length list.processes)

-- a pid is the key of this process, of its parent, and so on, in so many turns
abbrev pub key_among : Listed → Option ℕ → ℕ → ℕ → Bool
key_among list next pid zero = false
key_among list None pid (suc n) = false
key_among list (Some q) pid (suc n) = if (at list q).origin.key == pid then true else key_among list (at list q).origin.parent pid n

-- no chain of parents is longer than the list
unfoldable pub comes_from : Listed → ℕ → ℕ → Bool
comes_from list p pid = key_among list (at list p).origin.parent pid (length list.processes)
