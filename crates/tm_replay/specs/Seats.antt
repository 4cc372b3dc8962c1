-- What a pass at an engine on a machine knows, and what it is shown.
use Rattle.std.specs.Prelude.{◌≡◌, ℕ, false, List, [], length, Option, unwrap_or}
use Rattle.tm_rules.specs.Types.{Made, Proc, Request, Start}
use Rattle.tm_core.specs.Judging.{judged}
use Rattle.tm_take.specs.declared.judged.Judged.{Judged}
use Rattle.tm_publish.specs.declared.pass.Pass.{Pass}
use Rattle.tm_publish.specs.Words.{home}
use Rattle.tm_seat.specs.Seats.{state_of}

-- an opening of nothing
abbrev pub no_start : Start
no_start =
    record {
      policy = record { namespaces = []; domains = []; by_non_root = false; managers = []; opened = false };
      editors = [];
      trees = 0;
      desk = false;
    }

module _ {L O : Type 0} {n : _} {l : _} {o : _} where
  -- the opening of the pass's board
  abbrev pub home_of : Pass L O Start Made n l o → Start
  home_of pass = unwrap_or (home pass) no_start

-- what a look shows at the state after a list, and how long the list is
abbrev pub IsLookAt : Start → List Made → ℕ → Proc → Request → Option Judged → ℕ → Type 0
IsLookAt start list domain process request found version =
    (found ≡ judged (state_of start list) domain process request) × (version ≡ length list)
