use Rattle.tm_verify_laws.proofs.Stays.{ends_are_of_trees}
use Rattle.tm_verify_laws.proofs.DeskActs.{hold_acts, acts_hold, none_holds, holds_none, fault_fails, fails_fault, fault_stays}
use Rattle.tm_verify_laws.proofs.PlacedLaws.{placed_of, lines_of, placed_places}
use Rattle.tm_verify_laws.proofs.laws.steps_decide.Goals as goal

pub returns : goal.returns
returns c =
    record {
      supervisor = λ scene run replies. (hold_acts scene run (ends_are_of_trees scene run.steps replies), acts_hold scene run (ends_are_of_trees scene run.steps replies));
      computed = λ scene run. ((none_holds scene run, holds_none scene run), λ k. (fault_fails scene run k, fails_fault scene run k));
      stays = λ scene run other k f takes steps replies. fault_stays scene run other k f takes steps (ends_are_of_trees scene other.steps replies);
      places = λ scene run inside. (λ h. placed_places scene run inside h.0 h.1, λ h. (placed_of scene run h, lines_of scene run h));
    }
