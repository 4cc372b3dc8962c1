-- What a play of the files gives, by turns or on threads.
use Rattle.std.specs.Prelude.{◌≡◌, true, List, [], Result, Ok, unwrap_or}
use Rattle.std.specs.List.{flat_map}
use Rattle.tm_word.specs.Prelude.{Text}
use Rattle.tm_rules.specs.Types.{Policy, Run, Take, Turn}
use Rattle.tm_legal.specs.Prelude.{Legal, NoLookBeforeAttach, Scene, final_policy}
use Rattle.tm_legal.specs.Play as core
use Rattle.tm_run.specs.Reading.{run_of}
use Rattle.tm_run.specs.RunText.{run_text}
use Rattle.tm_run.specs.Typed.{is_typed}
use Rattle.tm_rerun.specs.Summary.{summary_text}
use Rattle.tm_text.specs.DomainText.{domain_text}
use Rattle.tm_text.specs.ExceptionText.{exception_text}
use Rattle.tm_text.specs.ManagerText.{manager_text}
use Rattle.tm_text.specs.ProfileText.{profile_text}
use Rattle.tomoyo.specs.declared.play.Printed.{Printed}
use Rattle.tomoyo.specs.declared.play.Played.{Played}
use Rattle.tm_gen_laws.specs.CallInputLoaded.{Loaded}
use Rattle.tm_call.specs.declared.words.How.{How}
use Rattle.tm_call.specs.declared.status.Status.{Status}
use Rattle.tm_call.specs.Fetches.{Texts}
use Rattle.tm_gen_laws.specs.Reading.{step_reading, scene_reading, scene_of}

-- what is read of the files; threads have no schedule
abbrev pub reading_of : How → Texts → Result Loaded Status
reading_of How.ByTurns texts = step_reading texts
reading_of how texts = scene_reading texts

-- what a run has beside its legality: turns play it by the schedule and then by the default order;
-- on threads no look is older than the supervisor's coming
abbrev pub Came : How → Scene → List Turn → Run → Type 0
Came How.ByTurns scene schedule run = core.Plays scene schedule run
Came how scene schedule run = NoLookBeforeAttach run

-- the audit text of a take, where it has one
abbrev pub audit_word : Take → Text
audit_word t = unwrap_or t.audit []

-- the audit texts of these takes, joined
abbrev pub audits_of : List Take → Text
audits_of takes = flat_map audit_word takes

-- the printed files of a policy
pub record IsPolicyPrinted (policy : Policy) (printed : Printed) : Type 0 where
  pub profile : printed.profile ≡ profile_text policy
  pub exception : printed.exception ≡ exception_text policy
  pub domain : printed.domain ≡ domain_text policy
  pub manager : printed.manager ≡ manager_text policy

-- the texts of a run from an opening to a last policy; its numbers are those that the types have
pub record IsPrinted (run : Run) (opening last : Policy) (played : Played) : Type 0 where
  pub run_is : played.run ≡ run_text run
  pub is_in_range : is_typed run ≡ true
  pub audit_is : played.audit ≡ audits_of run.takes
  pub policy_is : IsPolicyPrinted last played.policy
  pub summary_is : played.summary ≡ summary_text run opening last

-- a run of what was read: it came so, it is legal, and it ends with this policy
pub record IsPlayOf (how : How) (loaded : Loaded) (run : Run) (last : Policy) : Type 0 where
  pub came : Came how (scene_of loaded) loaded.schedule run
  pub is_legal : Legal (scene_of loaded) run
  pub ends : final_policy (scene_of loaded) run ≡ last

-- what was played are the texts of a run of what was read
pub record PlaysLoaded (how : How) (loaded : Loaded) (played : Played) : Type 0 where
  pub run : Run
  pub came : Came how (scene_of loaded) loaded.schedule run
  pub is_legal : Legal (scene_of loaded) run
  pub printed : IsPrinted run loaded.policy (final_policy (scene_of loaded) run) played

-- the files are read, and what was played are the texts of a run of what was read; the text of the
-- run is read back as that run
pub record Plays (how : How) (texts : Texts) (played : Played) : Type 0 where
  pub loaded : Loaded
  pub read : reading_of how texts ≡ Ok loaded
  pub plays : PlaysLoaded how loaded played
  pub read_back : run_of played.run ≡ Ok plays.run
