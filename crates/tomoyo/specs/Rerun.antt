-- The rerun of a run: the same trace under the run's final policy with its profiles enforcing, and
-- nobody else.
use Rattle.std.specs.Prelude.{◌≡◌, ◌↔◌, Bool, true, [], Option, Some, None, IsSome, IsTrue, Ok, ⊤}
use Rattle.std.specs.List.{AllByRecursion, list_all}
use Rattle.tm_rules.specs.Prelude.{Trace, is_clean, is_plain, item_is_request}
use Rattle.tm_rules.specs.Types.{Policy, Run, Tree}
use Rattle.tm_run_laws.specs.Tomoyo.{tomoyo_grammar}
use Rattle.tm_legal.specs.Prelude.{IsNamed, IsOpened, Legal, Repeats, SameDomains, Scene, alone, final_policy, switched}
use Rattle.tm_run.specs.Reading.{run_of}
use Rattle.tm_run.specs.RunText.{run_text}
use Rattle.tm_run.specs.Typed.{is_typed}
use Rattle.tm_rerun.specs.Rerun.{rerun_text}
use Rattle.tomoyo.specs.declared.learn.RerunTexts.{RerunTexts}
use Rattle.tomoyo.specs.declared.learn.Learned.{Learned}
use Rattle.tm_gen_laws.specs.CallInputLoaded.{Loaded}
use Rattle.tm_call.specs.declared.words.How.{How}
use Rattle.tm_call.specs.Fetches.{Texts}
use Rattle.tm_gen_laws.specs.Reading.{homeless, scene_of}
use Rattle.tomoyo.specs.Play.{reading_of, Came, audits_of, IsPrinted}

-- the trace under a policy with its profiles enforcing: no editors, and no supervisor
abbrev pub again : Policy → Trace → Scene
again last trace = alone tomoyo_grammar (switched last) trace

-- a policy and a trace with nobody else: no editors, a book without a line, and no schedule
abbrev pub nobody_else : Policy → Trace → Loaded
nobody_else policy trace =
    record {
      policy = policy;
      trace = trace;
      editors = [];
      book = record { rules = []; stop = None };
      schedule = [];
    }

-- what a policy and a trace need to be played again, but for the homes of the trees
pub record CanRerun (last : Policy) (trace : Trace) : Type 0 where
  pub opened : IsOpened last
  pub named : IsNamed tomoyo_grammar.is_path last
  pub requests : AllByRecursion
      (λ (tree : Tree). IsTrue (list_all (item_is_request tomoyo_grammar.is_path) tree.records)) trace

-- a run of a scene of a trace alone: it came so, without a schedule, it is legal, and it ends with
-- this policy
pub record IsPlayAlone (how : How) (scene : Scene) (run : Run) (last : Policy) : Type 0 where
  pub came : Came how scene [] run
  pub is_legal : Legal scene run
  pub ends : final_policy scene run ≡ last

-- the texts of a rerun; its numbers are those that the types have, and its line says whether its
-- processes are in the domains that they were in
pub record IsRerunPrinted (last1 : Policy) (run1 : Run) (last2 : Policy) (run2 : Run) (rerun : RerunTexts)
    : Type 0 where
  pub run_is : rerun.run ≡ run_text run2
  pub is_in_range : is_typed run2 ≡ true
  pub audit_is : rerun.audit ≡ audits_of run2.takes
  pub same : Bool
  pub is_same : IsTrue same ↔ SameDomains last1 run1 last2 run2
  pub line_is : rerun.line ≡ rerun_text run2 same

-- a rerun of a run with this final policy: what is stored and put of it are the texts of a run of
-- the trace again, which is played as the first was
pub record IsRerun (how : How) (last : Policy) (trace : Trace) (run : Run) (rerun : RerunTexts) : Type 0 where
  pub run2 : Run
  pub came : Came how (again last trace) [] run2
  pub is_legal : Legal (again last trace) run2
  pub printed : IsRerunPrinted last run (final_policy (again last trace) run2) run2 rerun

-- a rerun is left out exactly where some tree's domain isn't live in the final policy
abbrev pub Reruns : How → Policy → Trace → Run → Option RerunTexts → Type 0
Reruns how last trace run None = IsSome (homeless last trace)
Reruns how last trace run (Some rerun) = (homeless last trace ≡ None) × IsRerun how last trace run rerun

-- the text of a rerun is read back as its run
abbrev pub IsReadBack : (how : How) (last : Policy) (trace : Trace) (run : Run) (rerun : Option RerunTexts)
    → Reruns how last trace run rerun → Type 0
IsReadBack how last trace run None left = ⊤
IsReadBack how last trace run (Some rerun) played = run_of rerun.run ≡ Ok played.1.run2

-- the rerun isn't left out; its run, whose text is stored, makes no step and grants every take, in
-- domains of the same names, and its line says that they are the same
abbrev pub IsRepeated : (how : How) (scene : Scene) (last : Policy) (trace : Trace) (run : Run)
    (rerun : Option RerunTexts) → Reruns how last trace run rerun → Type 0
IsRepeated how scene last trace run None left = ⊥
IsRepeated how scene last trace run (Some rerun) played =
    (rerun.run ≡ run_text played.1.run2) × (rerun.line ≡ rerun_text played.1.run2 true)
    × Repeats scene run played.1.run2

-- what was learned are the texts of a run of what was read, and of its rerun; a clean run from a
-- plain opening is repeated
pub record LearnsLoaded (how : How) (loaded : Loaded) (learned : Learned) : Type 0 where
  pub run : Run
  pub came : Came how (scene_of loaded) loaded.schedule run
  pub is_legal : Legal (scene_of loaded) run
  pub printed : IsPrinted run loaded.policy (final_policy (scene_of loaded) run) learned.played
  pub rerun : Reruns how (final_policy (scene_of loaded) run) loaded.trace run learned.rerun
  pub repeated : IsTrue (is_plain loaded.policy) → IsTrue (is_clean run)
      → IsRepeated how (scene_of loaded) (final_policy (scene_of loaded) run) loaded.trace run learned.rerun rerun

-- the files are read, and what was learned are the texts of a run of what was read, and of its
-- rerun; the text of each of the two is read back as that run
pub record Learns (how : How) (texts : Texts) (learned : Learned) : Type 0 where
  pub loaded : Loaded
  pub read : reading_of how texts ≡ Ok loaded
  pub learns : LearnsLoaded how loaded learned
  pub read_back : run_of learned.played.run ≡ Ok learns.run
  pub rerun_read_back :
      IsReadBack how (final_policy (scene_of loaded) learns.run) loaded.trace learns.run learned.rerun learns.rerun
