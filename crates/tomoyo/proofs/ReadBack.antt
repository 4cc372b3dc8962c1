-- What is stored of a run is read back as that run.
use Rattle.std.proofs.Common.{◌≡◌, ◌∙◌, refl, ap}
use Rattle.std.specs.Prelude.{true, Ok, Option, Some, None}
use Rattle.tm_word.specs.Prelude.{Text}
use Rattle.tm_rules.specs.Prelude.{DomainName, live_domain}
use Rattle.tm_rules.specs.Types.{Policy, Run}
use Rattle.tm_io.specs.declared.names.FileName.{FileName}
use Rattle.tm_trace.proofs.TraceRead.{trace_read}
use Rattle.tm_script.proofs.ReadLaws.{editors_right}
use Rattle.tm_legal.specs.Prelude.{IsOpened, Legal, final_policy, switched}
use Rattle.tm_run.specs.RunText.{run_text}
use Rattle.tm_run.specs.Reading.{run_of}
use Rattle.tm_run.specs.Typed.{is_typed}
use Rattle.tm_run_laws.specs.Scenes.{IsReadScene}
use Rattle.tm_run_laws.proofs.Runs.{legal_read}
use Rattle.tm_gen_laws.specs.CallInputLoaded.{Loaded}
use Rattle.tm_call.specs.declared.words.How.{How}
use Rattle.tomoyo.specs.declared.learn.Learned.{Learned}
use Rattle.tomoyo.specs.declared.learn.RerunTexts.{RerunTexts}
use Rattle.tm_call.specs.Fetches.{Texts, content}
use Rattle.tm_gen_laws.specs.Reading.{homeless, scene_of}
use Rattle.tomoyo.specs.Rerun.{again, CanRerun, Reruns, LearnsLoaded, IsReadBack}
use Rattle.tm_gen_laws.proofs.Readings.{AreRead, can-play}
use Rattle.tomoyo.proofs.Rerunning.{rerun-needs, can-rerun}

-- what a switched policy keeps: it is opened where the policy is, and has its domains, which are
-- found at the same numbers
abbrev pub StaysOpened : Type 0
StaysOpened = (policy : Policy) → IsOpened policy → IsOpened (switched policy)

abbrev pub KeepsDomains : Type 0
KeepsDomains = (policy : Policy) → (switched policy).domains ≡ policy.domains

abbrev pub FindsDomains : Type 0
FindsDomains = (policy : Policy) (name : DomainName) → live_domain (switched policy) name ≡ live_domain policy name

-- what was read is a scene as the readers give it
pub read-scene : (texts : Texts) (loaded : Loaded) → AreRead texts loaded → IsReadScene (scene_of loaded)
read-scene texts loaded read =
    record {
      grammar = refl;
      can_play = can-play texts loaded read;
      trace = trace_read (content texts FileName.Trace) loaded.trace read.trace;
      editors = editors_right (content texts FileName.Edits) loaded.editors read.editors;
    }

-- a stored text is read back as the run that it is the text of
pub read-back : (texts : Texts) (loaded : Loaded) (run : Run) (text : Text) → AreRead texts loaded → Legal (scene_of loaded) run → is_typed run ≡ true → text ≡ run_text run → run_of text ≡ Ok run
read-back texts loaded run text e legal typed is = ap run_of is ∙ legal_read (scene_of loaded) run (read-scene texts loaded e) legal typed

-- the scene of a rerun is one as the readers give it: its trace is the one that was read, and its
-- opening the switched final policy
rerun-scene : (texts : Texts) (loaded : Loaded) (run : Run) → StaysOpened → KeepsDomains → FindsDomains → AreRead texts loaded → homeless (final_policy (scene_of loaded) run) loaded.trace ≡ None
    → IsReadScene (again (final_policy (scene_of loaded) run) loaded.trace)
rerun-scene texts loaded run opened domains live e homes =
    let first : IsReadScene (scene_of loaded) = read-scene texts loaded e in
    let last : Policy = final_policy (scene_of loaded) run in
    let needs : CanRerun last loaded.trace = rerun-needs loaded run last first.can_play refl in
    record {
      grammar = refl;
      can_play = can-rerun last loaded.trace opened domains live needs homes;
      trace = first.trace;
      editors = refl;
    }

-- the stored text of a rerun is read back as its run
pub rerun-read-back : (how : How) (texts : Texts) (loaded : Loaded) (learned : Learned) → StaysOpened → KeepsDomains → FindsDomains → AreRead texts loaded → (h : LearnsLoaded how loaded learned)
    → IsReadBack how (final_policy (scene_of loaded) h.run) loaded.trace h.run learned.rerun h.rerun
rerun-read-back how texts loaded learned opened domains live e h = go learned.rerun h.rerun
  where
    go : (rerun : Option RerunTexts) (played : Reruns how (final_policy (scene_of loaded) h.run) loaded.trace h.run rerun) → IsReadBack how (final_policy (scene_of loaded) h.run) loaded.trace h.run rerun played
    go None left = tt
    go (Some rerun) played =
        let scene : IsReadScene (again (final_policy (scene_of loaded) h.run) loaded.trace) = rerun-scene texts loaded h.run opened domains live e played.0 in
        ap run_of played.1.printed.run_is ∙ legal_read (again (final_policy (scene_of loaded) h.run) loaded.trace) played.1.run2 scene played.1.is_legal played.1.printed.is_in_range
