-- What was read is played, and what was played is what the files ask for.
use Rattle.std.proofs.Common.{◌≡◌, List, [], refl, sym, subst}
use Rattle.std.specs.Prelude.{Result, Ok, Err, IfOk}
use Rattle.tm_rules.specs.Types.{Book, Policy, Run, Start, Turn}
use Rattle.tm_legal.specs.Prelude.{CanPlay, Legal, Player, Scene, final_policy, run_of, turns}
use Rattle.tm_legal.specs.Play as core
use Rattle.tm_steal.specs.Machine.{Course}
use Rattle.tm_verify.specs.Scenes.{IsReached}
use Rattle.tm_verify.specs.Scenes as scenes
use Rattle.tm_call.specs.declared.words.How.{How}
use Rattle.tomoyo.specs.declared.play.Played.{Played}
use Rattle.tm_gen_laws.specs.CallInputLoaded.{Loaded}
use Rattle.tm_gen_laws.specs.Reading.{start_of, scene_of}
use Rattle.tomoyo.specs.Play.{IsPlayOf, IsPrinted, PlaysLoaded}

-- a player at its start is one that no turn has led to
pub reached : (loaded : Loaded) (book : Book) (course : Course) (player : Player) → course.start ≡ start_of loaded → book ≡ loaded.book → CanPlay (scene_of loaded) → player ≡ core.start_of (scenes.scene_of course.start loaded.trace book)
    → IsReached loaded.trace book course player
unfolding turns
reached loaded book course player same by can starts = record { trees = rw same refl; can = rw (same, by) can; schedule = []; led = starts }

-- what holds of the scene of a machine and a desk that were made of what was read
moved : (P : Scene → Type 0) (loaded : Loaded) (start : Start) (book : Book) → start ≡ start_of loaded → book ≡ loaded.book → P (scenes.scene_of start loaded.trace book) → P (scene_of loaded)
moved P loaded start book same by h =
    subst (λ (b : Book). P (scenes.scene_of (start_of loaded) loaded.trace b)) by (subst (λ (s : Start). P (scenes.scene_of s loaded.trace book)) same h)

-- the run of a player that was played out from its start
pub play-of : {E : Type 0} (loaded : Loaded) (start : Start) (book : Book) (schedule : List Turn) (player : Player) (course : Course) (result : Result (Run × Start × Policy) E) → start ≡ start_of loaded → book ≡ loaded.book → schedule ≡ loaded.schedule
    → core.Plays (scenes.scene_of start loaded.trace book) schedule (run_of player) → Legal (scenes.scene_of start loaded.trace book) (run_of player) → final_policy (scenes.scene_of start loaded.trace book) (run_of player) ≡ course.state.policy
    → IfOk result (λ ended. ended.0 ≡ run_of player) → IfOk result (λ ended. ended.2 ≡ course.state.policy) → IfOk result (λ ended. IsPlayOf How.ByTurns loaded ended.0 ended.2)
play-of loaded start book schedule player course (Ok ended) same by turned plays legal ends run_is policy_is =
    let played : core.Plays (scene_of loaded) schedule (run_of player) = moved (λ (scene : Scene). core.Plays scene schedule (run_of player)) loaded start book same by plays in
    let by_schedule : core.Plays (scene_of loaded) loaded.schedule (run_of player) = subst (λ (s : List Turn). core.Plays (scene_of loaded) s (run_of player)) turned played in
    record {
      came = subst (λ (run : Run). core.Plays (scene_of loaded) loaded.schedule run) (sym run_is) by_schedule;
      is_legal = rw run_is (moved (λ (scene : Scene). Legal scene (run_of player)) loaded start book same by legal);
      ends = rw (run_is, policy_is) (moved (λ (scene : Scene). final_policy scene (run_of player) ≡ course.state.policy) loaded start book same by ends);
    }
play-of loaded start book schedule player course (Err error) same by turned plays legal ends run_is policy_is = tt

-- the texts of a run of what was read
pub printed-so : {E : Type 0} (how : How) (loaded : Loaded) (run : Run) (last opening : Policy) (result : Result Played E) → IsPlayOf how loaded run last → opening ≡ loaded.policy → IfOk result (IsPrinted run opening last) → IfOk result (PlaysLoaded how loaded)
printed-so how loaded run last opening (Ok played) h same texts =
    record {
      run = run;
      came = h.came;
      is_legal = h.is_legal;
      printed = subst (λ (l : Policy). IsPrinted run loaded.policy l played) (sym h.ends) (subst (λ (o : Policy). IsPrinted run o last played) same texts);
    }
printed-so how loaded run last opening (Err error) h same texts = tt
