-- What a worker, an editor and the supervisor have done with their passes.
use Rattle.std.proofs.Common.{◌≡◌, ◌≤◌, ◌<◌, ℕ, zero, suc, List, [], ◌∷◌, ◌++◌, length, take, Bool, refl, sym, ap, ◌∙◌, subst, arith, inl, inr, ◌⊎◌, ⊎_elim}
use Rattle.std.specs.Prelude.{Option, Some, Result, Ok, Err, IfOk, IfSome}
use Rattle.std.specs.List.{AllByRecursion}
use Rattle.std.proofs.lemmas.List.{length-append}
use mathlib.Core.List.{IsPrefix}
use Rattle.tm_word.specs.Prelude.{Text}
use Rattle.tm_rules.specs.Types.{Book, FileKind, Made, Maker, Query, Start, Step}
use Rattle.tm_rules.specs.Prelude.{Trace, first_query, numbered}
use Rattle.tm_machine.specs.Tomoyo.{tomoyo_grammar}
use Rattle.tm_legal.specs.Prelude.{RisesFrom, Scene, State, after, all_ended, last_from, opening}
use Rattle.tm_made.specs.Made.{start_in, state_made, steps_made}
use Rattle.tm_joint.specs.Makers.{Claims}
use Rattle.tm_joint.specs.Played.{LinesMade, DeskDid}
use Rattle.tm_joint.proofs.Rising.{RisesFrom-low}
use Rattle.tm_machine.specs.Office.{by_desk}
use Rattle.tm_machine.specs.Office as office
use Rattle.tm_publish.specs.declared.pass.Pass.{Pass}
use Rattle.tm_publish.specs.Words.{known, HasSeen}
use Rattle.tm_seat.specs.Seats.{scene_of, Begins, MadeBy}
use Rattle.tm_serve.specs.Serving.{AnswersFrom, AllWasDone}
use Rattle.tm_serve.proofs.Answering.{get_within, numbered_later}
use Rattle.tm_serve.proofs.Did.{desk_did, first_in, over_in, answer_in}
use Rattle.tm_seat.specs.Parts.{coming, ClaimedBy, HasCome, EditorDid, SupervisorDid}
use Rattle.tm_seat.proofs.Working.{claimed}
use Rattle.tm_replay.specs.Seats.{home_of}
use Rattle.tm_replay.specs.Jobs.{GoesBack}
use Rattle.tm_replay.proofs.Passes.{home-there}

-- facts of what went well, put together
pub if-ok : {A E : Type 0} (P Q Z : A → Type 0) (result : Result A E) → IfOk result P → IfOk result Q → ((x : A) → P x → Q x → Z x) → IfOk result Z
if-ok P Q Z (Ok x) p q all = all x p q
if-ok P Q Z (Err e) p q all = tt

module _ {L O : Type 0} {n : _} {l : _} {o : _} where
  -- a pass whose opening and list go on
  pub goes-back : (old new : Pass L O Start Made n l o) → home_of new ≡ home_of old → Begins (known old) (known new) → HasSeen new (known new) → GoesBack old new
  goes-back old new same grows has =
      record {
        opened = home-there new ∙ ap Some same ∙ sym (home-there old);
        grows = grows;
        has = has;
      }

pub begins-long : (old new : List Made) → Begins old new → length old ≤ length new
begins-long old new begins =
    let long = length-append old begins.0 in
    let is = ap (λ (list : List Made). length list) begins.1 in
    omega (arith, long, is)

-- Editors

pub editor-done : (number : ℕ) (lines : List (FileKind × Text)) (mid new : List Made) (before own : List ℕ) → before ≡ [] → ((numbers : List ℕ) × (own ≡ before ++ numbers) × LinesMade new number lines numbers) → MadeBy (Maker.Editor number ∷ []) mid before new own → EditorDid number lines new own
editor-done number lines mid new before own none (numbers, noted, made) by =
    record {
      made = subst (λ (ns : List ℕ). LinesMade new number lines ns) (sym (noted ∙ ap (λ (ns : List ℕ). ns ++ numbers) none)) made;
      claims = claimed (Maker.Editor number ∷ []) mid new before own none by;
    }

-- The supervisor

-- the same answers, where the first queries are the same
answers-as : (first first' : Start → List Made → Option Query) (p p' : Start) → ((list : List Made) → first p list ≡ first' p' list) → (book : Book) (list : List Made) (last : ℕ) (answers : List ℕ) → AnswersFrom first (λ serial code. by_desk (Step.Answer serial code)) p book list last answers → AnswersFrom first' answer_in p' book list last answers
answers-as first first' p p' same book list last [] h = tt
answers-as first first' p p' same book list last (m ∷ answers) h = (
  record { version = h.0.version; query = h.0.query; since = h.0.since; before = h.0.before; first = sym (same (take h.0.version list)) ∙ h.0.first; answers = h.0.answers },
  answers-as first first' p p' same book list m answers h.1,
)

done-as : (first first' : Start → List Made → Option Query) (over over' : Start → List Made → Bool) (p p' : Start) → ((list : List Made) → first p list ≡ first' p' list) → ((list : List Made) → over p list ≡ over' p' list) → (list : List Made) (last detach : ℕ) → AllWasDone first over p list last detach → AllWasDone first' over' p' list last detach
done-as first first' over over' p p' same same_over list last detach h =
    record {
      version = h.version;
      since = h.since;
      before = h.before;
      none = sym (same (take h.version list)) ∙ h.none;
      over = sym (same_over (take h.version list)) ∙ h.over;
    }

-- each step of the supervisor is made by it
by-supervisor : (who : Maker → Option ℕ) (i : ℕ) (first : Start → List Made → Option Query) (p : Start) (book : Book) (list : List Made) (last : ℕ) (answers : List ℕ) (left : ℕ) → who Maker.Desk ≡ Some i → AnswersFrom first (λ serial code. by_desk (Step.Answer serial code)) p book list last answers → numbered list left ≡ Some (by_desk Step.Detach) → AllByRecursion (λ m. (made : Made) × (numbered list m ≡ Some made) × (who made.maker ≡ Some i)) (answers ++ left ∷ [])
by-supervisor who i first p book list last [] left mine h gone = ((by_desk Step.Detach, gone, mine), tt)
by-supervisor who i first p book list last (m ∷ answers) left mine h gone = ((_, h.0.answers, mine), by-supervisor who i first p book list m answers left mine h.1 gone)

numbered-above : (list : List Made) (m : ℕ) (made : Made) → numbered list m ≡ Some made → m ≤ length list
numbered-above list zero made at = omega arith
numbered-above list (suc k) made at = let low : k < length list = get_within list k made at in omega (arith, low)

pub supervisor-done : (start : Start) (book : Book) (old new : List Made) (before own : List ℕ) (count : ℕ) (answers : List ℕ) (left : ℕ) → HasCome old before → IsPrefix old new → own ≡ before ++ answers ++ left ∷ [] → RisesFrom (length old) (answers ++ left ∷ []) → count ≡ length answers → AnswersFrom office.first_in (λ serial code. by_desk (Step.Answer serial code)) start book new (length old) answers → numbered new left ≡ Some (by_desk Step.Detach) → ((book.stop ≡ Some count) ⊎ AllWasDone office.first_in office.over_in start new (last_from (length old) answers) left) → IfSome book.stop (λ most. count ≤ most) → SupervisorDid start book new own
supervisor-done start book old new before own count answers left come begins noted rises counted each gone due few =
    record { acts = acts; claims = claims }
  where
    own_is : own ≡ come.attach ∷ answers ++ left ∷ []
    own_is = noted ∙ ap (λ (ns : List ℕ). ns ++ answers ++ left ∷ []) come.own_is

    low : come.attach ≤ length old
    low = numbered-above old come.attach coming come.there

    came : numbered new come.attach ≡ Some (by_desk Step.Attach)
    came = numbered_later old new come.attach coming begins come.there

    claims : ClaimedBy (Maker.Desk ∷ []) new own
    claims who i all =
        subst (λ (ns : List ℕ). Claims who i new ns) (sym own_is) (
          (come.above, RisesFrom-low come.attach (length old) (answers ++ left ∷ []) low rises),
          ((coming, came, all.0), by-supervisor who i office.first_in start book new (length old) answers left all.0 each gone),
        )

    acts : (trace : Trace) (list : List Made) → length trace ≡ start.trees → Begins new list → DeskDid (scene_of start trace (Some book)) list book own
    acts trace list trees more =
        let scene : Scene = scene_of start trace (Some book) in
        let same : opening (start_in scene) ≡ opening start = rw trees refl in
        let state : (l : List Made) → state_made tomoyo_grammar start l ≡ state_made tomoyo_grammar (start_in scene) l = (λ l. ap (λ (s : State). after tomoyo_grammar s (steps_made l)) (sym same)) in
        subst (λ (ns : List ℕ). DeskDid scene list book ns) (sym own_is)
        (desk_did scene new list (more.0, sym more.1) book come.attach (length old) left answers come.above low came rises
        (answers-as office.first_in (first_in scene) start (start_in scene) (λ l. ap (λ (s : State). first_query s.queries) (state l)) book new (length old) answers each)
        gone
        (⊎_elim (λ stop. inl (stop ∙ ap Some counted)) (λ done. inr (done-as office.first_in (first_in scene) office.over_in (over_in scene) start (start_in scene) (λ l. ap (λ (s : State). first_query s.queries) (state l)) (λ l. ap (all_ended tomoyo_grammar) (state l)) new (last_from (length old) answers) left done)) due)
        (subst (λ m. IfSome book.stop (λ most. m ≤ most)) counted few))
