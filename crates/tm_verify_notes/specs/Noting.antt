-- What is noted of looks and of takes.
use Rattle.std.specs.Prelude.{◌≡◌, ◌↔◌, ℕ, Bool, true, List, map, flat_map, Option, Some}
use Rattle.std.specs.Option.{IfSome}
use Rattle.std.specs.List.{AllByRecursion}
use Rattle.tm_word.specs.Prelude.{Text}
use Rattle.tm_rules.specs.Types.{Look, Verdict}
use Rattle.tm_rules.specs.Prelude.{audit_text, is_request}
use Rattle.tm_take.specs.Tomoyo.{tomoyo_grammar}
use Rattle.tm_legal.specs.Prelude.{Case, EndsWith, History, IsShown, LookHears, LookHolds, MakesAfterYes, OwnSteps, RisesFrom, Scene, TakeHears, TakeHolds, last_look, look_grants, retry_written, state_at, step_at, steps_asked, subject_of, verdict_at}
use Rattle.tm_verify_notes.specs.declared.notes.VerdictNote.{VerdictNote}
use Rattle.tm_verify_notes.specs.declared.notes.LookNote.{LookNote}
use Rattle.tm_verify_notes.specs.declared.notes.PartNote.{PartNote}
use Rattle.tm_verify_notes.specs.declared.sums.TakeNote.{TakeNote}

-- a look beside the `do` line and the take that it belongs to
abbrev pub LookOn : Type 0
LookOn = Case × Look

-- the looks of a take
abbrev pub looks_on : Case → List LookOn
looks_on c = map (λ (look : Look). (c, look)) c.taken.looks

-- the looks of all takes
abbrev pub all_looks : List Case → List LookOn
all_looks cs = flat_map looks_on cs

-- a `do` line asks a request
abbrev pub Asks : Case → Type 0
Asks c = is_request tomoyo_grammar.is_path c.request ≡ true

-- ---- a look beside what its version shows

-- its own steps are those that this verdict asks for, in their order
pub record Owns (history : History) (before : ℕ) (look : Look) (v : Verdict) : Type 0 where
  pub asked : map (step_at history) look.own
      ≡ map Some (steps_asked tomoyo_grammar before (retry_written history look) v (look_grants look))
  pub rising : RisesFrom look.version look.own
  pub after_yes : MakesAfterYes look

-- what is noted beside this verdict and this audit text
pub record IsVerdictNote (history : History) (before : ℕ) (audit found : Option Text) (look : Look)
    (verdict : Verdict) (note : VerdictNote) : Type 0 where
  pub shown : (note.shown ≡ true) ↔ IsShown verdict look
  pub owns : (note.owns ≡ true) ↔ Owns history before look verdict
  pub audited : (note.audited ≡ true) ↔ (audit ≡ found)

-- the take's audit text is that of the look's version
abbrev pub IsAudited : Scene → History → LookOn → Type 0
IsAudited scene history on =
    IfSome (verdict_at scene history (subject_of on.0) on.1.version)
    (λ v. on.0.taken.audit
    ≡ audit_text scene.grammar (state_at scene history on.1.version).policy on.0.taken.before
    on.0.now.process on.0.request v)

-- what is noted of a look at its version
pub record IsSeen (scene : Scene) (history : History) (on : LookOn) (note : VerdictNote) : Type 0 where
  pub shown : (note.shown ≡ true) ↔ LookHolds scene history (subject_of on.0) on.1
  pub owns : (note.owns ≡ true) ↔ OwnSteps scene history (subject_of on.0) on.1
  pub audited : (note.audited ≡ true) ↔ IsAudited scene history on

-- what is noted of the answer that it has heard
abbrev pub IsHeard : Scene → History → LookOn → Bool → Type 0
IsHeard scene history on hears = (hears ≡ true) ↔ LookHears scene history on.1

-- what has been noted so far
pub record IsPartNote (scene : Scene) (history : History) (on : LookOn) (part : PartNote) : Type 0 where
  pub seen : (note : VerdictNote) → part.verdict ≡ Some note → IsSeen scene history on note
  pub heard : (hears : Bool) → part.hears ≡ Some hears → IsHeard scene history on hears

-- all that is noted
pub record IsLookNote (scene : Scene) (history : History) (on : LookOn) (note : LookNote) : Type 0 where
  pub seen : IsSeen scene history on note.verdict
  pub heard : IsHeard scene history on note.hears

-- ---- a take

-- what is noted of a take
pub record IsTakeNote (scene : Scene) (history : History) (c : Case) (note : TakeNote) : Type 0 where
  pub holds : (note.holds ≡ true) ↔ TakeHolds scene history c
  pub owns : (note.owns ≡ true) ↔ AllByRecursion (OwnSteps scene history (subject_of c)) c.taken.looks
  pub hears : (note.hears ≡ true) ↔ TakeHears scene history c.taken
  pub ends : (note.ends ≡ true)
      ↔ IfSome (last_look c.taken.looks) (EndsWith scene history (subject_of c) c.taken)
