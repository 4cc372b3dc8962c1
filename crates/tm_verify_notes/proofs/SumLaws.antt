-- What the looks of a take come to.
use Rattle.std.proofs.Common.{◌≡◌, ℕ, suc, Bool, true, ◌&&◌, List, [], ◌∷◌, length, take, drop, Some, None, refl, sym, ap, ◌∙◌, subst, arith}
use Rattle.std.specs.Prelude.{◌↔◌, slice_get, replicate}
use Rattle.std.specs.Option.{IfSome}
use Rattle.std.specs.List.{AllByRecursion, list_all}
use Rattle.std.proofs.lemmas.List.{length-map}
use Rattle.tm_rules.specs.Types.{Look}
use Rattle.tm_legal.specs.Prelude.{Case, EndsWith, History, LookHears, LookHolds, LooksFollow, OwnSteps, Scene, last_from, last_look, last_number, subject_of}
use Rattle.tm_verify_laws.specs.Looks.{do_follow}
use Rattle.tm_verify_laws.proofs.LookLaws.{following}
use Rattle.tm_verify_notes.specs.declared.notes.LookNote.{LookNote}
use Rattle.tm_verify_notes.specs.declared.notes.PartNote.{PartNote}
use Rattle.tm_verify_notes.specs.declared.sums.TakeNote.{TakeNote}
use Rattle.tm_take.specs.Each.{EachWith}
use Rattle.tm_verify_notes.specs.Noting.{LookOn, looks_on, all_looks, IsLookNote, IsPartNote, IsTakeNote}
use Rattle.tm_verify_notes.specs.Sums.{Completes}
use Rattle.tm_verify_notes.proofs.EachLaws.{each_all, each_as, each_mapped, each_then, each_at, each_front, each_rest}
use Rattle.tm_verify_notes.proofs.NoteLaws.{both_decide}

-- the last of several is found by going over them
pub last_number_is : (own : List ℕ) → last_from 0 own ≡ last_number own
last_number_is [] = refl
last_number_is (n ∷ own) = go n own
  where
    go : (n : ℕ) (own : List ℕ) → last_from n own ≡ last_number (n ∷ own)
    go n [] = refl
    go n (m ∷ own) = go m own

-- the last look stands at the last place
pub last_look_at : (look : Look) (looks : List Look) → last_look (look ∷ looks) ≡ slice_get (look ∷ looks) (length looks)
last_look_at look [] = refl
last_look_at look (next ∷ looks) = last_look_at next looks

-- what was noted of each look of a take, by one of the facts
by_fact : (scene : Scene) (history : History) (c : Case) (notes : List LookNote) (P : Look → Type 0) (t : LookNote → Bool)
    → ((look : Look) (note : LookNote) → IsLookNote scene history (c, look) note → (t note ≡ true) ↔ P look)
    → EachWith (IsLookNote scene history) (looks_on c) notes → (list_all t notes ≡ true) ↔ AllByRecursion P c.taken.looks
by_fact scene history c notes P t f h =
    each_all P t c.taken.looks notes
    (each_as (λ look note. IsLookNote scene history (c, look) note) (λ look note. (t note ≡ true) ↔ P look) f c.taken.looks notes
    (each_mapped (λ (look : Look). (c, look)) (IsLookNote scene history) c.taken.looks notes h))

-- a take by the notes of its looks
pub take_noted : (scene : Scene) (history : History) (c : Case) (notes : List LookNote) (note : TakeNote) (begins follows : Bool)
    → EachWith (IsLookNote scene history) (looks_on c) notes
    → (begins ≡ true) ↔ (c.now.domain ≡ Some c.taken.before)
    → follows ≡ do_follow history 0 c.taken.looks
    → note.holds ≡ (begins && list_all (λ (n : LookNote). n.verdict.shown) notes)
    → note.owns ≡ list_all (λ (n : LookNote). n.verdict.owns) notes
    → note.hears ≡ (list_all (λ (n : LookNote). n.hears) notes && follows)
    → (note.ends ≡ true) ↔ IfSome (last_look c.taken.looks) (EndsWith scene history (subject_of c) c.taken)
    → IsTakeNote scene history c note
take_noted scene history c notes note begins follows h b f holds_is owns_is hears_is ends =
    let shown = by_fact scene history c notes (LookHolds scene history (subject_of c)) (λ (n : LookNote). n.verdict.shown) (λ look n x. x.seen.shown) h in
    let owns = by_fact scene history c notes (OwnSteps scene history (subject_of c)) (λ (n : LookNote). n.verdict.owns) (λ look n x. x.seen.owns) h in
    let heard = by_fact scene history c notes (LookHears scene history) (λ (n : LookNote). n.hears) (λ look n x. x.heard) h in
    let follow : (follows ≡ true) ↔ LooksFollow history 0 c.taken.looks = subst (λ t. (t ≡ true) ↔ LooksFollow history 0 c.taken.looks) (sym f) (following history 0 c.taken.looks) in
    let holds = both_decide begins (list_all (λ (n : LookNote). n.verdict.shown) notes) (c.now.domain ≡ Some c.taken.before) (AllByRecursion (LookHolds scene history (subject_of c)) c.taken.looks) b shown in
    let hears = both_decide (list_all (λ (n : LookNote). n.hears) notes) follows (AllByRecursion (LookHears scene history) c.taken.looks) (LooksFollow history 0 c.taken.looks) heard follow in
    record {
      holds = (λ y. let p = holds.0 (sym holds_is ∙ y) in record { before = p.0; shown = p.1 }, λ t. holds_is ∙ holds.1 (t.before, t.shown));
      owns = (λ y. owns.0 (sym owns_is ∙ y), λ t. owns_is ∙ owns.1 t);
      hears = (λ y. let p = hears.0 (sym hears_is ∙ y) in record { heard = p.0; follow = p.1 }, λ t. hears_is ∙ hears.1 (t.heard, t.follow));
      ends = ends;
    }

-- the last look stands at the last place
last_at : (looks : List Look) (k : ℕ) → length looks ≡ suc k → last_look looks ≡ slice_get looks k
last_at [] k e = absurd (omega (arith, e))
last_at (look ∷ looks) k e = let same : length looks ≡ k = omega (arith, e) in last_look_at look looks ∙ ap (slice_get (look ∷ looks)) same

-- so the take ends as the look there says
pub ends_last : (scene : Scene) (history : History) (c : Case) (k : ℕ) (look : Look) (b : Bool) → length c.taken.looks ≡ suc k → slice_get c.taken.looks k ≡ Some look
    → (b ≡ true) ↔ EndsWith scene history (subject_of c) c.taken look → (b ≡ true) ↔ IfSome (last_look c.taken.looks) (EndsWith scene history (subject_of c) c.taken)
ends_last scene history c k look b long at h =
    let last : last_look c.taken.looks ≡ Some look = last_at c.taken.looks k long ∙ at in
    subst (λ o. (b ≡ true) ↔ IfSome o (EndsWith scene history (subject_of c) c.taken)) (sym last) h

-- of a take with looks
pub ends_at : (scene : Scene) (history : History) (c : Case) (notes : List LookNote) (k : ℕ) (look : Look) (note : LookNote)
    → EachWith (IsLookNote scene history) (looks_on c) notes → slice_get c.taken.looks k ≡ Some look → slice_get notes k ≡ Some note → IsLookNote scene history (c, look) note
ends_at scene history c notes k look note h e f = each_at (λ l n. IsLookNote scene history (c, l) n) c.taken.looks notes k look note (each_mapped (λ (l : Look). (c, l)) (IsLookNote scene history) c.taken.looks notes h) e f

-- the notes of the looks of a first take, and of those of the others
pub first_notes : (scene : Scene) (history : History) (c : Case) (cs : List Case) (notes : List LookNote) → EachWith (IsLookNote scene history) (all_looks (c ∷ cs)) notes
    → EachWith (IsLookNote scene history) (looks_on c) (take (length c.taken.looks) notes) × EachWith (IsLookNote scene history) (all_looks cs) (drop (length c.taken.looks) notes)
first_notes scene history c cs notes h =
    let long : length (looks_on c) ≡ length c.taken.looks = length-map c.taken.looks (λ (look : Look). (c, look)) in (
      subst (λ n. EachWith (IsLookNote scene history) (looks_on c) (take n notes)) long (each_front (IsLookNote scene history) (looks_on c) (all_looks cs) notes h),
      subst (λ n. EachWith (IsLookNote scene history) (all_looks cs) (drop n notes)) long (each_rest (IsLookNote scene history) (looks_on c) (all_looks cs) notes h),
    )

-- parts that are complete are notes
pub completed_notes : (scene : Scene) (history : History) (looks : List LookOn) (parts : List PartNote) (notes : List LookNote) → EachWith (IsPartNote scene history) looks parts → EachWith Completes parts notes → EachWith (IsLookNote scene history) looks notes
completed_notes scene history looks parts notes h k =
    each_then (IsPartNote scene history) Completes (IsLookNote scene history) (λ on part note p c. record { seen = p.seen note.verdict c.verdict; heard = p.heard note.hears c.hears }) looks parts notes h k

-- nothing is noted yet
abbrev no_note : PartNote
no_note = record { verdict = None; hears = None }

pub nothing_noted : (scene : Scene) (history : History) (looks : List LookOn) → EachWith (IsPartNote scene history) looks (replicate (length looks) no_note)
nothing_noted scene history [] = tt
nothing_noted scene history (on ∷ looks) = (record { seen = λ note e. absurd cc; heard = λ hears e. absurd cc }, nothing_noted scene history looks)
