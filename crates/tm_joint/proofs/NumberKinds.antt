-- Numbers by the kind of their steps: where a number stands once among lists of different kinds,
-- its step says in which.
use Rattle.std.proofs.Common.{◌≡◌, ◌≢◌, ◌<◌, ℕ, zero, suc, ◌+◌, List, [], ◌∷◌, Bool, true, false, true≢false, refl, sym, ap, ◌∙◌, subst, arith}
use Rattle.std.specs.Prelude.{Option, Some, None, if◌then◌else◌, ◌==◌, slice_get, flat_map, option_map}
use Rattle.std.specs.List.{AllByRecursion}
use Rattle.std.proofs.lemmas.Bool.{eqb-true}
use Rattle.tm_rules.specs.Types.{Made, Step}
use Rattle.tm_rules.specs.Prelude.{numbered}
use Rattle.tm_legal.specs.Prelude.{RisesFrom, Scene, is_end, is_own, is_some_end, places, times, times_owned}
use Rattle.tm_legal.proofs.Laws.{times-append}
use Rattle.tm_legal.proofs.Asked.{All-append}
use Rattle.tm_made.specs.Made.{history_made, made_step}
use Rattle.tm_joint.specs.Makers.{times_made}
use Rattle.tm_joint.proofs.Rising.{Passes, rising-all}
use Rattle.tm_made.proofs.Telling.{places-made}

-- a step that passes stands at each of these numbers
abbrev pub OfKind : (Step → Bool) → List Made → List ℕ → Type 0
OfKind test list ns = AllByRecursion (λ n. (step : Step) × (made_step list n ≡ Some step) × (test step ≡ true)) ns

-- what holds of all numbers holds of one that is there
pub all-times : (P : ℕ → Type 0) (n : ℕ) (ns : List ℕ) → AllByRecursion P ns → 0 < times n ns → P n
all-times P n [] all some = absurd (omega arith)
all-times P n (m ∷ ms) all some = go (m == n) refl some (λ later. all-times P n ms all.1 later)
  where
    go : (b : Bool) → (m == n) ≡ b → 0 < (if b then suc (times n ms) else times n ms) → (0 < times n ms → P n) → P n
    go true e there rest = subst P (eqb-true m n e) all.0
    go false e there rest = rest there

same_step : (a b : Step) → Some a ≡ Some b → a ≡ b
same_step a b e = cc

no_step : (a : Step) → Some a ≡ None → ⊥
no_step a e = cc

-- a number whose step doesn't pass isn't there
pub times-other : (test : Step → Bool) (list : List Made) (ns : List ℕ) (n : ℕ) (step : Step) → OfKind test list ns → made_step list n ≡ Some step → test step ≡ false → times n ns ≡ 0
times-other test list [] n step kind at other = refl
times-other test list (m ∷ ms) n step kind at other = go (m == n) refl (times-other test list ms n step kind.1 at other)
  where
    go : (b : Bool) → (m == n) ≡ b → times n ms ≡ 0 → (if b then suc (times n ms) else times n ms) ≡ 0
    go true e ih =
        let is : kind.0.0 ≡ step = same_step kind.0.0 step (sym kind.0.1 ∙ ap (made_step list) (eqb-true m n e) ∙ at) in
        absurd (true≢false (sym kind.0.2 ∙ ap test is ∙ other))
    go false e ih = ih

-- nor is a number without a step
pub times-gone : (test : Step → Bool) (list : List Made) (ns : List ℕ) (n : ℕ) → OfKind test list ns → made_step list n ≡ None → times n ns ≡ 0
times-gone test list [] n kind at = refl
times-gone test list (m ∷ ms) n kind at = go (m == n) refl (times-gone test list ms n kind.1 at)
  where
    go : (b : Bool) → (m == n) ≡ b → times n ms ≡ 0 → (if b then suc (times n ms) else times n ms) ≡ 0
    go true e ih = absurd (no_step kind.0.0 (sym kind.0.1 ∙ ap (made_step list) (eqb-true m n e) ∙ at))
    go false e ih = ih

-- Places

passes-of : (test : Step → Bool) (list : List Made) (ns : List ℕ) → OfKind test list ns → AllByRecursion (Passes (λ (made : Made). test made.step) 1 list) ns
passes-of test list [] kind = tt
passes-of test list (n ∷ ns) kind = (one n kind.0, passes-of test list ns kind.1)
  where
    from : (k : ℕ) (step : Step) (o : Option Made) → slice_get list k ≡ o → option_map (λ (made : Made). made.step) o ≡ Some step → test step ≡ true → Passes (λ (made : Made). test made.step) 1 list (suc k)
    from k step None there e is = absurd cc
    from k step (Some made) there e is = let same : made.step ≡ step = cc in (k, made, omega arith, there, rw same is)

    one : (k : ℕ) → (step : Step) × (made_step list k ≡ Some step) × (test step ≡ true) → Passes (λ (made : Made). test made.step) 1 list k
    one zero (step, at, is) = absurd cc
    one (suc k) (step, at, is) = from k step (slice_get list k) refl at is

-- rising numbers of a kind, among which each number of that kind is, are its places
pub kind-places : (scene : Scene) (test : Step → Bool) (list : List Made) (ns : List ℕ) → RisesFrom 0 ns → OfKind test list ns → ((k : ℕ) (step : Step) → made_step list k ≡ Some step → test step ≡ true → 0 < times k ns) → places test (history_made scene list) ≡ ns
kind-places scene test list ns rises kind has =
    places-made scene test list ∙ sym (rising-all (λ (made : Made). test made.step) 0 list ns rises (passes-of test list ns kind) found)
  where
    found : (k : ℕ) → Passes (λ (made : Made). test made.step) 1 list k → 0 < times k ns
    found k (j, made, is, at, passes) =
        let number : k ≡ suc j = omega arith in
        has k made.step (ap (made_step list) number ∙ rw at refl) passes

-- Lists of several kinds

-- each list has the kind of its number
abbrev pub EachKind : (ℕ → Step → Bool) → List Made → ℕ → List (List ℕ) → Type 0
EachKind tests list t [] = Unit {0}
EachKind tests list t (ns ∷ nss) = OfKind (tests t) list ns × EachKind tests list (suc t) nss

-- no step is of two kinds
abbrev pub Apart : (ℕ → Step → Bool) → Type 0
Apart tests = (i j : ℕ) (step : Step) → tests i step ≡ true → tests j step ≡ true → i ≡ j

module _ (tests : ℕ → Step → Bool) (apart : Apart tests) (list : List Made) (k : ℕ) (step : Step) (at : made_step list k ≡ Some step) where
  of-other : (u t : ℕ) → u ≢ t → tests u step ≡ true → tests t step ≡ false
  of-other u t other is = go (tests t step) refl
    where
      go : (b : Bool) → tests t step ≡ b → b ≡ false
      go true e = absurd (other (apart u t step is e))
      go false e = refl

  -- lists of other kinds don't have the number
  kind-none : (t : ℕ) (nss : List (List ℕ)) (u : ℕ) → EachKind tests list t nss → tests u step ≡ true → u < t → times k (flat_map (λ (ns : List ℕ). ns) nss) ≡ 0
  kind-none t [] u each is lt = refl
  kind-none t (ns ∷ nss) u each is lt =
      let first : times k ns ≡ 0 = times-other (tests t) list ns k step each.0 at (of-other u t (λ same. absurd (omega arith)) is) in
      times-append k ns (flat_map (λ (ms : List ℕ). ms) nss) ∙ rw (first, kind-none (suc t) nss u each.1 is (omega arith)) (omega arith)

  -- it is in the list of its kind as often as in all
  pub kind-only : (t : ℕ) (nss : List (List ℕ)) (n : ℕ) (ns : List ℕ) → EachKind tests list t nss → slice_get nss n ≡ Some ns → tests (t + n) step ≡ true → times k (flat_map (λ (ms : List ℕ). ms) nss) ≡ times k ns
  kind-only t [] n ns each there is = absurd cc
  kind-only t (first ∷ nss) zero ns each there is =
      let same : first ≡ ns = cc in
      times-append k first (flat_map (λ (ms : List ℕ). ms) nss) ∙ rw (kind-none (suc t) nss (t + 0) each.1 is (omega arith), same) (omega arith)
  kind-only t (first ∷ nss) (suc n) ns each there is =
      let number : t + suc n ≡ suc t + n = omega arith in
      let none : times k first ≡ 0 = times-other (tests t) list first k step each.0 at (of-other (t + suc n) t (λ same. absurd (omega arith)) is) in
      times-append k first (flat_map (λ (ms : List ℕ). ms) nss) ∙ rw (none, kind-only (suc t) nss n ns each.1 there (subst (λ u. tests u step ≡ true) number is)) (omega arith)

-- a kind that all of them have
pub kinds-all : (tests : ℕ → Step → Bool) (test : Step → Bool) (list : List Made) (t : ℕ) (nss : List (List ℕ)) → ((u : ℕ) (step : Step) → tests u step ≡ true → test step ≡ true) → EachKind tests list t nss → OfKind test list (flat_map (λ (ns : List ℕ). ns) nss)
kinds-all tests test list t [] wide each = tt
kinds-all tests test list t (ns ∷ nss) wide each =
    All-append (λ n. (step : Step) × (made_step list n ≡ Some step) × (test step ≡ true)) ns (flat_map (λ (ms : List ℕ). ms) nss) (widen ns each.0) (kinds-all tests test list (suc t) nss wide each.1)
  where
    widen : (ms : List ℕ) → OfKind (tests t) list ms → OfKind test list ms
    widen [] h = tt
    widen (m ∷ ms) h = ((h.0.0, h.0.1, wide t h.0.0 h.0.2), widen ms h.1)

-- The four kinds

-- an editor's line
abbrev pub is_some_edit : Step → Bool
is_some_edit (Step.Edit e file line) = true
is_some_edit _ = false

-- the line of editor e
abbrev pub is_edit_of : ℕ → Step → Bool
is_edit_of e (Step.Edit by file line) = by == e
is_edit_of e _ = false

-- the supervisor comes, answers or leaves
abbrev pub is_of_desk : Step → Bool
is_of_desk Step.Attach = true
is_of_desk (Step.Answer serial code) = true
is_of_desk Step.Detach = true
is_of_desk _ = false

of-own : (step : Step) → is_own step ≡ true → (is_some_end step ≡ false) × (is_some_edit step ≡ false) × (is_of_desk step ≡ false)
of-own (Step.Learn d entry) h = (refl, refl, refl)
of-own (Step.Make d name) h = (refl, refl, refl)
of-own (Step.Fail d) h = (refl, refl, refl)
of-own (Step.Ask d retry line) h = (refl, refl, refl)
of-own (Step.Answer serial code) h = absurd (true≢false (sym h))
of-own Step.Attach h = absurd (true≢false (sym h))
of-own Step.Detach h = absurd (true≢false (sym h))
of-own (Step.Edit e file line) h = absurd (true≢false (sym h))
of-own (Step.End t) h = absurd (true≢false (sym h))

of-end : (step : Step) → is_some_end step ≡ true → (is_own step ≡ false) × (is_some_edit step ≡ false) × (is_of_desk step ≡ false)
of-end (Step.Learn d entry) h = absurd (true≢false (sym h))
of-end (Step.Make d name) h = absurd (true≢false (sym h))
of-end (Step.Fail d) h = absurd (true≢false (sym h))
of-end (Step.Ask d retry line) h = absurd (true≢false (sym h))
of-end (Step.Answer serial code) h = absurd (true≢false (sym h))
of-end Step.Attach h = absurd (true≢false (sym h))
of-end Step.Detach h = absurd (true≢false (sym h))
of-end (Step.Edit e file line) h = absurd (true≢false (sym h))
of-end (Step.End t) h = (refl, refl, refl)

of-edit : (step : Step) → is_some_edit step ≡ true → (is_own step ≡ false) × (is_some_end step ≡ false) × (is_of_desk step ≡ false)
of-edit (Step.Learn d entry) h = absurd (true≢false (sym h))
of-edit (Step.Make d name) h = absurd (true≢false (sym h))
of-edit (Step.Fail d) h = absurd (true≢false (sym h))
of-edit (Step.Ask d retry line) h = absurd (true≢false (sym h))
of-edit (Step.Answer serial code) h = absurd (true≢false (sym h))
of-edit Step.Attach h = absurd (true≢false (sym h))
of-edit Step.Detach h = absurd (true≢false (sym h))
of-edit (Step.Edit e file line) h = (refl, refl, refl)
of-edit (Step.End t) h = absurd (true≢false (sym h))

of-desk : (step : Step) → is_of_desk step ≡ true → (is_own step ≡ false) × (is_some_end step ≡ false) × (is_some_edit step ≡ false)
of-desk (Step.Learn d entry) h = absurd (true≢false (sym h))
of-desk (Step.Make d name) h = absurd (true≢false (sym h))
of-desk (Step.Fail d) h = absurd (true≢false (sym h))
of-desk (Step.Ask d retry line) h = absurd (true≢false (sym h))
of-desk (Step.Answer serial code) h = (refl, refl, refl)
of-desk Step.Attach h = (refl, refl, refl)
of-desk Step.Detach h = (refl, refl, refl)
of-desk (Step.Edit e file line) h = absurd (true≢false (sym h))
of-desk (Step.End t) h = absurd (true≢false (sym h))

-- each number of the list is one of a process, of a tree's end, of an editor or of the supervisor,
-- and its step is of that kind
pub record Dealt (list : List Made) (own ends edits desk : List ℕ) : Type 0 where
  pub own_kind : OfKind is_own list own
  pub ends_kind : OfKind is_some_end list ends
  pub edits_kind : OfKind is_some_edit list edits
  pub desk_kind : OfKind is_of_desk list desk
  pub sum : (n : ℕ) → times n own + times n ends + times n edits + times n desk ≡ times_made (numbered list n)

made-once : (list : List Made) (n : ℕ) (step : Step) → made_step list n ≡ Some step → times_made (numbered list n) ≡ 1
made-once list n step at = go (numbered list n) at
  where
    go : (o : Option Made) → option_map (λ (made : Made). made.step) o ≡ Some step → times_made o ≡ 1
    go None e = absurd cc
    go (Some made) e = refl

module _ (list : List Made) (own ends edits desk : List ℕ) (d : Dealt list own ends edits desk) where
  -- an own step is owned once, and no other step is
  pub own-once : (n : ℕ) → times n own ≡ times_owned (made_step list n)
  own-once n = by_step (made_step list n) refl
    where
      by_kind : (step : Step) → made_step list n ≡ Some step → (b : Bool) → is_own step ≡ b → times n own ≡ (if b then 1 else 0)
      by_kind step at true e =
          let none = of-own step e in
          let a : times n ends ≡ 0 = times-other is_some_end list ends n step d.ends_kind at none.0 in
          let b : times n edits ≡ 0 = times-other is_some_edit list edits n step d.edits_kind at none.1 in
          let c : times n desk ≡ 0 = times-other is_of_desk list desk n step d.desk_kind at none.2 in
          let sum = d.sum n in
          let one = made-once list n step at in
          omega arith
      by_kind step at false e = times-other is_own list own n step d.own_kind at e

      by_step : (o : Option Step) → made_step list n ≡ o → times n own ≡ times_owned o
      by_step None at = times-gone is_own list own n d.own_kind at
      by_step (Some step) at = by_kind step at (is_own step) refl

  -- a tree's end, an editor's line and a supervisor's step are each among those of their kind
  pub end-once : (n : ℕ) (step : Step) → made_step list n ≡ Some step → is_some_end step ≡ true → times n ends ≡ 1
  end-once n step at e =
      let none = of-end step e in
      let a : times n own ≡ 0 = times-other is_own list own n step d.own_kind at none.0 in
      let b : times n edits ≡ 0 = times-other is_some_edit list edits n step d.edits_kind at none.1 in
      let c : times n desk ≡ 0 = times-other is_of_desk list desk n step d.desk_kind at none.2 in
      let sum = d.sum n in
      let one = made-once list n step at in
      omega arith

  pub edit-once : (n : ℕ) (step : Step) → made_step list n ≡ Some step → is_some_edit step ≡ true → times n edits ≡ 1
  edit-once n step at e =
      let none = of-edit step e in
      let a : times n own ≡ 0 = times-other is_own list own n step d.own_kind at none.0 in
      let b : times n ends ≡ 0 = times-other is_some_end list ends n step d.ends_kind at none.1 in
      let c : times n desk ≡ 0 = times-other is_of_desk list desk n step d.desk_kind at none.2 in
      let sum = d.sum n in
      let one = made-once list n step at in
      omega arith

  pub desk-once : (n : ℕ) (step : Step) → made_step list n ≡ Some step → is_of_desk step ≡ true → times n desk ≡ 1
  desk-once n step at e =
      let none = of-desk step e in
      let a : times n own ≡ 0 = times-other is_own list own n step d.own_kind at none.0 in
      let b : times n ends ≡ 0 = times-other is_some_end list ends n step d.ends_kind at none.1 in
      let c : times n edits ≡ 0 = times-other is_some_edit list edits n step d.edits_kind at none.2 in
      let sum = d.sum n in
      let one = made-once list n step at in
      omega arith

-- Ends and lines by their numbers

pub edits-apart : Apart is_edit_of
edits-apart i j (Step.Edit e file line) h k = sym (eqb-true e i h) ∙ eqb-true e j k
edits-apart i j (Step.Learn d entry) h k = absurd (true≢false (sym h))
edits-apart i j (Step.Make d name) h k = absurd (true≢false (sym h))
edits-apart i j (Step.Fail d) h k = absurd (true≢false (sym h))
edits-apart i j (Step.Ask d retry line) h k = absurd (true≢false (sym h))
edits-apart i j (Step.Answer serial code) h k = absurd (true≢false (sym h))
edits-apart i j Step.Attach h k = absurd (true≢false (sym h))
edits-apart i j Step.Detach h k = absurd (true≢false (sym h))
edits-apart i j (Step.End t) h k = absurd (true≢false (sym h))

pub end-is-some : (t : ℕ) (step : Step) → is_end t step ≡ true → is_some_end step ≡ true
end-is-some t (Step.End u) h = refl
end-is-some t (Step.Learn d entry) h = h
end-is-some t (Step.Make d name) h = h
end-is-some t (Step.Fail d) h = h
end-is-some t (Step.Ask d retry line) h = h
end-is-some t (Step.Answer serial code) h = h
end-is-some t Step.Attach h = h
end-is-some t Step.Detach h = h
end-is-some t (Step.Edit e file line) h = h

pub edit-is-some : (e : ℕ) (step : Step) → is_edit_of e step ≡ true → is_some_edit step ≡ true
edit-is-some e (Step.Edit by file line) h = refl
edit-is-some e (Step.Learn d entry) h = h
edit-is-some e (Step.Make d name) h = h
edit-is-some e (Step.Fail d) h = h
edit-is-some e (Step.Ask d retry line) h = h
edit-is-some e (Step.Answer serial code) h = h
edit-is-some e Step.Attach h = h
edit-is-some e Step.Detach h = h
edit-is-some e (Step.End t) h = h

-- the end of tree t is the one step of its kind
pub end-of : (t : ℕ) (step : Step) → is_end t step ≡ true → step ≡ Step.End t
end-of t (Step.End u) h = ap Step.End (eqb-true u t h)
end-of t (Step.Learn d entry) h = absurd (true≢false (sym h))
end-of t (Step.Make d name) h = absurd (true≢false (sym h))
end-of t (Step.Fail d) h = absurd (true≢false (sym h))
end-of t (Step.Ask d retry line) h = absurd (true≢false (sym h))
end-of t (Step.Answer serial code) h = absurd (true≢false (sym h))
end-of t Step.Attach h = absurd (true≢false (sym h))
end-of t Step.Detach h = absurd (true≢false (sym h))
end-of t (Step.Edit e file line) h = absurd (true≢false (sym h))
