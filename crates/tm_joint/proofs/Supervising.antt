-- The supervisor and the trees' ends among everybody's steps: what the supervisor saw of a version
-- still holds at its step.
use Rattle.std.proofs.Common.{◌≡◌, ◌≤◌, ◌<◌, ℕ, zero, suc, ◌+◌, ◌-◌, List, [], ◌∷◌, ◌++◌, length, Bool, true, false, true≢false, refl, sym, ap, ◌∙◌, subst, arith, inl, inr, ◌⊎◌, eq-zero-or-pos}
use Rattle.std.specs.Prelude.{Option, Some, None, if◌then◌else◌, ◌==◌, slice_get, flat_map, option_to_list, is_some, IfSome}
use Rattle.std.specs.List.{AllByRecursion}
use Rattle.std.proofs.lemmas.Bool.{eqb-true, eq-eqb, ne_eqb}
use Rattle.std.proofs.lemmas.Grind.{flat_map-append}
use Rattle.tm_rules.specs.Types.{Book, Look, Made, Query, Step, Take, Tree}
use Rattle.tm_rules.specs.Prelude.{Trace, book_answer, code_of, first_query}
use Rattle.tm_legal.specs.Prelude.{AnswersByBook, DetachIsDue, RisesFrom, Scene, Supervised, all_ended, heard_version, is_answer, is_attach, is_detach, is_end, is_own, is_some_end, last_from, own_numbers, places, seen, times}
use Rattle.tm_legal.proofs.Laws.{times-append}
use Rattle.tm_legal.proofs.Asked.{All-append}
use Rattle.tm_legal.proofs.Walks.{All-map, is_over}
use Rattle.tm_legal.proofs.Scripts.{all-counted}
use Rattle.tm_made.specs.Made.{history_made, made_step}
use Rattle.tm_made.specs.Made.{numbers_from}
use Rattle.tm_joint.specs.Played.{Row, seen_by, RowHolds, EachRow, AnswersFirst, AnswersFrom, AllWasDone, DeskDid}
use Rattle.tm_joint.specs.Joint.{takes_in}
use Rattle.tm_joint.proofs.Rising.{Passes, RisesFrom-low, times-below}
use Rattle.tm_made.proofs.Telling.{places-made, step_at-made}
use Rattle.tm_joint.proofs.NumberKinds.{OfKind, EachKind, all-times, times-other, kind-places, is_of_desk, Dealt, own-once, end-once, desk-once, end-of}
use Rattle.tm_joint.proofs.Rows.{All-left, All-right, ends_in, row-at, rows-ends}
use Rattle.tm_joint.proofs.Along.{is_ask, version, first-stays, none-stays, over-stands, trees-stay, ended-counted}

-- Lists

-- a number that is among one is that one
one-times : (k n : ℕ) → 0 < times k (n ∷ []) → n ≡ k
one-times k n some = go (n == k) refl some
  where
    go : (b : Bool) → (n == k) ≡ b → 0 < (if b then 1 else 0) → n ≡ k
    go true e h = eqb-true n k e
    go false e h = absurd (omega arith)

-- a number that names a step is one of the list's
step-within : (list : List Made) (n : ℕ) (step : Step) → made_step list n ≡ Some step → (0 < n) × (n ≤ length list)
step-within list zero step at = absurd cc
step-within [] (suc n) step at = absurd cc
step-within (made ∷ list) (suc zero) step at = (omega arith, omega arith)
step-within (made ∷ list) (suc (suc n)) step at = let rest = step-within list (suc n) step at in (omega arith, omega (arith, rest.1))

-- rising numbers and one above them
rises-split : (low : ℕ) (ns : List ℕ) (n : ℕ) → RisesFrom low (ns ++ n ∷ []) → RisesFrom low ns × AllByRecursion (λ m. (low < m) × (m < n)) ns × (low < n)
rises-split low [] n rises = (tt, tt, rises.0)
rises-split low (m ∷ ms) n rises =
    let rest = rises-split m ms n rises.1 in
    ((rises.0, rest.0), ((rises.0, rest.2), All-map (λ k. (m < k) × (k < n)) (λ k. (low < k) × (k < n)) ms (λ k between. (omega (arith, rises.0, between.0), between.1)) rest.1), omega (arith, rises.0, rest.2))

-- what holds at each number whose step passes holds at all places
places-all : (scene : Scene) (list : List Made) (test : Step → Bool) (P : ℕ → Type 0) → ((k : ℕ) (step : Step) → made_step list k ≡ Some step → test step ≡ true → P k) → AllByRecursion P (places test (history_made scene list))
places-all scene list test P f =
    rw (places-made scene test list)
    (All-map (Passes (λ (made : Made). test made.step) 1 list) P (numbers_from 1 (λ (made : Made). test made.step) list) found (numbers-pass 1 list))
  where
    lift : (n : ℕ) (made : Made) (rest : List Made) (k : ℕ) → Passes (λ (m : Made). test m.step) (suc n) rest k → Passes (λ (m : Made). test m.step) n (made ∷ rest) k
    lift n made rest k (j, x, is, at, passes) = (suc j, x, omega arith, at, passes)

    numbers-pass : (n : ℕ) (rest : List Made) → AllByRecursion (Passes (λ (m : Made). test m.step) n rest) (numbers_from n (λ (m : Made). test m.step) rest)
    numbers-pass n [] = tt
    numbers-pass n (made ∷ rest) =
        go (test made.step) refl
        (All-map (Passes (λ (m : Made). test m.step) (suc n) rest) (Passes (λ (m : Made). test m.step) n (made ∷ rest)) (numbers_from (suc n) (λ (m : Made). test m.step) rest) (lift n made rest) (numbers-pass (suc n) rest))
      where
        go : (b : Bool) → test made.step ≡ b → AllByRecursion (Passes (λ (m : Made). test m.step) n (made ∷ rest)) (numbers_from (suc n) (λ (m : Made). test m.step) rest) → AllByRecursion (Passes (λ (m : Made). test m.step) n (made ∷ rest)) (if b then n ∷ numbers_from (suc n) (λ (m : Made). test m.step) rest else numbers_from (suc n) (λ (m : Made). test m.step) rest)
        go true e more = ((0, made, omega arith, refl, e), more)
        go false e more = more

    found : (k : ℕ) → Passes (λ (made : Made). test made.step) 1 list k → P k
    found k (j, made, is, at, passes) =
        let number : k ≡ suc j = omega arith in
        f k made.step (ap (made_step list) number ∙ rw at refl) passes

-- Kinds

of-attach : (step : Step) → is_attach step ≡ true → (is_of_desk step ≡ true) × (is_answer step ≡ false) × (is_detach step ≡ false)
of-attach Step.Attach h = (refl, refl, refl)
of-attach Step.Detach h = absurd (true≢false (sym h))
of-attach (Step.Answer serial code) h = absurd (true≢false (sym h))
of-attach (Step.Learn d entry) h = absurd (true≢false (sym h))
of-attach (Step.Make d name) h = absurd (true≢false (sym h))
of-attach (Step.Fail d) h = absurd (true≢false (sym h))
of-attach (Step.Ask d retry line) h = absurd (true≢false (sym h))
of-attach (Step.Edit e file line) h = absurd (true≢false (sym h))
of-attach (Step.End t) h = absurd (true≢false (sym h))

of-detach : (step : Step) → is_detach step ≡ true → (is_of_desk step ≡ true) × (is_attach step ≡ false) × (is_answer step ≡ false)
of-detach Step.Detach h = (refl, refl, refl)
of-detach Step.Attach h = absurd (true≢false (sym h))
of-detach (Step.Answer serial code) h = absurd (true≢false (sym h))
of-detach (Step.Learn d entry) h = absurd (true≢false (sym h))
of-detach (Step.Make d name) h = absurd (true≢false (sym h))
of-detach (Step.Fail d) h = absurd (true≢false (sym h))
of-detach (Step.Ask d retry line) h = absurd (true≢false (sym h))
of-detach (Step.Edit e file line) h = absurd (true≢false (sym h))
of-detach (Step.End t) h = absurd (true≢false (sym h))

of-answer : (step : Step) → is_answer step ≡ true → (is_of_desk step ≡ true) × (is_attach step ≡ false) × (is_detach step ≡ false)
of-answer (Step.Answer serial code) h = (refl, refl, refl)
of-answer Step.Attach h = absurd (true≢false (sym h))
of-answer Step.Detach h = absurd (true≢false (sym h))
of-answer (Step.Learn d entry) h = absurd (true≢false (sym h))
of-answer (Step.Make d name) h = absurd (true≢false (sym h))
of-answer (Step.Fail d) h = absurd (true≢false (sym h))
of-answer (Step.Ask d retry line) h = absurd (true≢false (sym h))
of-answer (Step.Edit e file line) h = absurd (true≢false (sym h))
of-answer (Step.End t) h = absurd (true≢false (sym h))

ask-own : (step : Step) → is_ask step ≡ true → is_own step ≡ true
ask-own (Step.Ask d retry line) h = refl
ask-own (Step.Learn d entry) h = refl
ask-own (Step.Make d name) h = refl
ask-own (Step.Fail d) h = refl
ask-own (Step.Answer serial code) h = h
ask-own Step.Attach h = h
ask-own Step.Detach h = h
ask-own (Step.Edit e file line) h = h
ask-own (Step.End t) h = h

-- Ends of trees

-- own steps are among what is seen
own-of-seen : (P : ℕ → Type 0) (looks : List Look) → AllByRecursion P (flat_map seen looks) → AllByRecursion P (flat_map (λ (look : Look). look.own) looks)
own-of-seen P [] h = tt
own-of-seen P (look ∷ looks) h =
    let first : AllByRecursion P (seen look) = All-left P (seen look) (flat_map seen looks) h in
    All-append P look.own (flat_map (λ (l : Look). l.own) looks) (All-left P look.own (heard_version look.heard) first.1) (own-of-seen P looks (All-right P (seen look) (flat_map seen looks) h))

own-of-takes : (P : ℕ → Type 0) (takes : List Take) → AllByRecursion P (seen_by takes) → AllByRecursion P (own_numbers takes)
own-of-takes P [] h = tt
own-of-takes P (k ∷ takes) h =
    All-append P (flat_map (λ (look : Look). look.own) k.looks) (own_numbers takes)
    (own-of-seen P k.looks (All-left P (flat_map seen k.looks) (seen_by takes) h))
    (own-of-takes P takes (All-right P (flat_map seen k.looks) (seen_by takes) h))

own-append : (xs ys : List Take) → own_numbers (xs ++ ys) ≡ own_numbers xs ++ own_numbers ys
own-append xs ys = flat_map-append (λ (k : Take). flat_map (λ (look : Look). look.own) k.looks) xs ys

-- the list in which the end of a tree stands
end-list : (list : List Made) (k u t : ℕ) (nss : List (List ℕ)) → EachKind is_end list t nss → made_step list k ≡ Some (Step.End u) → 0 < times k (flat_map (λ (ns : List ℕ). ns) nss) → (n : ℕ) × (ns : List ℕ) × (slice_get nss n ≡ Some ns) × (t + n ≡ u) × (0 < times k ns)
end-list list k u t [] each at some = absurd (omega arith)
end-list list k u t (ns ∷ nss) each at some = go (eq-zero-or-pos (times k ns)) (λ later. end-list list k u (suc t) nss each.1 at later)
  where
    sum : times k (ns ++ flat_map (λ (ms : List ℕ). ms) nss) ≡ times k ns + times k (flat_map (λ (ms : List ℕ). ms) nss)
    sum = times-append k ns (flat_map (λ (ms : List ℕ). ms) nss)

    mine : (step : Step) × (made_step list k ≡ Some step) × (is_end t step ≡ true) → t ≡ u
    mine (step, there, is) =
        let both : Some step ≡ Some (Step.End u) = sym there ∙ at in
        let same : step ≡ Step.End u = cc in
        sym (eqb-true u t (sym (ap (is_end t) same) ∙ is))

    go : (times k ns ≡ 0) ⊎ (0 < times k ns) → (0 < times k (flat_map (λ (ms : List ℕ). ms) nss) → (n : ℕ) × (ms : List ℕ) × (slice_get nss n ≡ Some ms) × (suc t + n ≡ u) × (0 < times k ms)) → (n : ℕ) × (ms : List ℕ) × (slice_get (ns ∷ nss) n ≡ Some ms) × (t + n ≡ u) × (0 < times k ms)
    go (inl none) rest =
        let total = sum in
        let any : 0 < times k (ns ++ flat_map (λ (ms : List ℕ). ms) nss) = some in
        let (n, ms, there, number, found) = rest (omega arith) in
        (suc n, ms, there, omega arith, found)
    go (inr some_) rest =
        let is : t ≡ u = mine (all-times (λ n. (step : Step) × (made_step list n ≡ Some step) × (is_end t step ≡ true)) k ns each.0 some_) in
        (0, ns, refl, omega arith, some_)

end-row : (rows : List Row) (n : ℕ) (ns : List ℕ) → slice_get (ends_in rows) n ≡ Some ns → (row : Row) × (slice_get rows n ≡ Some row) × (option_to_list row.end ≡ ns)
end-row [] n ns at = absurd cc
end-row (row ∷ rows) zero ns at = let same : option_to_list row.end ≡ ns = cc in (row, refl, same)
end-row (row ∷ rows) (suc n) ns at = end-row rows n ns at

module _ (scene : Scene) (list : List Made) (rows : List Row) (each : EachRow (RowHolds scene list) 1 scene.trace rows) (edits desk : List ℕ) (d : Dealt list (own_numbers (takes_in rows)) (flat_map (λ (ns : List ℕ). ns) (ends_in rows)) edits desk) where
  -- a tree ends once
  pub end-unique : (t k m : ℕ) → made_step list k ≡ Some (Step.End t) → made_step list m ≡ Some (Step.End t) → k ≡ m
  end-unique t k m at there =
      let kinds = rows-ends scene list 1 scene.trace rows each in
      let once : times k (flat_map (λ (ns : List ℕ). ns) (ends_in rows)) ≡ 1 = end-once list (own_numbers (takes_in rows)) (flat_map (λ (ns : List ℕ). ns) (ends_in rows)) edits desk d k (Step.End t) at refl in
      let one : times m (flat_map (λ (ns : List ℕ). ns) (ends_in rows)) ≡ 1 = end-once list (own_numbers (takes_in rows)) (flat_map (λ (ns : List ℕ). ns) (ends_in rows)) edits desk d m (Step.End t) there refl in
      let (n, ns, here, number, some) = end-list list k t 1 (ends_in rows) kinds at (omega arith) in
      let (i, ms, where_, place, any) = end-list list m t 1 (ends_in rows) kinds there (omega arith) in
      let same_place : n ≡ i = omega arith in
      let both : Some ns ≡ Some ms = sym here ∙ ap (slice_get (ends_in rows)) same_place ∙ where_ in
      let same : ns ≡ ms = cc in
      let row = end-row rows n ns here in
      same-of row.0.end (subst (λ l. 0 < times k l) (sym row.2) some) (subst (λ l. 0 < times m l) (sym same ∙ sym row.2) any)
    where
      same-of : (o : Option ℕ) → 0 < times k (option_to_list o) → 0 < times m (option_to_list o) → k ≡ m
      same-of None a b = absurd (omega arith)
      same-of (Some n) a b = sym (one-times k n a) ∙ one-times m n b

  -- the end of each tree, where there is a book
  pub end-places : is_some scene.book ≡ true → (n : ℕ) (tree : Tree) → slice_get scene.trace n ≡ Some tree → (end : ℕ) × (made_step list end ≡ Some (Step.End (suc n))) × (places (is_end (suc n)) (history_made scene list) ≡ end ∷ [])
  end-places book n tree at =
      let (row, there, told) = row-at (RowHolds scene list) 1 scene.trace rows n tree each at in
      let number : 1 + n ≡ suc n = omega arith in
      let holds : RowHolds scene list (suc n) tree row = subst (λ k. RowHolds scene list k tree row) number told in
      go row.end (holds.ended ∙ book) holds.end_is
    where
      by_end : (end : ℕ) → made_step list end ≡ Some (Step.End (suc n)) → places (is_end (suc n)) (history_made scene list) ≡ end ∷ []
      by_end end is =
          kind-places scene (is_end (suc n)) list (end ∷ []) ((step-within list end (Step.End (suc n)) is).0, tt) ((Step.End (suc n), is, eq-eqb (suc n) (suc n) refl), tt)
          (λ k step there ends_.
          let other : made_step list k ≡ Some (Step.End (suc n)) = there ∙ ap Some (end-of (suc n) step ends_) in
          rw (eq-eqb end k (end-unique (suc n) end k is other)) (omega arith))

      go : (o : Option ℕ) → is_some o ≡ true → IfSome o (λ e. made_step list e ≡ Some (Step.End (suc n))) → (end : ℕ) × (made_step list end ≡ Some (Step.End (suc n))) × (places (is_end (suc n)) (history_made scene list) ≡ end ∷ [])
      go None some is = absurd (true≢false (sym some))
      go (Some end) some is = (end, is, by_end end is)

  -- where all trees have ended in a version, no end and no own step comes later
  module _ (v : ℕ) (within : v ≤ length list) (over : all_ended scene.grammar (version scene list v) ≡ true) where
    all-over : (t : ℕ) → 0 < t → t ≤ length scene.trace → is_over t (version scene list v).ended ≡ true
    all-over t pos le =
        let full : length (version scene list v).ended ≡ (version scene list v).trees = eqb-true (length (version scene list v).ended) (version scene list v).trees over in
        let counted = ended-counted scene list end-unique v within in
        all-counted (length scene.trace) (version scene list v).ended (sym counted ∙ full ∙ trees-stay scene list v) t pos le

    end-by : (t k : ℕ) → 0 < t → t ≤ length scene.trace → made_step list k ≡ Some (Step.End t) → k ≤ v
    end-by t k pos le at =
        let (m, most, there) = over-stands scene list t v within (all-over t pos le) in
        let same : k ≡ m = end-unique t k m at there in
        omega arith

    -- of each row
    rows-by : is_some scene.book ≡ true → (t : ℕ) (trees : Trace) (some : List Row) → EachRow (RowHolds scene list) t trees some → 0 < t → t + length trees ≤ suc (length scene.trace) → AllByRecursion (λ n. n ≤ v) (flat_map (λ (ns : List ℕ). ns) (ends_in some)) × AllByRecursion (λ n. n ≤ v) (own_numbers (takes_in some))
    rows-by book t [] [] h pos le = (tt, tt)
    rows-by book t [] (row ∷ some) h pos le = absurd h
    rows-by book t (tree ∷ trees) [] h pos le = absurd h
    rows-by book t (tree ∷ trees) (row ∷ some) h pos le =
        let rest = rows-by book (suc t) trees some h.1 (omega arith) (omega arith) in
        let mine = go row.end (h.0.ended ∙ book) h.0.end_is h.0.above in (
          All-append (λ n. n ≤ v) (option_to_list row.end) (flat_map (λ (ns : List ℕ). ns) (ends_in some)) mine.0 rest.0,
          rw (own-append row.takes (takes_in some)) (All-append (λ n. n ≤ v) (own_numbers row.takes) (own_numbers (takes_in some)) mine.1 rest.1),
        )
      where
        go : (o : Option ℕ) → is_some o ≡ true → IfSome o (λ n. made_step list n ≡ Some (Step.End t)) → IfSome o (λ n. AllByRecursion (λ seen_. seen_ < n) (seen_by row.takes)) → AllByRecursion (λ n. n ≤ v) (option_to_list o) × AllByRecursion (λ n. n ≤ v) (own_numbers row.takes)
        go None has is above = absurd (true≢false (sym has))
        go (Some end) has is above =
            let by : end ≤ v = end-by t end pos (omega arith) is in
            ((by, tt), All-map (λ n. n < end) (λ n. n ≤ v) (own_numbers row.takes) (λ n below. omega arith) (own-of-takes (λ n. n < end) row.takes above))

  -- The supervisor's steps

  module _ (book : Book) (h : DeskDid scene list book desk) where
    -- the numbers of its steps
    abbrev its : List ℕ
    its = h.attach ∷ h.answers ++ h.detach ∷ []

    its-rise : RisesFrom 0 its
    its-rise = subst (RisesFrom 0) h.numbers_are h.rising

    its-parts : RisesFrom h.attach h.answers × AllByRecursion (λ m. (h.attach < m) × (m < h.detach)) h.answers × (h.attach < h.detach)
    its-parts = rises-split h.attach h.answers h.detach its-rise.1

    its-once : (k : ℕ) (step : Step) → made_step list k ≡ Some step → is_of_desk step ≡ true → times k its ≡ 1
    its-once k step at is = ap (times k) (sym h.numbers_are) ∙ desk-once list (own_numbers (takes_in rows)) (flat_map (λ (ns : List ℕ). ns) (ends_in rows)) edits desk d k step at is

    its-sum : (k : ℕ) → times k its ≡ times k (h.attach ∷ []) + times k h.answers + times k (h.detach ∷ [])
    its-sum k =
        let outer = times-append k (h.attach ∷ []) (h.answers ++ h.detach ∷ []) in
        let inner = times-append k h.answers (h.detach ∷ []) in
        outer ∙ rw inner (omega arith)

    answers-kind : (last : ℕ) (ns : List ℕ) → AnswersFrom scene list book last ns → OfKind is_answer list ns
    answers-kind last [] from = tt
    answers-kind last (p ∷ ns) from = ((Step.Answer from.0.query.serial (code_of (book_answer book from.0.query)), from.0.answer, refl), answers-kind p ns from.1)

    kind-of-attach : OfKind is_attach list (h.attach ∷ [])
    kind-of-attach = ((Step.Attach, h.attach_is, refl), tt)

    kind-of-detach : OfKind is_detach list (h.detach ∷ [])
    kind-of-detach = ((Step.Detach, h.detach_is, refl), tt)

    kind-of-answers : OfKind is_answer list h.answers
    kind-of-answers = answers-kind h.attach h.answers h.each

    attach-has : (k : ℕ) (step : Step) → made_step list k ≡ Some step → is_attach step ≡ true → 0 < times k (h.attach ∷ [])
    attach-has k step at is =
        let kinds = of-attach step is in
        let a : times k h.answers ≡ 0 = times-other is_answer list h.answers k step kind-of-answers at kinds.1 in
        let b : times k (h.detach ∷ []) ≡ 0 = times-other is_detach list (h.detach ∷ []) k step kind-of-detach at kinds.2 in
        let sum = its-sum k in
        let one = its-once k step at kinds.0 in
        omega arith

    attached-once : places is_attach (history_made scene list) ≡ h.attach ∷ []
    attached-once = kind-places scene is_attach list (h.attach ∷ []) (its-rise.0, tt) kind-of-attach attach-has

    -- it comes once
    pub comes-at : (k : ℕ) → made_step list k ≡ Some Step.Attach → h.attach ≡ k
    comes-at k at = one-times k h.attach (attach-has k Step.Attach at refl)

    detached-once : places is_detach (history_made scene list) ≡ h.detach ∷ []
    detached-once =
        kind-places scene is_detach list (h.detach ∷ []) ((let first = its-rise.0 in let last = its-parts.2 in omega arith), tt) kind-of-detach
        (λ k step at is.
        let kinds = of-detach step is in
        let a : times k (h.attach ∷ []) ≡ 0 = times-other is_attach list (h.attach ∷ []) k step kind-of-attach at kinds.1 in
        let b : times k h.answers ≡ 0 = times-other is_answer list h.answers k step kind-of-answers at kinds.2 in
        let sum = its-sum k in
        let one = its-once k step at kinds.0 in
        omega arith)

    answer-has : (k : ℕ) (step : Step) → made_step list k ≡ Some step → is_answer step ≡ true → 0 < times k h.answers
    answer-has k step at is =
        let kinds = of-answer step is in
        let a : times k (h.attach ∷ []) ≡ 0 = times-other is_attach list (h.attach ∷ []) k step kind-of-attach at kinds.1 in
        let b : times k (h.detach ∷ []) ≡ 0 = times-other is_detach list (h.detach ∷ []) k step kind-of-detach at kinds.2 in
        let sum = its-sum k in
        let one = its-once k step at kinds.0 in
        omega arith

    answered : places is_answer (history_made scene list) ≡ h.answers
    answered = kind-places scene is_answer list h.answers (RisesFrom-low 0 h.attach h.answers (omega arith) its-parts.0) kind-of-answers answer-has

    -- Between its steps

    -- each of its numbers above this one is among the rest
    abbrev Rest : ℕ → List ℕ → Type 0
    Rest last rest = (k : ℕ) → last < k → 0 < times k its → 0 < times k rest

    rest-next : (last p : ℕ) (rest : List ℕ) → last < p → Rest last (p ∷ rest) → Rest p rest
    rest-next last p rest lt has k above some = rw (ne_eqb p k (λ same. absurd (omega arith))) at (has k (omega arith) some)

    -- between one of its steps and the next it makes none
    quiet-between : (last p : ℕ) (rest : List ℕ) → RisesFrom last (p ∷ rest) → Rest last (p ∷ rest) → (k : ℕ) (step : Step) → last < k → k < p → made_step list k ≡ Some step → is_of_desk step ≡ false
    quiet-between last p rest rises has k step above below at = go (is_of_desk step) refl
      where
        go : (b : Bool) → is_of_desk step ≡ b → is_of_desk step ≡ false
        go true e =
            let one = its-once k step at e in
            let some : 0 < times k (p ∷ rest) = has k above (omega arith) in
            let none : times k (p ∷ rest) ≡ 0 = rw (ne_eqb p k (λ same. absurd (omega arith))) (times-below k p rest (omega arith) rises.1) in
            absurd (omega arith)
        go false e = e

    rest-first : Rest h.attach (h.answers ++ h.detach ∷ [])
    rest-first k above some = rw (ne_eqb h.attach k (λ same. absurd (omega arith))) at some

    -- what stands at the version before an answer
    abbrev FirstBefore : ℕ → Type 0
    FirstBefore p = (n : ℕ) → suc n ≡ p → (query : Query) × (first_query (version scene list n).queries ≡ Some query) × (made_step list p ≡ Some (Step.Answer query.serial (code_of (book_answer book query))))

    first-before : (last p : ℕ) (rest : List ℕ) → RisesFrom last (p ∷ rest) → Rest last (p ∷ rest) → AnswersFirst scene list book last p → FirstBefore p
    first-before last p rest rises has a n is =
        let since = a.since in
        let before = a.before in
        let bound = (step-within list p (Step.Answer a.query.serial (code_of (book_answer book a.query))) a.answer).1 in
        let sum : a.version + (n - a.version) ≡ n = omega arith in
        let stays : first_query (version scene list (a.version + (n - a.version))).queries ≡ Some a.query =
        first-stays scene list a.version (n - a.version) a.query (omega arith) (λ k step lt most at. quiet-between last p rest rises has k step (omega arith) (omega arith) at) a.first in
        (a.query, subst (λ m. first_query (version scene list m).queries ≡ Some a.query) sum stays, a.answer)

    find-answer : (ns : List ℕ) (last : ℕ) → RisesFrom last (ns ++ h.detach ∷ []) → Rest last (ns ++ h.detach ∷ []) → AnswersFrom scene list book last ns → (p : ℕ) → 0 < times p ns → FirstBefore p
    find-answer [] last rises has from p some = absurd (omega arith)
    find-answer (a ∷ ns) last rises has from p some =
        go (a == p) refl some
        (first-before last a (ns ++ h.detach ∷ []) rises has from.0)
        (λ later. find-answer ns a rises.1 (rest-next last a (ns ++ h.detach ∷ []) rises.0 has) from.1 p later)
      where
        go : (b : Bool) → (a == p) ≡ b → 0 < (if b then suc (times p ns) else times p ns) → FirstBefore a → (0 < times p ns → FirstBefore p) → FirstBefore p
        go true e there first rest = subst FirstBefore (eqb-true a p e) first
        go false e there first rest = rest there

    by-book : AnswersByBook scene (history_made scene list) book
    by-book n serial code at =
        let there : made_step list (suc n) ≡ Some (Step.Answer serial code) = sym (step_at-made scene list (suc n)) ∙ at in
        let (query, first, answer) = find-answer h.answers h.attach its-rise.1 rest-first h.each (suc n) (answer-has (suc n) (Step.Answer serial code) there refl) n refl in
        let both : Some (Step.Answer query.serial (code_of (book_answer book query))) ≡ Some (Step.Answer serial code) = sym answer ∙ there in
        let same : query.serial ≡ serial = cc in
        let coded : code_of (book_answer book query) ≡ code = cc in
        (query, first, same, coded)

    -- after its last answer it makes no step before it leaves
    quiet-last : (ns : List ℕ) (last : ℕ) → RisesFrom last (ns ++ h.detach ∷ []) → Rest last (ns ++ h.detach ∷ []) → (k : ℕ) (step : Step) → last_from last ns < k → k < h.detach → made_step list k ≡ Some step → is_of_desk step ≡ false
    quiet-last [] last rises has k step above below at = quiet-between last h.detach [] rises has k step above below at
    quiet-last (a ∷ ns) last rises has k step above below at = quiet-last ns a rises.1 (rest-next last a (ns ++ h.detach ∷ []) rises.0 has) k step above below at

    was-due : is_some scene.book ≡ true → (book.stop ≡ Some (length h.answers)) ⊎ AllWasDone scene list (last_from h.attach h.answers) h.detach → DetachIsDue scene (history_made scene list) book h.detach
    was-due has (inl stop) = inl (stop ∙ ap (λ (ns : List ℕ). Some (length ns)) (sym answered))
    was-due has (inr w) = inr (ends-before, none-left)
      where
        bound : h.detach ≤ length list
        bound = (step-within list h.detach Step.Detach h.detach_is).1

        done : AllByRecursion (λ n. n ≤ w.version) (flat_map (λ (ns : List ℕ). ns) (ends_in rows)) × AllByRecursion (λ n. n ≤ w.version) (own_numbers (takes_in rows))
        done =
            let before = w.before in
            let le = bound in
            rows-by w.version (omega arith) w.ended has 1 scene.trace rows each (omega arith) (omega arith)

        ends-before : AllByRecursion (λ end. end < h.detach) (places is_some_end (history_made scene list))
        ends-before =
            places-all scene list is_some_end (λ end. end < h.detach)
            (λ k step at is.
            let once = end-once list (own_numbers (takes_in rows)) (flat_map (λ (ns : List ℕ). ns) (ends_in rows)) edits desk d k step at is in
            let by : k ≤ w.version = all-times (λ n. n ≤ w.version) k (flat_map (λ (ns : List ℕ). ns) (ends_in rows)) done.0 (omega arith) in
            let before = w.before in
            omega arith)

        no-ask : (k : ℕ) (step : Step) → w.version < k → made_step list k ≡ Some step → is_ask step ≡ false
        no-ask k step above at = go (is_ask step) refl
          where
            go : (b : Bool) → is_ask step ≡ b → is_ask step ≡ false
            go true e =
                let once : times k (own_numbers (takes_in rows)) ≡ 1 = own-once list (own_numbers (takes_in rows)) (flat_map (λ (ns : List ℕ). ns) (ends_in rows)) edits desk d k ∙ rw (at, ask-own step e) refl in
                let by : k ≤ w.version = all-times (λ n. n ≤ w.version) k (own_numbers (takes_in rows)) done.1 (omega arith) in
                absurd (omega arith)
            go false e = e

        none-left : (n : ℕ) → suc n ≡ h.detach → first_query (version scene list n).queries ≡ None
        none-left n is =
            let since = w.since in
            let before = w.before in
            let le = bound in
            let sum : w.version + (n - w.version) ≡ n = omega arith in
            subst (λ m. first_query (version scene list m).queries ≡ None) sum
            (none-stays scene list w.version (n - w.version) (omega arith)
            (λ k step lt most at. (quiet-last h.answers h.attach its-rise.1 rest-first k step (omega arith) (omega arith) at, no-ask k step lt at)) w.none)

    -- all that the supervisor does
    pub supervised : is_some scene.book ≡ true → Supervised scene (history_made scene list) book
    supervised has =
        record {
          attach = h.attach;
          detach = h.detach;
          attached_once = attached-once;
          detached_once = detached-once;
          attached_first = its-parts.2;
          answers_between = rw answered its-parts.1;
          answers_enough = rw answered h.few;
          by_book = by-book;
          due = was-due has h.due;
        }
