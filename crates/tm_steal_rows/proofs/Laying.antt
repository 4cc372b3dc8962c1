-- Takes that are laid to their processes, one process after another.
use Rattle.std.proofs.Common.{◌≡◌, ℕ, zero, suc, List, [], ◌∷◌, ◌++◌, map, refl, sym, ap, ◌∙◌, append_assoc, append-nil}
use Rattle.std.specs.Prelude.{Result, Ok, Err, OnOk, Option, Some, None, IfSome, flat_map, option_to_list, slice_get, slice_set}
use Rattle.std.proofs.lemmas.Grind.{flat_map-append}
use Rattle.tm_steal_rows.specs.declared.played.Played.{Played}
use Rattle.tm_steal_rows.specs.declared.played.PlayedProcess.{PlayedProcess}
use Rattle.tm_steal_rows.specs.declared.played.PlayedTake.{PlayedTake}
use Rattle.tm_steal_rows.specs.Playing.{Event, events_in, events_of}
use Rattle.tm_steal_rows.specs.Gathering.{take_of, end_of, takes_of, ends_of, all_given, AreTheSame, AreLaid}
use Rattle.tm_steal_rows.proofs.Stealing.{events-more}
use Rattle.tm_steal_rows.proofs.Same.{same-refl, same-then, same-behind, same-before, same-swap, same-first}

-- Takes of processes

-- none more
pub laid-none : (old : List PlayedTake) → AreLaid old [] old
laid-none old = rw (append-nil old) (same-refl old)

-- some, and then others
pub laid-both : (old mid new xs ys whole : List PlayedTake) → whole ≡ xs ++ ys → AreLaid old xs mid → AreLaid mid ys new → AreLaid old whole new
laid-both old mid new xs ys whole is first second =
    rw (is, ← append_assoc old xs ys) (same-then ((old ++ xs) ++ ys) (mid ++ ys) new (same-before (old ++ xs) mid ys first) second)

module _ {Q : Type 0} (items : Q → List PlayedTake) where
  -- those of a process of which there were none
  pub laid-one : (queues : List Q) (k : ℕ) (old new : Q) (takes : List PlayedTake) → slice_get queues k ≡ Some old → items old ≡ [] → items new ≡ takes → AreLaid (flat_map items queues) takes (flat_map items (slice_set queues k new))
  laid-one [] k old new takes at empty is = absurd cc
  laid-one (queue ∷ queues) zero old new takes at empty is =
      let same : queue ≡ old = cc in
      rw (same, empty, is) (same-swap (flat_map items queues) takes)
  laid-one (queue ∷ queues) (suc k) old new takes at empty is =
      rw (append_assoc (items queue) (flat_map items queues) takes)
      (same-behind (items queue) (flat_map items queues ++ takes) (flat_map items (slice_set queues k new)) (laid-one queues k old new takes at empty is))

  -- the first one of a process is taken out
  pub taken-one : (queues : List Q) (k : ℕ) (old new : Q) (played : PlayedTake) → slice_get queues k ≡ Some old → items old ≡ played ∷ items new → AreTheSame (flat_map items queues) (played ∷ flat_map items (slice_set queues k new))
  taken-one [] k old new played at first = absurd cc
  taken-one (queue ∷ queues) zero old new played at first =
      let same : queue ≡ old = cc in
      rw (same, first) (same-refl (played ∷ items new ++ flat_map items queues))
  taken-one (queue ∷ queues) (suc k) old new played at first =
      same-then (items queue ++ flat_map items queues) (items queue ++ played ∷ flat_map items (slice_set queues k new)) (played ∷ items queue ++ flat_map items (slice_set queues k new))
      (same-behind (items queue) (flat_map items queues) (played ∷ flat_map items (slice_set queues k new)) (taken-one queues k old new played at first))
      (same-first (items queue) (flat_map items (slice_set queues k new)) played)

  pub pops-one : (queues : List Q) (k : ℕ) (old new : Q) (first : Option PlayedTake) → slice_get queues k ≡ Some old → items old ≡ option_to_list first ++ items new → IfSome first (λ played. AreTheSame (flat_map items queues) (played ∷ flat_map items (slice_set queues k new)))
  pops-one queues k old new None at is = tt
  pops-one queues k old new (Some played) at is = taken-one queues k old new played at is

-- What was played

takes-in : (takes : List PlayedTake) → takes_of (map Event.Take takes) ≡ takes
takes-in [] = refl
takes-in (played ∷ takes) = ap (λ (l : List PlayedTake). played ∷ l) (takes-in takes)

ends-in : (takes : List PlayedTake) → ends_of (map Event.Take takes) ≡ []
ends-in [] = refl
ends-in (played ∷ takes) = ends-in takes

pub lays-process : {A E : Type 0} (r : Result A E) (old new : List PlayedTake) (played : Played) (process : PlayedProcess) → played ≡ Played.Process process → OnOk r (AreLaid old process.takes.items new) → OnOk r (AreLaid old (takes_of (events_in played)) new)
lays-process (Ok x) old new played process is laid = rw (is, takes-in process.takes.items) laid
lays-process (Err e) old new played process is laid = tt

pub no-ends : {A E : Type 0} (r : Result A E) (played : Played) (process : PlayedProcess) (ends : List (ℕ × ℕ)) → played ≡ Played.Process process → OnOk r (ends ≡ ends ++ ends_of (events_in played))
no-ends (Ok x) played process ends is = rw (is, ends-in process.takes.items) (sym (append-nil ends))
no-ends (Err e) played process ends is = tt

pub no-takes : (played : Played) (tree number : ℕ) (old : List PlayedTake) → played ≡ Played.End tree number → AreLaid old (takes_of (events_in played)) old
no-takes played tree number old is = rw is (laid-none old)

takes-both : (xs ys : List Event) → takes_of (xs ++ ys) ≡ takes_of xs ++ takes_of ys
takes-both xs ys = flat_map-append take_of xs ys

ends-both : (xs ys : List Event) → ends_of (xs ++ ys) ≡ ends_of xs ++ ends_of ys
ends-both xs ys = flat_map-append end_of xs ys

-- one more
given-more : (given : List (List Played)) (all : List Played) → all_given (given ++ all ∷ []) ≡ all_given given ++ events_of all
given-more given all = flat_map-append events_of given (all ∷ []) ∙ ap (λ (l : List Event). all_given given ++ l) (append-nil (events_of all))

pub takes-more : (all : List Played) (played : Played) → takes_of (events_of (all ++ played ∷ [])) ≡ takes_of (events_of all) ++ takes_of (events_in played)
takes-more all played = ap takes_of (events-more all played) ∙ takes-both (events_of all) (events_in played)

pub ends-more : (all : List Played) (played : Played) → ends_of (events_of (all ++ played ∷ [])) ≡ ends_of (events_of all) ++ ends_of (events_in played)
ends-more all played = ap ends_of (events-more all played) ∙ ends-both (events_of all) (events_in played)

pub takes-given : (given : List (List Played)) (all : List Played) → takes_of (all_given (given ++ all ∷ [])) ≡ takes_of (all_given given) ++ takes_of (events_of all)
takes-given given all = ap takes_of (given-more given all) ∙ takes-both (all_given given) (events_of all)

pub ends-given : (given : List (List Played)) (all : List Played) → ends_of (all_given (given ++ all ∷ [])) ≡ ends_of (all_given given) ++ ends_of (events_of all)
ends-given given all = ap ends_of (given-more given all) ∙ ends-both (all_given given) (events_of all)

pub ends-behind : (first old new before more whole : List (ℕ × ℕ)) → whole ≡ before ++ more → old ≡ first ++ before → new ≡ old ++ more → new ≡ first ++ whole
ends-behind first old new before more whole is h k = k ∙ ap (λ (l : List (ℕ × ℕ)). l ++ more) h ∙ append_assoc first before more ∙ ap (λ (l : List (ℕ × ℕ)). first ++ l) (sym is)
