-- Floors that several looks raise.
use Rattle.std.proofs.Common.{◌≡◌, ℕ, max, List, [], ◌∷◌, ◌++◌, refl, sym, ap, ◌∙◌, subst, arith}
use Rattle.std.specs.Prelude.{Some, Result, Ok, Err, OnOk, flat_map}
use Rattle.std.proofs.lemmas.List.Sums.{fold-append}
use Rattle.tm_rules.specs.Types.{Take}
use Rattle.tm_legal.specs.Prelude.{Situation, Situations, after_take, raised, seen, with_situation}
use Rattle.tm_take.specs.declared.situations.ProcessSituation.{ProcessSituation}
use Rattle.tm_take.specs.Situations.{situation_of}

pub raised_more : (floor : ℕ) (xs ys : List ℕ) → raised floor (xs ++ ys) ≡ raised (raised floor xs) ys
raised_more floor xs ys = fold-append max floor xs ys

-- what raises a floor can be found by itself first
raised_apart : (floor : ℕ) (xs : List ℕ) → raised floor xs ≡ max floor (raised 0 xs)
raised_apart floor [] = omega arith
raised_apart floor (x ∷ xs) =
    let here = raised_apart (max floor x) xs in
    let alone = raised_apart (max 0 x) xs in
    omega (arith, here, alone)

-- the situations after a take whose domain after and whose highest version are known
abbrev pub TakenSo : Situations → Situations → ℕ → ℕ → ℕ → Type 0
TakenSo at later pid after highest =
    (taken : Take) → taken.after ≡ after → raised 0 (flat_map seen taken.looks) ≡ highest → later ≡ with_situation at pid (after_take (at pid) taken)

-- a process after a take that has seen this version at most
pub take_seen : {A E : Type 0} (r : Result A E) (at later : Situations) (pid after highest low : ℕ) (now : ProcessSituation) → situation_of now ≡ at pid → low ≡ max now.floor highest → OnOk r (later ≡ with_situation at pid (situation_of (record { process = now.process; domain = Some after; floor = low }))) → OnOk r (TakenSo at later pid after highest)
take_seen (Ok x) at later pid after highest low now there is put = λ taken next high.
    let floor : low ≡ raised now.floor (flat_map seen taken.looks) = is ∙ ap (max now.floor) (sym high) ∙ sym (raised_apart now.floor (flat_map seen taken.looks)) in
    subst (λ (old : Situation). later ≡ with_situation at pid (after_take old taken)) there
    (put ∙ ap (with_situation at pid) (rw (sym next, floor) refl))
take_seen (Err e) at later pid after highest low now there is put = tt

-- the same of a take at hand
pub take_known : {A E : Type 0} (r : Result A E) (at later : Situations) (pid highest : ℕ) (taken : Take) → highest ≡ raised 0 (flat_map seen taken.looks) → OnOk r (TakenSo at later pid taken.after highest) → OnOk r (later ≡ with_situation at pid (after_take (at pid) taken))
take_known (Ok x) at later pid highest taken high so = so taken refl (sym high)
take_known (Err e) at later pid highest taken high so = tt
