-- The lines of a profile make it.
use Rattle.std.proofs.Common.{◌≡◌, ℕ, ◌++◌, List, [], ◌∷◌, refl, sym, ap, subst, ◌∙◌}
use Rattle.std.specs.Prelude.{Some, map}
use Rattle.std.specs.List.{flat_map}
use Rattle.std.proofs.lemmas.List.{append_assoc, append-nil}
use Rattle.tm_list.specs.Map.{Rises}
use Rattle.tm_rules.specs.Types.{Config, Namespace, Profile, ProfileEffect, Setting, SlotName, slot_rank}
use Rattle.tm_rules.specs.Prelude.{new_profile, on_profile, profile_line, set_slot}
use Rattle.tm_profile.proofs.MapEnds.{Below, below_at, put_last, at_none, at_last, put_again}

-- the namespace after these
abbrev pub applied : List ProfileEffect → Namespace → Namespace
applied [] ns = ns
applied (e ∷ es) ns = applied es (profile_line e ns)

pub applied_append : (xs ys : List ProfileEffect) (ns : Namespace) → applied (xs ++ ys) ns ≡ applied ys (applied xs ns)
applied_append [] ys ns = refl
applied_append (x ∷ xs) ys ns = applied_append xs ys (profile_line x ns)

-- a configuration as a line writes it
abbrev pub setting_of : Config → Setting
setting_of config = record { mode = config.mode; grant = Some config.logs.grant; reject = Some config.logs.reject }

abbrev pub slot_effect : ℕ → SlotName × Config → ProfileEffect
slot_effect n slot = ProfileEffect.Slot n slot.0 (Some (setting_of slot.1))

-- what the printed lines of a profile say
abbrev pub effects_of : ℕ × Profile → List ProfileEffect
effects_of numbered =
    ProfileEffect.Comment numbered.0 numbered.1.comment
    ∷ ProfileEffect.Preference numbered.0 (Some numbered.1.max_audit_log) (Some numbered.1.max_learning_entry)
    ∷ ProfileEffect.Config numbered.0 (setting_of numbered.1.config)
    ∷ map (slot_effect numbered.0) numbered.1.slots

abbrev pub with_profiles : Namespace → List (ℕ × Profile) → Namespace
with_profiles base profiles = record base { profiles = profiles }

abbrev with_slots : Profile → List (SlotName × Config) → Profile
with_slots p slots = record p { slots = slots }

on_new : (base : Namespace) (xs : List (ℕ × Profile)) (n : ℕ) (change : Profile → Profile) → Below (λ k. k) n xs
    → on_profile n change (with_profiles base xs) ≡ with_profiles base (xs ++ (n, change new_profile) ∷ [])
on_new base xs n change h = rw (at_none n xs h, put_last (λ (k : ℕ). k) n (change new_profile) xs h) refl

on_last : (base : Namespace) (xs : List (ℕ × Profile)) (n : ℕ) (p : Profile) (change : Profile → Profile) → Below (λ k. k) n xs
    → on_profile n change (with_profiles base (xs ++ (n, p) ∷ [])) ≡ with_profiles base (xs ++ (n, change p) ∷ [])
on_last base xs n p change h = rw (at_last n p xs h, put_again n p (change p) xs h) refl

slot_last : (p : Profile) (done : List (SlotName × Config)) (slot : SlotName × Config) → Below slot_rank (slot_rank slot.0) done
    → set_slot slot.0 (Some (setting_of slot.1)) (with_slots p done) ≡ with_slots p (done ++ slot ∷ [])
slot_last p done slot h = ap (with_slots p) (put_last slot_rank slot.0 slot.1 done h)

slots_made : (base : Namespace) (xs : List (ℕ × Profile)) (n : ℕ) (p : Profile) (done rest : List (SlotName × Config)) → Below (λ k. k) n xs → Rises slot_rank (done ++ rest)
    → applied (map (slot_effect n) rest) (with_profiles base (xs ++ (n, with_slots p done) ∷ [])) ≡ with_profiles base (xs ++ (n, with_slots p (done ++ rest)) ∷ [])
unfolding profile_line
slots_made base xs n p done [] h k = ap (λ (s : List (SlotName × Config)). with_profiles base (xs ++ (n, with_slots p s) ∷ [])) (sym (append-nil done))
slots_made base xs n p done (slot ∷ rest) h k =
    let whole : (done ++ slot ∷ []) ++ rest ≡ done ++ slot ∷ rest = append_assoc done (slot ∷ []) rest in
    let more : Rises slot_rank ((done ++ slot ∷ []) ++ rest) = subst (Rises slot_rank) (sym whole) k in
    let step = on_last base xs n (with_slots p done) (set_slot slot.0 (Some (setting_of slot.1))) h in
    let made = slot_last p done slot (below_at slot_rank done slot rest k) in
    ap (applied (map (slot_effect n) rest)) (step ∙ ap (λ (q : Profile). with_profiles base (xs ++ (n, q) ∷ [])) made)
    ∙ slots_made base xs n p (done ++ slot ∷ []) rest h more
    ∙ ap (λ (s : List (SlotName × Config)). with_profiles base (xs ++ (n, with_slots p s) ∷ [])) whole

-- the lines of a profile above all others put it last
profile_made : (base : Namespace) (xs : List (ℕ × Profile)) (e : ℕ × Profile) → Below (λ k. k) e.0 xs → Rises slot_rank e.1.slots
    → applied (effects_of e) (with_profiles base xs) ≡ with_profiles base (xs ++ e ∷ [])
unfolding profile_line
profile_made base xs e h k =
    let n = e.0 in
    let p = e.1 in
    let one : Profile = record new_profile { comment = p.comment } in
    let two : Profile = record one { max_audit_log = p.max_audit_log; max_learning_entry = p.max_learning_entry } in
    let three : Profile = record two { config = p.config } in
    let a = on_new base xs n (λ (q : Profile). record q { comment = p.comment }) h in
    let b = on_last base xs n one (λ (q : Profile). record q { max_audit_log = p.max_audit_log; max_learning_entry = p.max_learning_entry }) h in
    let c = on_last base xs n two (λ (q : Profile). record q { config = p.config }) h in
    let rest = map (slot_effect n) p.slots in
    ap (applied (effects_tail n p)) a ∙ ap (applied (config_tail n p)) b ∙ ap (applied rest) c ∙ slots_made base xs n three [] p.slots h k
  where
    effects_tail : ℕ → Profile → List ProfileEffect
    effects_tail n p = ProfileEffect.Preference n (Some p.max_audit_log) (Some p.max_learning_entry) ∷ ProfileEffect.Config n (setting_of p.config) ∷ map (slot_effect n) p.slots

    config_tail : ℕ → Profile → List ProfileEffect
    config_tail n p = ProfileEffect.Config n (setting_of p.config) ∷ map (slot_effect n) p.slots

-- the slots of each rise
abbrev pub SlotsRise : List (ℕ × Profile) → Type 0
SlotsRise [] = Unit {0}
SlotsRise (e ∷ es) = Rises slot_rank e.1.slots × SlotsRise es

pub profiles_made : (base : Namespace) (xs ys : List (ℕ × Profile)) → Rises (λ k. k) (xs ++ ys) → SlotsRise ys
    → applied (flat_map effects_of ys) (with_profiles base xs) ≡ with_profiles base (xs ++ ys)
profiles_made base xs [] h k = ap (with_profiles base) (sym (append-nil xs))
profiles_made base xs (e ∷ ys) h k =
    let whole : (xs ++ e ∷ []) ++ ys ≡ xs ++ e ∷ ys = append_assoc xs (e ∷ []) ys in
    let more : Rises (λ (k : ℕ). k) ((xs ++ e ∷ []) ++ ys) = subst (Rises (λ (k : ℕ). k)) (sym whole) h in
    applied_append (effects_of e) (flat_map effects_of ys) (with_profiles base xs)
    ∙ ap (applied (flat_map effects_of ys)) (profile_made base xs e (below_at (λ (k : ℕ). k) xs e ys h) k.0)
    ∙ profiles_made base (xs ++ e ∷ []) ys more k.1
    ∙ ap (with_profiles base) whole
