-- Lines that fit keep profiles that a text can write.
use Rattle.std.proofs.Common.{◌≡◌, ℕ, ◌<◌, ◌^◌, ◌==◌, nat_lt, Bool, true, false, List, [], ◌∷◌, Some, None, Ok, refl, subst, arith}
use Rattle.std.specs.Prelude.{Option, if◌then◌else◌, unwrap_or}
use Rattle.std.specs.List.{list_all}
use Rattle.std.proofs.lemmas.Bool.{eqb-true}
use Rattle.tm_word.specs.Prelude.{Text, is_word}
use Rattle.tm_list.specs.Map.{put}
use Rattle.tm_list.proofs.MapLaws.{Rises-put, Rises-without}
use Rattle.tm_rules.specs.Types.{Namespace, Profile, ProfileEffect, ProfileLine, Setting, SlotName, slot_rank}
use Rattle.tm_rules.specs.Prelude.{at_key, new_profile, on_profile, profile_line, set_config, set_slot}
use Rattle.tm_profile.specs.Reading.{line_of}
use Rattle.tm_profile.specs.Texts.{IsLimit, IsEffect, IsProfile, AreProfiles, IsWritten}
use Rattle.tm_profile.proofs.FitLaws.{line_fits}

put_all : (n : ℕ) (p : Profile) (xs : List (ℕ × Profile)) → IsProfile (n, p) → AreProfiles xs → AreProfiles (put (λ k. k) n p xs)
put_all n p [] h k = (h, tt)
put_all n p (x ∷ xs) h k = by_tests (nat_lt x.0 n) (x.0 == n) (k.0, put_all n p xs h k.1)
  where
    by_tests : (a b : Bool) → AreProfiles (x ∷ put (λ k. k) n p xs) → AreProfiles (if a then x ∷ put (λ k. k) n p xs else (if b then (n, p) ∷ xs else (n, p) ∷ x ∷ xs))
    by_tests true b more = more
    by_tests false true more = (h, k.1)
    by_tests false false more = (h, k)

new_is : (n : ℕ) → n < 256 → IsProfile (n, new_profile)
new_is n h = (h, omega arith, omega arith, ([], refl, refl), tt)

-- the profile of a number, or a new one
there_is : (n : ℕ) (xs : List (ℕ × Profile)) → n < 256 → AreProfiles xs → IsProfile (n, unwrap_or (at_key xs n) new_profile)
there_is n [] h k = new_is n h
there_is n (x ∷ xs) h k = by_test (x.0 == n) refl (there_is n xs h k.1)
  where
    by_test : (b : Bool) → (x.0 == n) ≡ b → IsProfile (n, unwrap_or (at_key xs n) new_profile) → IsProfile (n, unwrap_or (if b then Some x.1 else at_key xs n) new_profile)
    by_test true e more = subst (λ m. IsProfile (m, x.1)) (eqb-true x.0 n e) k.0
    by_test false e more = more

changed : (n : ℕ) (change : Profile → Profile) (ns : Namespace) → n < 256 → ((p : Profile) → IsProfile (n, p) → IsProfile (n, change p)) → IsWritten ns.profiles → IsWritten (on_profile n change ns).profiles
changed n change ns h keeps k =
    let p = change (unwrap_or (at_key ns.profiles n) new_profile) in
    (Rises-put (λ (m : ℕ). m) n p ns.profiles k.0, put_all n p ns.profiles (keeps (unwrap_or (at_key ns.profiles n) new_profile) (there_is n ns.profiles h k.1)) k.1)

limit_kept : (o : Option ℕ) (n : ℕ) → IsLimit o → n < 2 ^ 32 → unwrap_or o n < 2 ^ 32
limit_kept None n h k = k
limit_kept (Some m) n h k = h

slot_kept : (n : ℕ) (slot : SlotName) (setting : Option Setting) (p : Profile) → IsProfile (n, p) → IsProfile (n, set_slot slot setting p)
slot_kept n slot None p h = (h.0, h.1, h.2, h.3, Rises-without slot_rank (slot_rank slot) p.slots h.4)
slot_kept n slot (Some setting) p h = (h.0, h.1, h.2, h.3, Rises-put slot_rank slot _ p.slots h.4)

pub effect_kept : (e : ProfileEffect) (ns : Namespace) → IsEffect e → IsWritten ns.profiles → IsWritten (profile_line e ns).profiles
unfolding profile_line
effect_kept ProfileEffect.Version ns h k = k
effect_kept (ProfileEffect.Comment n comment) ns h k = changed n (λ (p : Profile). record p { comment = comment }) ns h.0 (λ p fits. (fits.0, fits.1, fits.2, h.1, fits.4)) k
effect_kept (ProfileEffect.Preference n audit learning) ns h k =
    changed n (λ (p : Profile). record p { max_audit_log = unwrap_or audit p.max_audit_log; max_learning_entry = unwrap_or learning p.max_learning_entry }) ns h.0
    (λ p fits. (fits.0, limit_kept audit p.max_audit_log h.1 fits.1, limit_kept learning p.max_learning_entry h.2 fits.2, fits.3, fits.4))
    k
effect_kept (ProfileEffect.Config n setting) ns h k = changed n (λ (p : Profile). record p { config = set_config setting p.config.logs }) ns h (λ p fits. (fits.0, fits.1, fits.2, fits.3, fits.4)) k
effect_kept (ProfileEffect.Slot n slot setting) ns h k = changed n (set_slot slot setting) ns h (λ p fits. slot_kept n slot setting p fits) k

-- what was read can be written
pub line_kept : (words : List Text) (l : ProfileLine) (ns : Namespace) → list_all is_word words ≡ true → line_of words ≡ Ok l → IsWritten ns.profiles → IsWritten (profile_line l.effect ns).profiles
line_kept words l ns all e k = effect_kept l.effect ns (line_fits words l all e) k
