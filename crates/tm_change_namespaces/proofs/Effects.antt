-- What a profile line does, by its profile's number.
use Rattle.std.proofs.Common.{◌≡◌, ℕ, ap, refl}
use Rattle.std.specs.Prelude.{Some, None}
use Rattle.tm_rules.specs.Types.{Namespace, ProfileEffect}
use Rattle.tm_rules.specs.Prelude.{on_profile, profile_line}
use Rattle.tm_change_namespaces.specs.Effects.{number_of, profile_after}

abbrev changed : ProfileEffect → Namespace → ℕ → Namespace
changed effect ns n = on_profile n (profile_after effect) ns

-- a line with a number changes that profile
pub numbered_line : (effect : ProfileEffect) (ns : Namespace) (n : ℕ) → number_of effect ≡ Some n → on_profile n (profile_after effect) ns ≡ profile_line effect ns
unfolding profile_line
numbered_line ProfileEffect.Version ns n e = absurd cc
numbered_line (ProfileEffect.Comment m text) ns n e = let same : n ≡ m = cc in ap (changed (ProfileEffect.Comment m text) ns) same
numbered_line (ProfileEffect.Preference m audit learning) ns n e = let same : n ≡ m = cc in ap (changed (ProfileEffect.Preference m audit learning) ns) same
numbered_line (ProfileEffect.Config m setting) ns n e = let same : n ≡ m = cc in ap (changed (ProfileEffect.Config m setting) ns) same
numbered_line (ProfileEffect.Slot m name setting) ns n e = let same : n ≡ m = cc in ap (changed (ProfileEffect.Slot m name setting) ns) same

-- a line without one changes nothing
pub plain_line : (effect : ProfileEffect) (ns : Namespace) → number_of effect ≡ None → ns ≡ profile_line effect ns
unfolding profile_line
plain_line ProfileEffect.Version ns e = refl
plain_line (ProfileEffect.Comment m text) ns e = absurd cc
plain_line (ProfileEffect.Preference m audit learning) ns e = absurd cc
plain_line (ProfileEffect.Config m setting) ns e = absurd cc
plain_line (ProfileEffect.Slot m name setting) ns e = absurd cc
