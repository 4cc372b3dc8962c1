-- What a profile line does to its profile.
use Rattle.std.specs.Prelude.{ℕ, Option, Some, None, unwrap_or}
use Rattle.tm_rules.specs.Types.{Profile, ProfileEffect}
use Rattle.tm_rules.specs.Prelude.{set_config, set_slot}

-- the profile that a line speaks of
abbrev pub number_of : ProfileEffect → Option ℕ
number_of ProfileEffect.Version = None
number_of (ProfileEffect.Comment n text) = Some n
number_of (ProfileEffect.Preference n audit learning) = Some n
number_of (ProfileEffect.Config n setting) = Some n
number_of (ProfileEffect.Slot n name setting) = Some n

-- the profile after a line
abbrev pub profile_after : ProfileEffect → Profile → Profile
profile_after ProfileEffect.Version p = p
profile_after (ProfileEffect.Comment n text) p = record p { comment = text }
profile_after (ProfileEffect.Preference n audit learning) p =
    record p {
      max_audit_log = unwrap_or audit p.max_audit_log;
      max_learning_entry = unwrap_or learning p.max_learning_entry;
    }
profile_after (ProfileEffect.Config n setting) p =
    record p { config = set_config setting p.config.logs }
profile_after (ProfileEffect.Slot n name setting) p = set_slot name setting p
