-- The printed text of profiles.
use Rattle.std.specs.Prelude.{ℕ, Bool, true, false, List, [], ◌∷◌, ◌++◌, codes}
use Rattle.std.specs.List.{flat_map}
use Rattle.std.specs.Fmt.{decimal}
use Rattle.tm_word.specs.Prelude.{Text}
use Rattle.tm_rules.specs.Types.{Config, Profile, SlotName}
use Rattle.tm_line.specs.Namespaces.{line_text}
use Rattle.tm_profile.specs.Slots.{slot_text, mode_word}

-- `N-` and a word
abbrev pub headed : ℕ → Text → Text
headed n word = decimal n ++ 45 ∷ word

-- the words of the logs
abbrev pub grant_text : Bool → Text
grant_text true = codes "grant_log=yes"
grant_text false = codes "grant_log=no"

abbrev pub reject_text : Bool → Text
reject_text true = codes "reject_log=yes"
reject_text false = codes "reject_log=no"

-- the words of a setting, in the order of its keys
abbrev pub setting_words : Config → List Text
setting_words config =
    mode_word config.mode ∷ grant_text config.logs.grant ∷ reject_text config.logs.reject
    ∷ codes "}" ∷ []

-- the limits, each with its key
unfoldable pub audit_text : ℕ → Text
audit_text limit = codes "max_audit_log=" ++ decimal limit

unfoldable pub learning_text : ℕ → Text
learning_text limit = codes "max_learning_entry=" ++ decimal limit

abbrev pub limit_words : ℕ → ℕ → List Text
limit_words audit learning = audit_text audit ∷ learning_text learning ∷ codes "}" ∷ []

-- the words of each line
abbrev pub comment_words : ℕ → Text → List Text
comment_words n comment = headed n (codes "COMMENT=" ++ comment) ∷ []

abbrev pub preference_words : ℕ → ℕ → ℕ → List Text
preference_words n audit learning = headed n (codes "PREFERENCE={") ∷ limit_words audit learning

abbrev pub config_words : ℕ → Text → Config → List Text
config_words n word config = headed n (word ++ codes "={") ∷ setting_words config

abbrev pub slot_line : Text → ℕ → SlotName × Config → Text
slot_line ns n slot = line_text ns (config_words n (slot_text slot.0) slot.1)

-- a profile's comment, preference and configuration, then the slots that give something, in their
-- order
unfoldable pub profile_text : Text → ℕ × Profile → Text
profile_text ns numbered =
    line_text ns (comment_words numbered.0 numbered.1.comment)
    ++ (line_text ns
    (preference_words numbered.0 numbered.1.max_audit_log numbered.1.max_learning_entry)
    ++ (line_text ns (config_words numbered.0 (codes "CONFIG") numbered.1.config)
    ++ flat_map (slot_line ns numbered.0) numbered.1.slots))

-- the version, then each profile by its number; nothing where there is no profile
unfoldable pub profiles_text : Text → List (ℕ × Profile) → Text
profiles_text ns [] = []
profiles_text ns (profile ∷ profiles) =
    line_text ns (codes "PROFILE_VERSION=20150505" ∷ [])
    ++ flat_map (profile_text ns) (profile ∷ profiles)
