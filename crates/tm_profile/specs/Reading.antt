-- Profile lines: what each word gives, and the kind of the first one at which the line can't go on.
use Rattle.std.specs.Prelude.{ℕ, ◌+◌, ◌^◌, ◌==◌, ◌&&◌, ◌||◌, if◌then◌else◌, Bool, true, false, List, [], ◌∷◌, ◌++◌, take, drop, Option, Some, None, is_none, is_some, option_map, Result, Ok, Err, codes}
use Rattle.std.specs.List.{find, position, list_any}
use Rattle.std.specs.Option.{option_or}
use Rattle.tm_word.specs.Prelude.{Text, after, begins, begins_row, joined, named, texts_equal, ◌>>=◌}
use Rattle.tm_number.specs.Numbers.{plain_of}
use Rattle.tm_rules.specs.Types.{LineKind, Mode, ProfileEffect, ProfileLine, Setting, SlotName, all_slots, modes}
use Rattle.tm_line.specs.Namespaces.{namespace_at}
use Rattle.tm_profile.specs.declared.reading.Key.{Key}
use Rattle.tm_profile.specs.declared.reading.Seen.{Seen}
use Rattle.tm_profile.specs.declared.reading.Limits.{Limits}
use Rattle.tm_line.specs.Lines.{or_kind, is_last}
use Rattle.tm_profile.specs.Slots.{slot_text, mode_word}

-- an unfinished word at the end is a missing one, any other wrong word is the profile's
abbrev pub wrong : Bool → LineKind
wrong unfinished = if unfinished then LineKind.Arity else LineKind.Profile

-- no word may be left
abbrev pub at_end : {A : Type 0} → A → List Text → Result A LineKind
at_end x [] = Ok x
at_end x (word ∷ words) = Err LineKind.Profile

-- COMMENT

-- the words after `COMMENT=`, joined by one space and with none in front
abbrev pub comment_of : Text → List Text → Text
comment_of [] words = joined words
comment_of (b ∷ first) words = joined ((b ∷ first) ∷ words)

-- CONFIG

-- the mode whose word this is
abbrev pub word_mode : Text → Option Mode
word_mode word = find (λ mode. texts_equal word (mode_word mode)) modes

-- what is said of the log of grants, and of that of rejections
abbrev pub grant_logs : List (Text × Key)
grant_logs = (codes "grant_log=yes", Key.Grant true) ∷ (codes "grant_log=no", Key.Grant false) ∷ []

abbrev pub reject_logs : List (Text × Key)
reject_logs =
    (codes "reject_log=yes", Key.Reject true) ∷ (codes "reject_log=no", Key.Reject false) ∷ []

-- what a word says of a log
abbrev pub log_key : Text → Option Key
log_key word = named (grant_logs ++ reject_logs) word

-- what the words of a setting say
unfoldable pub key_of : Text → Option Key
key_of word = option_or (option_map Key.Mode (word_mode word)) (log_key word)

-- nothing was written yet
abbrev pub unseen : Seen
unseen = record { mode = None; grant = None; reject = None }

-- each key may be written once
abbrev pub with_key : Seen → Key → Option Seen
with_key seen (Key.Mode mode) =
    if is_none seen.mode then Some (record seen { mode = Some mode }) else None
with_key seen (Key.Grant log) =
    if is_none seen.grant then Some (record seen { grant = Some log }) else None
with_key seen (Key.Reject log) =
    if is_none seen.reject then Some (record seen { reject = Some log }) else None

-- a word of a mode begins so
abbrev pub begins_mode : Text → Bool
begins_mode word = list_any (λ mode. begins word (mode_word mode)) modes

-- a word of the grant log begins so
abbrev pub begins_grant : Text → Bool
begins_grant word = begins_row grant_logs word

-- a word of the reject log begins so
abbrev pub begins_reject : Text → Bool
begins_reject word = begins_row reject_logs word

-- a word that may stand here begins so
abbrev pub begins_key : Seen → Text → Bool
begins_key seen word =
    (is_none seen.mode && begins_mode word) || (is_none seen.grant && begins_grant word)
    || (is_none seen.reject && begins_reject word)

abbrev pub seen_by : Option Key → Seen → Bool → Result Seen LineKind
seen_by (Some key) seen unfinished = or_kind LineKind.Profile (with_key seen key)
seen_by None seen unfinished = Err (wrong unfinished)

-- the words so far and one more
unfoldable pub seen_after : Seen → Text → Bool → Result Seen LineKind
seen_after seen word last = seen_by (key_of word) seen (last && begins_key seen word)

abbrev pub setting_by : Option Mode → Seen → Result Setting LineKind
setting_by (Some mode) seen = Ok (record { mode = mode; grant = seen.grant; reject = seen.reject })
setting_by None seen = Err LineKind.Profile

-- the mode is there, and nothing follows
unfoldable pub closed : Seen → List Text → Result Setting LineKind
closed seen words = setting_by seen.mode seen >>= λ setting. at_end setting words

-- the words up to `}`
unfoldable pub setting_after : Seen → List Text → Result Setting LineKind
setting_after seen [] = Err LineKind.Arity
setting_after seen (word ∷ words) =
    if texts_equal word (codes "}") then closed seen words
    else (seen_after seen word (is_last words) >>= λ more. setting_after more words)

-- PREFERENCE

-- nothing was written yet
abbrev pub unlimited : Limits
unlimited = record { audit = None; learning = None }

-- a plain number below 2^32
abbrev pub limit_of : Text → Bool → Result ℕ LineKind
limit_of [] last = Err (wrong last)
limit_of (b ∷ text) last = or_kind LineKind.Profile (plain_of (2 ^ 32) (b ∷ text))

-- each limit may be written once
abbrev pub once : {A : Type 0} → Option ℕ → Result A LineKind → Result A LineKind
once None read = read
once (Some n) read = Err LineKind.Profile

-- a word that may stand here begins so
abbrev pub begins_limit : Limits → Text → Bool
begins_limit limits word =
    (is_none limits.audit && begins word (codes "max_audit_log="))
    || (is_none limits.learning && begins word (codes "max_learning_entry="))

abbrev pub learning_by : Option Text → Limits → Text → Bool → Result Limits LineKind
learning_by (Some text) limits word last =
    once limits.learning (limit_of text last >>= λ n. Ok (record limits { learning = Some n }))
learning_by None limits word last = Err (wrong (last && begins_limit limits word))

abbrev pub limits_by : Option Text → Limits → Text → Bool → Result Limits LineKind
limits_by (Some text) limits word last =
    once limits.audit (limit_of text last >>= λ n. Ok (record limits { audit = Some n }))
limits_by None limits word last =
    learning_by (after (codes "max_learning_entry=") word) limits word last

-- the limits so far and one more
unfoldable pub limits_with : Limits → Text → Bool → Result Limits LineKind
limits_with limits word last = limits_by (after (codes "max_audit_log=") word) limits word last

-- the words up to `}`
unfoldable pub limits_after : Limits → List Text → Result Limits LineKind
limits_after limits [] = Err LineKind.Arity
limits_after limits (word ∷ words) =
    if texts_equal word (codes "}") then at_end limits words
    else (limits_with limits word (is_last words) >>= λ more. limits_after more words)

-- what a line says of the limits of profile n
abbrev pub preference : ℕ → List Text → Result ProfileEffect LineKind
preference n words =
    limits_after unlimited words
    >>= λ limits. Ok (ProfileEffect.Preference n limits.audit limits.learning)

-- The line

-- what a word sets of this slot: whether a setting follows; false is `use_default`
abbrev pub slot_word : SlotName → Text → Option (SlotName × Bool)
slot_word slot word =
    if texts_equal word (slot_text slot ++ codes "={")
    then Some (slot, true)
    else if texts_equal word (slot_text slot ++ codes "=use_default")
    then Some (slot, false)
    else None

-- what a word sets of the first of these slots that it speaks of
abbrev pub slot_in : List SlotName → Text → Option (SlotName × Bool)
slot_in [] word = None
slot_in (slot ∷ slots) word = option_or (slot_word slot word) (slot_in slots word)

-- the slot that a word sets
unfoldable pub slot_of : Text → Option (SlotName × Bool)
slot_of word = slot_in all_slots word

-- a word of the slot begins so
abbrev pub begins_slot : Text → SlotName → Bool
begins_slot word slot =
    begins word (slot_text slot ++ codes "={")
    || begins word (slot_text slot ++ codes "=use_default")

-- a word of some slot begins so
unfoldable pub begins_some_slot : Text → Bool
begins_some_slot word = list_any (begins_slot word) all_slots

-- a word that may stand after `N-` begins so
unfoldable pub begins_effect : Text → Bool
begins_effect word =
    begins word (codes "COMMENT=") || begins word (codes "PREFERENCE={")
    || begins word (codes "CONFIG={") || begins_some_slot word

abbrev pub slot_by : ℕ → Option (SlotName × Bool) → Text → List Text → Result ProfileEffect LineKind
slot_by n (Some (slot, true)) word words =
    setting_after unseen words >>= λ setting. Ok (ProfileEffect.Slot n slot (Some setting))
slot_by n (Some (slot, false)) word words = at_end (ProfileEffect.Slot n slot None) words
slot_by n None word words = Err (wrong (is_last words && begins_effect word))

abbrev pub comment_by : ℕ → Option Text → Text → List Text → Result ProfileEffect LineKind
comment_by n (Some first) word words = Ok (ProfileEffect.Comment n (comment_of first words))
comment_by n None word words =
    if texts_equal word (codes "PREFERENCE={")
    then preference n words
    else if texts_equal word (codes "CONFIG={")
    then (setting_after unseen words >>= λ setting. Ok (ProfileEffect.Config n setting))
    else slot_by n (slot_of word) word words

-- what a line says of profile n: the word after `N-`, and the words that follow
unfoldable pub numbered : ℕ → Text → List Text → Result ProfileEffect LineKind
numbered n word words = comment_by n (after (codes "COMMENT=") word) word words

-- a line's first word may go on after this one, which has no `-`
abbrev pub begins_line : Text → Bool
begins_line word = begins word (codes "PROFILE_VERSION=") || is_some (plain_of 256 word)

abbrev pub numbered_by : Option ℕ → Text → List Text → Result ProfileEffect LineKind
numbered_by (Some place) word words =
    or_kind LineKind.Profile (plain_of 256 (take place word))
    >>= λ n. numbered n (drop (place + 1) word) words
numbered_by None word words = Err (wrong (is_last words && begins_line word))

-- the two versions that are read alike; without a number the word is unfinished
abbrev pub version_by : Text → List Text → Result ProfileEffect LineKind
version_by [] words = Err (if is_last words then LineKind.Arity else LineKind.Version)
version_by (b ∷ text) words =
    if texts_equal (b ∷ text) (codes "20150505") || texts_equal (b ∷ text) (codes "20110903")
    then at_end ProfileEffect.Version words else Err LineKind.Version

abbrev pub effect_by : Option Text → Text → List Text → Result ProfileEffect LineKind
effect_by (Some text) word words = version_by text words
effect_by None word words = numbered_by (position (λ b. b == 45) word) word words

-- what a line says, without its namespace word
unfoldable pub effect_at : List Text → Result ProfileEffect LineKind
effect_at [] = Err LineKind.Arity
effect_at (word ∷ words) = effect_by (after (codes "PROFILE_VERSION=") word) word words

abbrev pub line : Text → ProfileEffect → ProfileLine
line name effect = record { namespace = name; effect = effect }

-- a profile line
unfoldable pub line_of : List Text → Result ProfileLine LineKind
line_of words = do
  found ← namespace_at words
  effect ← effect_at found.1
  Ok (line found.0 effect)
