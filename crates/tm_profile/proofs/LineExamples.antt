-- Worked examples: what each form of a profile line gives, and the kind of each wrong one.
use Rattle.std.proofs.Common.{◌≡◌, false, [], Some, None, Ok, Err, refl}
use Rattle.std.specs.Prelude.{codes}
use Rattle.tm_word.specs.Prelude.{words_of}
use Rattle.tm_number.specs.Numbers.{number_of, value_of, plain_of}
use Rattle.tm_line.specs.Tokens.{token_at}
use Rattle.tm_line.specs.Reading.{step, ended, parsed, pattern_of}
use Rattle.tm_line.specs.Names.{is_path, domain_of}
use Rattle.tm_rules.specs.Types.{Function, LineKind, Mode, ProfileEffect, SlotName}
use Rattle.tm_rules.specs.Prelude.{kernel}
use Rattle.tm_line.specs.Namespaces.{namespace_of, namespace_at}
use Rattle.tm_profile.specs.Slots.{function_text, slot_text}
use Rattle.tm_profile.specs.Reading.{line, key_of, seen_after, closed, setting_after, limits_with, limits_after, slot_of, begins_some_slot, begins_effect, numbered, effect_at, line_of}

-- the definitions that a line's reading goes through
unfoldable computed : Unit {0}
unfolding words_of number_of value_of plain_of token_at step ended parsed pattern_of is_path domain_of function_text slot_text namespace_of namespace_at key_of seen_after closed setting_after limits_with limits_after slot_of begins_some_slot begins_effect numbered effect_at line_of
computed = tt

pub a_comment : line_of (words_of (codes "<kernel> 0-COMMENT=ab")) ≡ Ok (line kernel (ProfileEffect.Comment 0 (codes "ab")))
unfolding computed
a_comment = refl

pub comment_words : line_of (words_of (codes "0-COMMENT= a  b")) ≡ Ok (line kernel (ProfileEffect.Comment 0 (codes "a b")))
unfolding computed
comment_words = refl

pub comment_joined : line_of (words_of (codes "0-COMMENT=a b")) ≡ Ok (line kernel (ProfileEffect.Comment 0 (codes "a b")))
unfolding computed
comment_joined = refl

pub empty_comment : line_of (words_of (codes "255-COMMENT=")) ≡ Ok (line kernel (ProfileEffect.Comment 255 []))
unfolding computed
empty_comment = refl

pub version : line_of (words_of (codes "PROFILE_VERSION=20150505")) ≡ Ok (line kernel (ProfileEffect.Version))
unfolding computed
version = refl

pub older_version : line_of (words_of (codes "</s> PROFILE_VERSION=20110903")) ≡ Ok (line (codes "</s>") (ProfileEffect.Version))
unfolding computed
older_version = refl

pub no_limits : line_of (words_of (codes "1-PREFERENCE={ }")) ≡ Ok (line kernel (ProfileEffect.Preference 1 None None))
unfolding computed
no_limits = refl

pub limits : line_of (words_of (codes "1-PREFERENCE={ max_learning_entry=5 max_audit_log=4294967295 }")) ≡ Ok (line kernel (ProfileEffect.Preference 1 (Some 4294967295) (Some 5)))
unfolding computed
limits = refl

pub config : line_of (words_of (codes "1-CONFIG={ reject_log=no mode=enforcing }")) ≡ Ok (line kernel (ProfileEffect.Config 1 (record { mode = Mode.Enforcing; grant = None; reject = Some false })))
unfolding computed
config = refl

pub category : line_of (words_of (codes "1-CONFIG::file={ mode=learning }")) ≡ Ok (line kernel (ProfileEffect.Slot 1 SlotName.File (Some (record { mode = Mode.Learning; grant = None; reject = None }))))
unfolding computed
category = refl

pub function : line_of (words_of (codes "1-CONFIG::network::unix_seqpacket_connect={ mode=permissive grant_log=no }")) ≡ Ok (line kernel (ProfileEffect.Slot 1 (SlotName.One Function.UnixSeqpacketConnect) (Some (record { mode = Mode.Permissive; grant = Some false; reject = None }))))
unfolding computed
function = refl

pub category_default : line_of (words_of (codes "0-CONFIG::network=use_default")) ≡ Ok (line kernel (ProfileEffect.Slot 0 SlotName.Network None))
unfolding computed
category_default = refl

pub function_default : line_of (words_of (codes "0-CONFIG::misc::env=use_default")) ≡ Ok (line kernel (ProfileEffect.Slot 0 (SlotName.One Function.Env) None))
unfolding computed
function_default = refl

pub no_word : line_of (words_of (codes "")) ≡ Err LineKind.Arity
unfolding computed
no_word = refl

pub namespace_alone : line_of (words_of (codes "<kernel>")) ≡ Err LineKind.Arity
unfolding computed
namespace_alone = refl

pub namespace_unfinished : line_of (words_of (codes "<kern")) ≡ Err LineKind.Domain
unfolding computed
namespace_unfinished = refl

pub namespace_wrong : line_of (words_of (codes "<kern 0-COMMENT=")) ≡ Err LineKind.Domain
unfolding computed
namespace_wrong = refl

pub namespace_no_path : line_of (words_of (codes "<a> 0-COMMENT=")) ≡ Err LineKind.Domain
unfolding computed
namespace_no_path = refl

pub no_version : line_of (words_of (codes "PROFILE_VERSION=")) ≡ Err LineKind.Arity
unfolding computed
no_version = refl

pub short_version : line_of (words_of (codes "PROFILE_VERSION=2015")) ≡ Err LineKind.Version
unfolding computed
short_version = refl

pub other_version : line_of (words_of (codes "PROFILE_VERSION=20100101")) ≡ Err LineKind.Version
unfolding computed
other_version = refl

pub no_version_and_more : line_of (words_of (codes "PROFILE_VERSION= x")) ≡ Err LineKind.Version
unfolding computed
no_version_and_more = refl

pub word_after_version : line_of (words_of (codes "PROFILE_VERSION=20150505 x")) ≡ Err LineKind.Profile
unfolding computed
word_after_version = refl

pub version_unfinished : line_of (words_of (codes "PROFILE_VER")) ≡ Err LineKind.Arity
unfolding computed
version_unfinished = refl

pub version_unfinished_and_more : line_of (words_of (codes "PROFILE_VER x")) ≡ Err LineKind.Profile
unfolding computed
version_unfinished_and_more = refl

pub number_too_big : line_of (words_of (codes "256-COMMENT=")) ≡ Err LineKind.Profile
unfolding computed
number_too_big = refl

pub number_with_zero : line_of (words_of (codes "01-COMMENT=")) ≡ Err LineKind.Profile
unfolding computed
number_with_zero = refl

pub number_in_hex : line_of (words_of (codes "0x1-COMMENT=")) ≡ Err LineKind.Profile
unfolding computed
number_in_hex = refl

pub number_alone : line_of (words_of (codes "25")) ≡ Err LineKind.Arity
unfolding computed
number_alone = refl

pub number_alone_too_big : line_of (words_of (codes "256")) ≡ Err LineKind.Profile
unfolding computed
number_alone_too_big = refl

pub number_and_more : line_of (words_of (codes "25 x")) ≡ Err LineKind.Profile
unfolding computed
number_and_more = refl

pub no_number : line_of (words_of (codes "-COMMENT=")) ≡ Err LineKind.Profile
unfolding computed
no_number = refl

pub dash_unfinished : line_of (words_of (codes "0-")) ≡ Err LineKind.Arity
unfolding computed
dash_unfinished = refl

pub dash_and_more : line_of (words_of (codes "0- x")) ≡ Err LineKind.Profile
unfolding computed
dash_and_more = refl

pub other_word : line_of (words_of (codes "0-FOO")) ≡ Err LineKind.Profile
unfolding computed
other_word = refl

pub other_line : line_of (words_of (codes "foo")) ≡ Err LineKind.Profile
unfolding computed
other_line = refl

pub config_unfinished : line_of (words_of (codes "0-CONFIG")) ≡ Err LineKind.Arity
unfolding computed
config_unfinished = refl

pub config_equals : line_of (words_of (codes "0-CONFIG=")) ≡ Err LineKind.Arity
unfolding computed
config_equals = refl

pub config_default : line_of (words_of (codes "0-CONFIG=use_default")) ≡ Err LineKind.Profile
unfolding computed
config_default = refl

pub config_open : line_of (words_of (codes "0-CONFIG={")) ≡ Err LineKind.Arity
unfolding computed
config_open = refl

pub mode_unfinished : line_of (words_of (codes "0-CONFIG={ mode=dis")) ≡ Err LineKind.Arity
unfolding computed
mode_unfinished = refl

pub mode_odd : line_of (words_of (codes "0-CONFIG={ mode=odd }")) ≡ Err LineKind.Profile
unfolding computed
mode_odd = refl

pub mode_unfinished_and_more : line_of (words_of (codes "0-CONFIG={ mode=dis }")) ≡ Err LineKind.Profile
unfolding computed
mode_unfinished_and_more = refl

pub no_mode : line_of (words_of (codes "0-CONFIG={ grant_log=no }")) ≡ Err LineKind.Profile
unfolding computed
no_mode = refl

pub word_after_config : line_of (words_of (codes "0-CONFIG={ mode=disabled } x")) ≡ Err LineKind.Profile
unfolding computed
word_after_config = refl

pub mode_again : line_of (words_of (codes "0-CONFIG={ mode=disabled mode=dis")) ≡ Err LineKind.Profile
unfolding computed
mode_again = refl

pub config_not_closed : line_of (words_of (codes "0-CONFIG={ mode=disabled")) ≡ Err LineKind.Arity
unfolding computed
config_not_closed = refl

pub log_unfinished : line_of (words_of (codes "0-CONFIG={ mode=disabled grant")) ≡ Err LineKind.Arity
unfolding computed
log_unfinished = refl

pub log_odd : line_of (words_of (codes "0-CONFIG={ mode=disabled grant_log=maybe }")) ≡ Err LineKind.Profile
unfolding computed
log_odd = refl

pub limit_unfinished : line_of (words_of (codes "0-PREFERENCE={ max_audit_log=")) ≡ Err LineKind.Arity
unfolding computed
limit_unfinished = refl

pub limit_empty : line_of (words_of (codes "0-PREFERENCE={ max_audit_log= }")) ≡ Err LineKind.Profile
unfolding computed
limit_empty = refl

pub limit_too_big : line_of (words_of (codes "0-PREFERENCE={ max_audit_log=4294967296 }")) ≡ Err LineKind.Profile
unfolding computed
limit_too_big = refl

pub limit_again : line_of (words_of (codes "0-PREFERENCE={ max_audit_log=1 max_audit_log=1 }")) ≡ Err LineKind.Profile
unfolding computed
limit_again = refl

pub limit_word_unfinished : line_of (words_of (codes "0-PREFERENCE={ max_")) ≡ Err LineKind.Arity
unfolding computed
limit_word_unfinished = refl

pub limit_with_zero : line_of (words_of (codes "0-PREFERENCE={ max_learning_entry=08 }")) ≡ Err LineKind.Profile
unfolding computed
limit_with_zero = refl

pub limits_not_closed : line_of (words_of (codes "0-PREFERENCE={ max_learning_entry=8")) ≡ Err LineKind.Arity
unfolding computed
limits_not_closed = refl

pub word_after_limits : line_of (words_of (codes "0-PREFERENCE={ } x")) ≡ Err LineKind.Profile
unfolding computed
word_after_limits = refl

pub preference_unfinished : line_of (words_of (codes "0-PREF")) ≡ Err LineKind.Arity
unfolding computed
preference_unfinished = refl

pub category_unfinished : line_of (words_of (codes "0-CONFIG::fi")) ≡ Err LineKind.Arity
unfolding computed
category_unfinished = refl

pub default_unfinished : line_of (words_of (codes "0-CONFIG::file=use")) ≡ Err LineKind.Arity
unfolding computed
default_unfinished = refl

pub word_after_default : line_of (words_of (codes "0-CONFIG::file=use_default x")) ≡ Err LineKind.Profile
unfolding computed
word_after_default = refl

pub no_category : line_of (words_of (codes "0-CONFIG::open={ mode=learning }")) ≡ Err LineKind.Profile
unfolding computed
no_category = refl

pub function_of_another : line_of (words_of (codes "0-CONFIG::misc::open={ mode=learning }")) ≡ Err LineKind.Profile
unfolding computed
function_of_another = refl

pub function_alone : line_of (words_of (codes "0-CONFIG::file::open")) ≡ Err LineKind.Arity
unfolding computed
function_alone = refl

pub slot_open : line_of (words_of (codes "0-CONFIG::file={")) ≡ Err LineKind.Arity
unfolding computed
slot_open = refl
