-- Worked example: a category's mode, and a function that uses the default, as two profile lines set
-- them.
use Rattle.std.proofs.Common.{◌≡◌, true, refl}
use Rattle.std.specs.Prelude.{codes, Some, Result, Ok, Err, option_map}
use Rattle.tm_word.specs.Prelude.{Text, words_of}
use Rattle.tm_number.specs.Numbers.{number_of, value_of, plain_of}
use Rattle.tm_rules.specs.Types.{Function, LineKind, Mode, Namespace, ProfileLine}
use Rattle.tm_rules.specs.Prelude.{at_key, config_of, empty_namespace, kernel, profile_line}
use Rattle.tm_line.specs.Namespaces.{namespace_of, namespace_at}
use Rattle.tm_profile.specs.Slots.{function_text, slot_text}
use Rattle.tm_profile.specs.Reading.{key_of, seen_after, closed, setting_after, limits_with, limits_after, slot_of, begins_some_slot, begins_effect, numbered, effect_at, line_of}

-- the namespace after a profile line, which is left as it is by a line that is refused
abbrev pub with_effect : Namespace → Result ProfileLine LineKind → Namespace
with_effect ns (Ok line) = profile_line line.effect ns
with_effect ns (Err kind) = ns

abbrev pub with_line : Namespace → Text → Namespace
with_line ns text = with_effect ns (line_of (words_of text))

-- `<kernel>` after both lines
abbrev pub after_both : Namespace
after_both = with_line (with_line (empty_namespace kernel) (codes "0-CONFIG::file={ mode=learning }")) (codes "0-CONFIG::file::open=use_default")

-- a read has the category's mode, and writes both logs; what is in no category of these lines is as
-- in a new profile
pub a_default_below_a_category : option_map (λ profile. config_of profile Function.Open) (at_key after_both.profiles 0) ≡ Some (record { mode = Mode.Learning; logs = record { grant = true; reject = true } })
unfolding words_of number_of value_of plain_of namespace_of namespace_at function_text slot_text key_of seen_after closed setting_after limits_with limits_after slot_of begins_some_slot begins_effect numbered effect_at line_of profile_line config_of
a_default_below_a_category = refl

pub another_category : option_map (λ profile. config_of profile Function.Env) (at_key after_both.profiles 0) ≡ Some (record { mode = Mode.Disabled; logs = record { grant = true; reject = true } })
unfolding words_of number_of value_of plain_of namespace_of namespace_at function_text slot_text key_of seen_after closed setting_after limits_with limits_after slot_of begins_some_slot begins_effect numbered effect_at line_of profile_line config_of
another_category = refl
