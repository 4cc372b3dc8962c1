-- The parts of a condition, by its right side.
use Rattle.std.specs.Prelude.{Bool, false, not, ◌&&◌, ◌==◌, List, Option, is_some, option_map}
use Rattle.std.specs.Bool.{beq}
use Rattle.std.specs.Option.{option_map_or}
use Rattle.std.specs.List.{find}
use Rattle.tm_word.specs.Prelude.{Word, texts_equal}
use Rattle.tm_rules.specs.Types.{Attr, FileKindWord, Groups, NameUnion, NumberUnion, Proc, Request}
use Rattle.tm_rules.specs.Prelude.{first_of_all, is_execute, judged, kind_place, name_in, number_in, number_of, stat_kind, word_of}

-- the value of the first name of an environment that is this one
abbrev pub value_in : List (Word × Word) → Word → Option Word
value_in environment name =
    option_map (λ pair. pair.1) (find (λ pair. texts_equal pair.0 name) environment)

-- the attribute is a number of the argument
abbrev pub number_holds : Groups → Proc → Request → Attr → Bool → NumberUnion → Bool
number_holds groups process request left equal union =
    judged equal (number_in groups union) (number_of left process request)

-- the attribute is the other attribute's number
abbrev pub attr_holds : Proc → Request → Attr → Bool → Attr → Bool
attr_holds process request left equal right =
    option_map_or (λ value. judged equal (λ own. own == value) (number_of left process request))
    (number_of right process request) false

-- the type of the file at a place is this word
abbrev pub kind_of_holds : Request → Bool → FileKindWord → Attr → Bool
kind_of_holds request equal kind (Attr.Kind place) =
    judged equal (λ own. kind_place own == kind_place kind)
    (first_of_all (stat_kind place) request.attributes.stats)
kind_of_holds request equal kind _ = false

-- the attribute is a name of the argument
abbrev pub name_holds : Groups → Request → Attr → Bool → NameUnion → Bool
name_holds groups request left equal union =
    judged equal (λ word. is_some (name_in groups union word)) (word_of left request)

-- the environment of an execute has no such name
abbrev pub null_holds : Request → Attr → Bool → Bool
null_holds request left equal =
    is_execute request && beq (not (is_some (word_of left request))) equal
