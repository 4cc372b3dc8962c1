-- The printed lines of the exception policy, as their words after the namespace word.
use Rattle.std.specs.Prelude.{Bool, true, false, List, [], ◌∷◌, ◌++◌, Option, Some, None, codes, if◌then◌else◌}
use Rattle.std.specs.List.{flat_map}
use Rattle.std.specs.Fmt.{decimal}
use Rattle.tm_word.specs.Prelude.{Pattern, Text, Word, spell, spelled_pattern}
use Rattle.tm_rules.specs.Types.{AddrRange, Control, ControlKind, ExceptLine, ExceptRule, Namespace, Range}
use Rattle.tm_number.specs.Numbers.{range_spelling}
use Rattle.tm_line.specs.AddrPrinting.{addr_range_spelling}
use Rattle.tm_line.specs.DomainWords.{domain_parts}
use Rattle.tm_line.specs.Namespaces.{line_text}

-- Groups and aggregators

unfoldable pub path_group_words : Word → Pattern → List Text
path_group_words name member = codes "path_group" ∷ spell name ∷ spelled_pattern member ∷ []

unfoldable pub range_text : Range → Text
range_text range = range_spelling range

unfoldable pub addr_range_text : AddrRange → Text
addr_range_text range = addr_range_spelling range

unfoldable pub number_group_words : Word → Range → List Text
number_group_words name member = codes "number_group" ∷ spell name ∷ range_text member ∷ []

unfoldable pub address_group_words : Word → AddrRange → List Text
address_group_words name member = codes "address_group" ∷ spell name ∷ addr_range_text member ∷ []

unfoldable pub aggregator_words : Pattern → Word → List Text
aggregator_words one other = codes "aggregator" ∷ spelled_pattern one ∷ spell other ∷ []

-- Controls

abbrev pub kind_text : ControlKind → Text
kind_text ControlKind.NoReset = codes "no_reset_domain"
kind_text ControlKind.Reset = codes "reset_domain"
kind_text ControlKind.NoInitialize = codes "no_initialize_domain"
kind_text ControlKind.Initialize = codes "initialize_domain"
kind_text ControlKind.NoKeep = codes "no_keep_domain"
kind_text ControlKind.Keep = codes "keep_domain"
kind_text ControlKind.Ordinary = []

-- none is `any`
abbrev pub program_text : Option Text → Text
program_text None = codes "any"
program_text (Some path) = path

-- one path, or the words of a domain name
abbrev pub domain_words : Option Text → Bool → List Text
domain_words None last = codes "any" ∷ []
domain_words (Some path) true = path ∷ []
domain_words (Some name) false = domain_parts name

-- always with `from`
unfoldable pub control_words : Control → List Text
control_words control =
    kind_text control.kind ∷ program_text control.program ∷ codes "from"
    ∷ domain_words control.domain control.last

-- Every rule

-- an ACL group's line keeps its words
unfoldable pub rule_words : ExceptRule → List Text
rule_words (ExceptRule.PathGroup name member) = path_group_words name member
rule_words (ExceptRule.NumberGroup name member) = number_group_words name member
rule_words (ExceptRule.AddressGroup name member) = address_group_words name member
rule_words (ExceptRule.Aggregator one other) = aggregator_words one other
rule_words (ExceptRule.Control control) = control_words control
rule_words (ExceptRule.Acl n words) = codes "acl_group" ∷ decimal n ∷ words

-- Lists

abbrev pub path_groups_text : Text → List (Word × Pattern) → Text
path_groups_text ns groups =
    flat_map (λ group. line_text ns (path_group_words group.0 group.1)) groups

abbrev pub number_groups_text : Text → List (Word × Range) → Text
number_groups_text ns groups =
    flat_map (λ group. line_text ns (number_group_words group.0 group.1)) groups

abbrev pub address_groups_text : Text → List (Word × AddrRange) → Text
address_groups_text ns groups =
    flat_map (λ group. line_text ns (address_group_words group.0 group.1)) groups

abbrev pub aggregators_text : Text → List (Pattern × Word) → Text
aggregators_text ns aggregators =
    flat_map (λ pair. line_text ns (aggregator_words pair.0 pair.1)) aggregators

abbrev pub controls_text : Text → List Control → Text
controls_text ns controls = flat_map (λ control. line_text ns (control_words control)) controls

-- path groups, number groups, address groups, aggregators and controls, each list in written order
unfoldable pub lists_text : Namespace → Text
lists_text ns =
    path_groups_text ns.name ns.groups.paths
    ++ (number_groups_text ns.name ns.groups.numbers
    ++ (address_groups_text ns.name ns.groups.addrs
    ++ (aggregators_text ns.name ns.aggregators ++ controls_text ns.name ns.controls)))

-- A line that was read, in its normal form

-- `delete` where it deletes, the namespace word always, then the rule
unfoldable pub line_words : ExceptLine → List Text
line_words line =
    if line.delete then codes "delete" ∷ line.namespace ∷ rule_words line.rule
    else line.namespace ∷ rule_words line.rule
