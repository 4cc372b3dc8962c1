-- What a test of equality answers.
use Rattle.std.proofs.Common.{◌≡◌, Bool}
use Rattle.std.specs.Prelude.{IsTrue, ◌↔◌}
use Rattle.tm_word.specs.Prelude.{Pattern}
use Rattle.tm_rules.specs.Types.{AddrRange, Range}
use Rattle.tm_rules.specs.Prelude.{patterns_equal, ranges_equal, same_addr_range}
use Rattle.tm_rules.proofs.EqualityLaws.{is_test, same_patterns, same_ranges, same_addr_ranges}

pub patterns_are_same : (r : Bool) (x y : Pattern) → IsTrue r ↔ (x ≡ y) → r ≡ patterns_equal x y
patterns_are_same r x y h = is_test patterns_equal same_patterns r x y h

pub ranges_are_same : (r : Bool) (x y : Range) → IsTrue r ↔ (x ≡ y) → r ≡ ranges_equal x y
ranges_are_same r x y h = is_test ranges_equal same_ranges r x y h

pub addr_ranges_are_same : (r : Bool) (x y : AddrRange) → IsTrue r ↔ (x ≡ y) → r ≡ same_addr_range x y
addr_ranges_are_same r x y h = is_test same_addr_range same_addr_ranges r x y h
