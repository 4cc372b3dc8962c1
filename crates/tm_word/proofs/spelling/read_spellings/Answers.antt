use Rattle.std.proofs.Common.{◌≡◌, [], drop, refl, sym, ap, subst, ◌∙◌, arith}
use Rattle.std.proofs.lemmas.Grind.{common_steps}
use Rattle.tm_word.specs.declared.spelling.Head.TheVariants as head
use Rattle.tm_word.specs.Prelude.{BeginsWith, HasBadByte, HasBadEscape, Text, word_from, word_of}
use Rattle.tm_word.proofs.Spelled.{spelled_within, spelled_more, bytes_more, lent, stops_at, reads_on}
use Rattle.tm_word.proofs.spelling.read_spellings.Goals as goal

pub loop-place-init : goal.loop-place-init
unfolding word_of
loop-place-init c = rw c.new-bytes.ensures.items (record { within = omega arith; spelled = refl; bytes = refl; goes_on = refl })

pub loop-place-preserved : goal.loop-place-preserved
loop-place-preserved c =
    let text = c.args.text.now in
    let place = c.loop-place.place in
    let byte = c.in-Byte.byte in
    let low = c.loop-place-test.true in
    let here = subst (λ (t : Text). BeginsWith t byte) (lent text place low) c.in-Byte.ensures.spelled.1 in
    let now = c.loop-place.invariant in
    rw (c.spelling_len-place.ensures, c.in_ok-push-in-Byte.ensures.items) (record {
      within = spelled_within text place byte now.within here;
      spelled = spelled_more text c.loop-place.bytes.items place byte now.spelled here;
      bytes = bytes_more c.loop-place.bytes.items byte now.bytes c.in-Byte.ensures.spelled.0;
      goes_on = reads_on text c.loop-place.bytes.items place byte low c.in-Byte.ensures.exact ∙ now.goes_on;
    })

pub returns-in-BadByte-clause-exact : goal.returns-in-BadByte-clause-exact
returns-in-BadByte-clause-exact c = sym c.loop-place.invariant.goes_on ∙ stops_at c.args.text.now c.loop-place.bytes.items c.loop-place.place head.BadByte c.loop-place-test.true c.in-BadByte.ensures.exact

pub returns-in-BadByte-clause-fault : goal.returns-in-BadByte-clause-fault
returns-in-BadByte-clause-fault c =
    ((c.loop-place.bytes.items, c.loop-place.invariant.bytes, c.loop-place.invariant.spelled), subst HasBadByte (lent c.args.text.now c.loop-place.place c.loop-place-test.true) c.in-BadByte.ensures.spelled)

pub returns-in-BadEscape-clause-exact : goal.returns-in-BadEscape-clause-exact
returns-in-BadEscape-clause-exact c = sym c.loop-place.invariant.goes_on ∙ stops_at c.args.text.now c.loop-place.bytes.items c.loop-place.place head.BadEscape c.loop-place-test.true c.in-BadEscape.ensures.exact

pub returns-in-BadEscape-clause-fault : goal.returns-in-BadEscape-clause-fault
returns-in-BadEscape-clause-fault c =
    ((c.loop-place.bytes.items, c.loop-place.invariant.bytes, c.loop-place.invariant.spelled), subst HasBadEscape (lent c.args.text.now c.loop-place.place c.loop-place-test.true) c.in-BadEscape.ensures.spelled)

pub returns-clause-exact : goal.returns-clause-exact
returns-clause-exact c =
    let over : drop c.loop-place.place c.args.text.now ≡ [] = grind (arith, common_steps) in
    rw c.from_vec.ensures (sym c.loop-place.invariant.goes_on ∙ ap (word_from c.loop-place.bytes.items c.loop-place.place 0) over)
