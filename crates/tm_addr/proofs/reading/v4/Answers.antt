use Rattle.std.proofs.Common.{◌==◌, refl}
use Rattle.tm_number.proofs.Cuts.{pieces_of}
use Rattle.tm_addr.specs.Reading.{v4_of}
use Rattle.tm_addr.proofs.reading.v4.Goals as goal

pub returns-in-Some : goal.returns-in-Some
unfolding v4_of
returns-in-Some c =
    let p = pieces_of (λ b. b == 46) c.in-Some.field-0.1.now in
    rw (c.in_ok-first.ensures.pieces_are, c.in_ok-second.ensures.pieces_are, c.in_ok-third.ensures.pieces_are, c.in-Some.ensures.pieces_are, p.are) refl
