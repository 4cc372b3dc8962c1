use Rattle.std.proofs.Common.{rules, arith, ◌≡◌, ◌≤◌, ◌<◌, ◌++◌, ◌+◌, ℕ, List, false, length, length-append, take, ap, ◌∙◌, append_assoc}
use Rattle.std.proofs.KnownBytes.{Consumes-trans}
use Rattle.tm_io.proofs.streams.read_all.Goals as goal

pub loop-preserved : goal.loop-preserved
loop-preserved g c =
    let (taken, consumed, long, whole, (kept, is-kept), turns, fits) = c.loop.invariant in
    let n = c.in-Ok.count in
    let piece : List ℕ = take n c.read.new.buf in
    let some : 0 < n = search rules in
    let small : c.loop.length + n ≤ 16777216 = search rules in
    let size : n ≡ length piece = c.in-Ok.ensures.bound.1 in
    let longer : length (taken ++ piece) ≡ c.loop.length + n = length-append taken piece ∙ search (arith, long, size) in
    let (more, is-more) = c.is_refused-refused.ensures.part in
    let old = c.args.out.now.items in
    let grown = is-more ∙ ap (λ l. l ++ more) is-kept ∙ append_assoc old kept more in
    let all : c.is_refused-refused.result ≡ false → c.is_refused-refused.new.out.items ≡ old ++ (taken ++ piece) = λ no. let (before, now) = c.is_refused-refused.ensures.whole no in now ∙ ap (λ l. l ++ piece) (whole before) ∙ append_assoc old taken piece in
    (taken ++ piece, Consumes-trans _ _ _ taken piece consumed c.in-Ok.ensures.bytes.0, longer, all, (kept ++ more, grown), omega (arith, turns, some), small)
