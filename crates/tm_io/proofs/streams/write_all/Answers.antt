use Rattle.std.proofs.Common.{◌++◌, take}
use Rattle.std.proofs.KnownBytes.{Appends-trans}
use Rattle.tm_io.proofs.Reading.{front-moves}
use Rattle.tm_io.proofs.streams.write_all.Goals as goal

pub loop-preserved : goal.loop-preserved
loop-preserved g c =
    let (done, split, appended) = c.loop.invariant in
    let rest = c.loop.rest.now in
    let n = c.in-Ok.count in
    (done ++ take n rest, front-moves _ done rest n split, Appends-trans _ _ _ _ _ appended c.in-Ok.ensures.bytes)
