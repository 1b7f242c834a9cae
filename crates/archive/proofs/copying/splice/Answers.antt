-- The front, then the back. Assumes nothing.
use native.Mathlib.Omega.{arith}
use Rattle.bits.proofs.Laying.{then}
use Rattle.archive.proofs.Bytes.Copied.{length_front}
use Rattle.archive.proofs.copying.splice.Goals as goal

pub write_back-requires : goal.write_back-requires
write_back-requires c =
    let w = c.requires.within.0 in
    let l = length_front c.args.archive.now c.args.place.at c.args.count c.args.entry w.first
    (omega (arith, w.contents, w.bodies)) in
    (w, omega (arith, l, c.write_front-back.ensures.ends, c.write_front-back.auto.out, c.requires.body_in_bounds))

pub returns : goal.returns
returns c =
    then (omega arith) c.write_front-back.ensures c.write_back.ensures
