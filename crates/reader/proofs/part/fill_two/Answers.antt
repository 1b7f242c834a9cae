-- One, then another. Assumes nothing.
use native.Mathlib.Omega.{arith}
use Rattle.reader.proofs.Parts.{reads_first, reads-next, fill-then}
use Rattle.reader.proofs.part.fill_two.Goals as goal

pub fill-between-requires : goal.fill-between-requires
fill-between-requires g c = record { few = c.requires.few; room = omega (arith, c.requires.room); reads = reads_first _ _ c.requires.reads }

pub fill-requires : goal.fill-requires
fill-requires g c =
    record { few = c.requires.few; room = omega (arith, c.requires.room); reads = reads-next _ _ c.requires.reads c.fill-between.ensures.read }

pub returns : goal.returns
returns g c = fill-then _ _ g.P.Spelt.spelt c.fill-between.ensures c.fill.ensures
