-- Each turn stores an entry. Assumes nothing.
use Rattle.bits.specs.Bits.{bits}
use Rattle.reader.proofs.Entries.{Entries}
use Rattle.reader.proofs.part.fill_entries.Given as goal

abbrev pub invariant-loop-i : goal.invariant-loop-i
invariant-loop-i g l =
    let e = g.E.Part in
    Entries e.part e.none g.E.Spelt.spelt g.E.Spelt.WIDTH 8 l.count (bits l.s) l.initial.at.at l.i l.at.at l.words
