-- As long as each entry ends where it was expected to. Assumes nothing.
use Rattle.bits.specs.Bits.{bits}
use Rattle.in_place.proofs.Among.{Along}
use Rattle.in_place.proofs.sought.among_even.Given as goal

abbrev pub invariant-loop : goal.invariant-loop
invariant-loop g l =
    let e = g.S.Sought in
    Along e.part e.none (e.is l.sought) 8 l.count (bits l.s) l.start l.counter l.at l.has
