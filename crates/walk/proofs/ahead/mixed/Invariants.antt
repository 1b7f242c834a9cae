-- One entry after the other. Assumes nothing.
use Prim.Native.Nat.{◌*◌}
use Rattle.walk.specs.Inner.{pass, steps, Ends}
use Rattle.walk.proofs.ahead.mixed.Given as goal

abbrev pub invariant-loop : goal.invariant-loop
invariant-loop g l = Ends (λ bs. steps (pass g.E.Entry.part bs) l.counter) l.s l.start (4097 * l.counter) l.at
