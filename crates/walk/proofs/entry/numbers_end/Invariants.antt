-- As long as each number ends where it was expected to. Assumes nothing.
use Prim.Native.Nat.{◌*◌}
use Rattle.grammar.specs.Grammar.{external}
use Rattle.walk.specs.Inner.{pass, steps, Ends}
use Rattle.walk.proofs.entry.numbers_end.Given as goal

abbrev pub invariant-loop : goal.invariant-loop
invariant-loop l = Ends (λ bs. steps (pass external bs) l.counter) l.s l.start (4097 * l.counter) l.at
