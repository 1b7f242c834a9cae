-- As long as no present bit is another than the first, each entry ends where it was expected to. Assumes nothing.
use mathlib.Core.Path.{◌≡◌}
use Prim.Native.Nat.{◌+◌, ◌*◌, ◌≤◌}
use Rattle.grammar.specs.Grammar.{identity}
use Rattle.walk.specs.Inner.{pass, steps, Ends}
use Rattle.walk.proofs.entry.identities_end.Given as goal

abbrev pub invariant-loop : goal.invariant-loop
invariant-loop l =
    (l.other ≤ l.counter) × (l.at ≤ l.start + 49 * l.counter) × (l.other ≡ 0 → Ends (λ bs. steps (pass identity bs) l.counter) l.s l.start (49 * l.counter) l.at)
