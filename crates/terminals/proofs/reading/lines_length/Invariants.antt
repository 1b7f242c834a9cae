-- At each turn one line more. Assumes nothing.
use mathlib.Core.Path.{◌≡◌}
use Prim.Native.Nat.{◌+◌, ◌*◌, ◌≤◌}
use lib.ListN.{length, drop}
use Rattle.terminals.specs.Layers.{places}
use Rattle.terminals.specs.Reading.{lines_text}
use Rattle.terminals.proofs.reading.lines_length.Given as goal

abbrev pub invariant-loop-index : goal.invariant-loop-index
invariant-loop-index l =
    (l.size ≤ 64 * l.index) × (l.size + length (lines_text (drop l.index places) (drop l.index l.table)) ≡ length (lines_text places l.table))
