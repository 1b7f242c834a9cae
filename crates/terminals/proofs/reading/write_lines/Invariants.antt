-- Whatever lays the lines that are left lays them all: each turn lays one. Assumes nothing.
use mathlib.Core.List.{List}
use Prim.Native.Nat.{ℕ}
use lib.ListN.{drop}
use Rattle.text.proofs.Copies.{Fitted}
use Rattle.terminals.specs.Layers.{places}
use Rattle.terminals.specs.Reading.{lines_text}
use Rattle.terminals.proofs.reading.write_lines.Given as goal

abbrev pub invariant-loop-index : goal.invariant-loop-index
invariant-loop-index l =
    (out' : List ℕ) (end : ℕ) → Fitted l.out l.at (lines_text (drop l.index places) (drop l.index l.table)) out' end
    → Fitted l.initial.out l.start (lines_text places l.table) out' end
