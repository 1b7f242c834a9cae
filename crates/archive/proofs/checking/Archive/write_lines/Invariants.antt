-- Whatever lays the lines that are left lays them all: each turn lays one. Assumes nothing.
use mathlib.Core.List.{List}
use Prim.Native.Nat.{ℕ, ◌+◌, ◌-◌, ◌*◌, ◌≤◌}
use lib.ListN.{length}
use Rattle.bits.specs.Inner.{Laid}
use Rattle.archive.specs.Model.{header_width, entry_width}
use Rattle.archive.specs.Reading.{count_of}
use Rattle.archive.specs.Inner.{lines_from, lines_in}
use Rattle.archive.proofs.checking.Archive.write_lines.Given as goal

-- the lines from an entry on
abbrev pub left : List ℕ → ℕ → List ℕ
left b i = lines_from b (count_of b - i) (header_width + entry_width * i)

abbrev pub invariant-loop-index : goal.invariant-loop-index
invariant-loop-index l =
    (l.at + length (left l.self.bytes.now l.index) ≤ length l.out)
    × ((out' : List ℕ) (end : ℕ) → Laid l.out l.at (left l.self.bytes.now l.index) out' end → Laid l.initial.out l.start (lines_in l.self.bytes.now) out' end)
