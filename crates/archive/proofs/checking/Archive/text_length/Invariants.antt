-- The first line's length, and at each turn that of one more line. Assumes nothing.
use mathlib.Core.Path.{◌≡◌}
use Prim.Native.Nat.{◌+◌, ◌-◌, ◌*◌, ◌≤◌}
use lib.ListN.{length}
use Rattle.archive.specs.Model.{header_width, entry_width}
use Rattle.archive.specs.Reading.{count_of, reading}
use Rattle.archive.specs.Listing.{listing}
use Rattle.archive.specs.Inner.{lines_from}
use Rattle.archive.proofs.checking.Archive.text_length.Given as goal

abbrev pub invariant-loop-index : goal.invariant-loop-index
invariant-loop-index l =
    (l.size ≤ 55 + 119 * l.index)
    × (l.size + length (lines_from l.self.bytes.now (count_of l.self.bytes.now - l.index) (header_width + entry_width * l.index)) ≡ length (listing (reading l.self.bytes.now)))
