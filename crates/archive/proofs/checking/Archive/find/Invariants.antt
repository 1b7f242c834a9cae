-- Entry by entry, the search from there on finds what the whole search finds. Assumes nothing.
use mathlib.Core.Path.{◌≡◌}
use Prim.Native.Nat.{◌+◌, ◌-◌, ◌*◌, ◌≤◌}
use lib.ListN.{length}
use Rattle.archive.specs.Model.{rank_of, header_width, entry_width, sizes}
use Rattle.archive.specs.Reading.{held_from, held_in, bodies_at}
use Rattle.archive.specs.Inner.{seek}
use Rattle.archive.proofs.checking.Archive.find.Given as goal

abbrev pub invariant-loop-index : goal.invariant-loop-index
invariant-loop-index l =
    let at = header_width + entry_width * l.index in
    (l.off + sizes (held_from l.self.bytes.now (l.count - l.index) at l.off) ≡ length l.self.bytes.now) × (length l.self.bytes.now ≤ 65536)
    × (seek (rank_of l.key) header_width (bodies_at l.self.bytes.now) (held_in l.self.bytes.now) ≡ seek (rank_of l.key) at l.off (held_from l.self.bytes.now (l.count - l.index) at l.off))
