-- Entry by entry, what is left to check decides what the check says. Assumes nothing.
use mathlib.Core.Path.{◌≡◌}
use Prim.Native.Nat.{◌+◌, ◌-◌, ◌*◌, ◌≤◌}
use lib.ListN.{length}
use Rattle.archive.specs.Model.{rank_of, header_width, entry_width}
use Rattle.archive.specs.Checking.{check_is}
use Rattle.archive.specs.Inner.{KeyFits}
use Rattle.archive.proofs.Bytes.Checking.{rest_is}
use Rattle.archive.proofs.checking.check.Given as goal

abbrev pub invariant-loop-index : goal.invariant-loop-index
invariant-loop-index l =
    (l.off ≤ length l.archive) × (length l.archive ≤ 65536) × (KeyFits l.last)
    × (check_is l.archive ≡ rest_is l.archive l.home l.index (rank_of l.last) (l.count - l.index) (header_width + entry_width * l.index) l.off)
