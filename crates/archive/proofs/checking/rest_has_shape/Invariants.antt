-- Entry by entry, what is left decides about the shape. Assumes nothing.
use mathlib.Core.Path.{◌≡◌}
use Prim.Native.Nat.{◌+◌, ◌-◌, ◌*◌, ◌≤◌}
use lib.ListN.{length}
use Rattle.archive.specs.Model.{rank_of, entry_width}
use Rattle.archive.specs.Inner.{KeyFits, rest_shape}
use Rattle.archive.proofs.checking.rest_has_shape.Given as goal

abbrev pub invariant-loop-index : goal.invariant-loop-index
invariant-loop-index l =
    (l.off ≤ length l.archive) × (KeyFits l.last)
    × (rest_shape l.archive (rank_of l.fn.key) l.entries l.from l.bodies ≡ rest_shape l.archive (rank_of l.last) (l.entries - l.index) (l.from + entry_width * l.index) l.off)
