-- The invariant: the sum so far and what is left to test decide the answer. Assumes nothing.
use mathlib.Core.Path.{◌≡◌}
use mathlib.Core.Bool.{◌&&◌}
use Prim.Native.Nat.{◌*◌, ◌≤◌}
use lib.ListN.{take}
use lib.Seq.{slice}
use lib.Dec.{eqb}
use Rattle.bits.specs.Lists.{every}
use Rattle.rules.specs.Request.{is_unused}
use Rattle.rules.proofs.request.unused_are_zero.Given as goal

abbrev pub invariant-loop-digit : goal.invariant-loop-digit
invariant-loop-digit l =
    (l.sum ≤ 255 * l.digit-index)
    × (eqb l.sum 0 && every is_unused (slice l.digit-index l.digit-index-end l.digit-items) ≡ every is_unused (take l.digit-index-end l.digit-items))
