-- The invariant: what was refused so far and what is left to test decide the answer. Assumes nothing.
use mathlib.Core.Path.{◌≡◌}
use mathlib.Core.Bool.{◌&&◌}
use Prim.Native.Nat.{◌*◌, ◌≤◌}
use lib.ListN.{take}
use lib.Seq.{slice}
use lib.Dec.{eqb}
use Rattle.bits.specs.Lists.{every}
use Rattle.rules.specs.Request.{is_digit}
use Rattle.rules.proofs.request.used_are_digits.Given as goal

abbrev pub invariant-loop-digit : goal.invariant-loop-digit
invariant-loop-digit l =
    (l.refused ≤ 3 * l.digit-index)
    × (eqb l.refused 0 && every is_digit (slice l.digit-index l.digit-index-end l.digit-items) ≡ every is_digit (take l.digit-index-end l.digit-items))
