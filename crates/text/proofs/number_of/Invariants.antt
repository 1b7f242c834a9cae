-- Digit by digit, the number so far with the digits that are left says what all of them say. Assumes nothing.
use mathlib.Core.Path.{◌≡◌}
use Prim.Native.Nat.{◌^◌, ◌<◌}
use lib.ListN.{drop}
use Rattle.text.specs.Field.{number_from, number_of}
use Rattle.text.proofs.number_of.Given as goal

abbrev pub invariant-loop-digit : goal.invariant-loop-digit
invariant-loop-digit l = (l.number < 10 ^ l.digit-index) × (number_of l.digits ≡ number_from l.number (drop l.digit-index l.digits))
