-- Each turn puts the last digit of what is left in front of those that are there: whatever lays the digits left lays them all.
-- Assumes nothing.
use mathlib.Core.List.{List}
use Prim.Native.Nat.{ℕ, ◌-◌, ◌≤◌}
use Rattle.bits.specs.Inner.{Laid}
use Rattle.text.specs.Decimal.{decimal}
use Rattle.text.proofs.Decimals.{padded}
use Rattle.text.proofs.write_digits.Given as goal

abbrev pub invariant-loop-place : goal.invariant-loop-place
invariant-loop-place l =
    (l.at ≤ l.place)
    × ((out' : List ℕ) (m : ℕ) → Laid l.out l.at (padded (l.place - l.at) l.rest) out' m → Laid l.initial.out l.at (decimal l.n) out' l.end)
