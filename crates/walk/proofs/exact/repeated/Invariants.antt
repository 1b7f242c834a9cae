-- What is left to pass goes on from where the cursor stands. Assumes nothing.
use Rattle.std.proofs.Common.{◌≡◌, ◌≤◌, ◌-◌, Ok, Err}
use Rattle.bits.specs.declared.Cursor.{Cursor}
use Rattle.codec.specs.declared.Stop.{Stop}
use Rattle.walk.specs.Inner.{Reached, steps}
use Rattle.walk.proofs.exact.repeated.Given as goal

abbrev pub invariant-loop : goal.invariant-loop
invariant-loop g l = (l.counter ≤ l.count) × ((step : Reached → Reached)
    → ((at : Cursor) (r : Reached) → goal.F-post g l.part at r → r ≡ step (Ok at))
    → ((e : Stop) → Err e ≡ step (Err e)) → steps step l.fn.count (Ok l.fn.start) ≡ steps step (l.count - l.counter) (Ok l.at))
