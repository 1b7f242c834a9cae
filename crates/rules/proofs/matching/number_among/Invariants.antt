-- The invariants: what is left to search, and to compare, decides the answer. Assumes nothing.
use mathlib.Core.Path.{◌≡◌}
use mathlib.Core.Bool.{false}
use lib.ListN.{take}
use lib.Seq.{slice}
use Rattle.bits.specs.Lists.{some}
use Rattle.rules.specs.Matching.{same, is_number}
use Rattle.rules.proofs.matching.number_among.Given as goal

abbrev pub invariant-loop-j : goal.invariant-loop-j
invariant-loop-j l =
    (l.found ≡ false)
    × (same (slice l.j l.places l.e.digits) (slice l.j l.places l.number.digits) ≡ is_number l.number.length.0 l.number.digits l.e)

abbrev pub invariant-entries : goal.invariant-entries
invariant-entries l =
    let f = is_number l.number.length.0 l.number.digits in
    (l.found ≡ false) × (some f (slice l.e-index l.e-index-end l.e-items) ≡ some f (take l.e-index-end l.e-items))
