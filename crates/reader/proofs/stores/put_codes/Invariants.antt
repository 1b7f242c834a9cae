-- Each turn puts one number. Assumes nothing.
use mathlib.Core.Path.{◌≡◌}
use lib.ListN.{length, take}
use Rattle.reader.specs.Inner.{codes_in}
use Rattle.reader.proofs.stores.put_codes.Given as goal

abbrev pub invariant-loop-i : goal.invariant-loop-i
invariant-loop-i g l =
    let count = g.row.COUNT in
    (length l.words ≡ count) × (take l.i l.words ≡ take l.i (codes_in count g.row.WIDTH l.run))
