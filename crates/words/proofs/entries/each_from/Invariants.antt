-- Each turn fills one place. Assumes nothing.
use mathlib.Core.Path.{◌≡◌}
use Prim.Native.Nat.{◌+◌, ◌*◌}
use lib.ListN.{length}
use Rattle.words.proofs.Filling.{Filled}
use Rattle.words.proofs.entries.each_from.Given as goal

abbrev pub invariant-loop-entry : goal.invariant-loop-entry
invariant-loop-entry g l =
    let e = g.E.Spelt in
    Filled e.meant e.WIDTH (length l.initial.entries) l.words l.at l.entry-index l.entries × (l.from ≡ l.at + e.WIDTH * l.entry-index)
