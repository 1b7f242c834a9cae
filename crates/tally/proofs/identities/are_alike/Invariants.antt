-- Nothing is set in all of them together, so in none. Assumes nothing.
use mathlib.Core.Path.{◌≡◌}
use Prim.Native.Nat.{ℕ, ◌*◌, ◌<◌}
use lib.ListN.{drop}
use Rattle.words.specs.RecordWords.{identity_from}
use Rattle.tally.specs.Inner.{Plain}
use Rattle.tally.proofs.identities.are_alike.Given as goal

abbrev pub invariant-loop-i : goal.invariant-loop-i
invariant-loop-i l = l.other ≡ 0 → (k : ℕ) → k < l.i → Plain l.present (identity_from (drop (3 * k) l.words))
