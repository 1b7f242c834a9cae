-- Word by word. Assumes nothing.
use mathlib.Core.Path.{◌≡◌}
use lib.ListN.{take}
use Rattle.tally.specs.Inner.{none_above}
use Rattle.tally.proofs.elements.none_above.Given as goal

abbrev pub invariant-loop-word : goal.invariant-loop-word
invariant-loop-word l = l.none ≡ none_above l.most (take l.word-index l.words)
