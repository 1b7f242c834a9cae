-- By the kind. Assumes nothing.
use mathlib.Core.Path.{ap}
use Prim.Native.Nat.{ℕ}
use borrow.Author.Tests.{ne_eqb}
use Rattle.rules.specs.declared.request.Destination.TheVariants.{Number}
use Rattle.words.specs.RequestWords.{destination_from}
use Rattle.words.proofs.request.destination_from.Goals as goal

pub returns-then-words-eq1 : goal.returns-then-words-eq1
unfolding destination_from
returns-then-words-eq1 c = rw c.if-words-eq1.true

pub returns : goal.returns
unfolding destination_from
returns c = rw (ne_eqb _ _ c.if-words-eq1.false) (ap (λ (n : ℕ). Number (record { 0 = n })) c.narrow_word.ensures)
