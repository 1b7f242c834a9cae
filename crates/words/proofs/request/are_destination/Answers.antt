-- Each arm is the definition's own case. Assumes nothing.
use mathlib.Core.Path.{sym}
use mathlib.Core.Bool.{or-false}
use borrow.Author.Tests.{ne_eqb}
use Rattle.words.specs.RequestWords.{are_destination}
use Rattle.words.proofs.request.are_destination.Goals as goal

pub returns-then-words-ne0 : goal.returns-then-words-ne0
unfolding are_destination
returns-then-words-ne0 c = rw (c.in-2.is, ne_eqb _ _ c.if-words-ne0.true)

pub returns-in-1 : goal.returns-in-1
unfolding are_destination
returns-in-1 c = rw c.in-1.is (sym (or-false _))

pub returns-else-words-ne0 : goal.returns-else-words-ne0
unfolding are_destination
returns-else-words-ne0 c = rw (c.in-2.is, c.if-words-ne0.false)

pub returns-in_default : goal.returns-in_default
unfolding are_destination
returns-in_default c = let m = c.in_default.in_default-own.rest in rw (ne_eqb _ _ m.0.1, ne_eqb _ _ m.1)
