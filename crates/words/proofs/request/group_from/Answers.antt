-- By whether it is given. Assumes nothing.
use borrow.Author.Tests.{ne_eqb}
use Rattle.words.specs.RequestWords.{group_from}
use Rattle.words.proofs.request.group_from.Goals as goal

pub returns-then-words-eq1 : goal.returns-then-words-eq1
unfolding group_from
returns-then-words-eq1 c = rw c.if-words-eq1.true

pub returns : goal.returns
unfolding group_from
returns c = rw (ne_eqb _ _ c.if-words-eq1.false)
