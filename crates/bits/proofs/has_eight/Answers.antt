-- Each way out is the definition's. Assumes nothing.
use native.Mathlib.Omega.{arith}
use borrow.Author.Tests.{le-leb, lt-leb}
use Rattle.bits.proofs.has_eight.Goals as goal

pub returns-then-width-gt57 : goal.returns-then-width-gt57
returns-then-width-gt57 c = rw (lt-leb c.args.width 57 c.if-width-gt57.true)

pub returns : goal.returns
returns c = rw (le-leb c.args.width 57 (omega arith))
