-- The two limits in turn. Assumes nothing.
use native.Mathlib.Omega.{arith}
use borrow.Author.Tests.{le-leb, lt-leb}
use Rattle.archive.proofs.contents.within_limits.Goals as goal

pub returns-then-count-gt512 : goal.returns-then-count-gt512
returns-then-count-gt512 c = rw (lt-leb c.args.count 512 (omega arith))

pub returns : goal.returns
returns c = rw (le-leb c.args.count 512 (omega arith))
