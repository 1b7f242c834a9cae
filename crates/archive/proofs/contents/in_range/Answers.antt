-- The four tests in turn. Assumes nothing.
use native.Mathlib.Omega.{arith}
use borrow.Author.Tests.{lt-ltb, le-ltb, le-leb, lt-leb}
use Rattle.archive.specs.Model.{in_range}
use Rattle.archive.proofs.contents.in_range.Goals as goal

pub returns-then-key-ge16777216 : goal.returns-then-key-ge16777216
unfolding in_range
returns-then-key-ge16777216 c = rw (le-ltb c.args.key.network 16777216 (omega arith))

pub returns-then-key-ge16777216-2 : goal.returns-then-key-ge16777216-2
unfolding in_range
returns-then-key-ge16777216-2 c =
    let a = c.args in
    rw (lt-ltb a.key.network 16777216 (omega arith), le-ltb a.key.ssi 16777216 (omega arith))

pub returns-then-key-lt1 : goal.returns-then-key-lt1
unfolding in_range
returns-then-key-lt1 c =
    let a = c.args in
    rw (lt-ltb a.key.network 16777216 (omega arith), lt-ltb a.key.ssi 16777216 (omega arith), lt-leb 1 a.key.part (omega arith))

pub returns : goal.returns
unfolding in_range
returns c =
    let a = c.args in
    rw (lt-ltb a.key.network 16777216 (omega arith), lt-ltb a.key.ssi 16777216 (omega arith), le-leb 1 a.key.part (omega arith))
