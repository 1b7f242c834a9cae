-- A refusal is passed on; bits may be left, or not. Assumes nothing.
use borrow.Author.Tests.{lt-ltb, le-ltb}
use native.Mathlib.Omega.{arith}
use Rattle.walk.specs.Inner.{ended_is}
use Rattle.walk.proofs.ended.Goals as goal

pub returns-in-Err : goal.returns-in-Err
unfolding ended_is
returns-in-Err c = rw c.in-Err.is

pub returns-then-end-n : goal.returns-then-end-n
unfolding ended_is
returns-then-end-n c =
    let n = c.args.n.0 in
    rw (c.in-Ok.is, lt-ltb c.in-Ok.end.at n c.if-end-n.true)

pub returns-else-end-n : goal.returns-else-end-n
unfolding ended_is
returns-else-end-n c =
    let n = c.args.n.0 in
    rw (c.in-Ok.is, le-ltb c.in-Ok.end.at n (omega (arith, c.if-end-n.false)), c.head_in.ensures)
