-- Each way out of the three tests is framed's own value. Assumes nothing.
use mathlib.Core.Path.{◌≡◌, ap}
use Prim.Native.Nat.{ℕ, ◌-◌, ◌/◌, ◌%◌}
use native.Mathlib.Omega.{arith}
use borrow.Author.Tests.{eq-eqb, ne_eqb, le-leb, lt-leb}
use lib.ListN.{length, get_or}
use lib.Dec.{eqb}
use lib.Pow.{pow_pos}
use Rattle.bits.specs.Frame.{framed, bytes_for}
use Rattle.bits.proofs.Frames.{none-unused, last-unused}
use Rattle.bits.proofs.is_framed.Goals as goal

pub returns-then-count-gt4096 : goal.returns-then-count-gt4096
unfolding framed
returns-then-count-gt4096 c = rw (lt-leb c.args.n.0 4096 c.if-count-gt4096.true)

pub returns-then-s-bytes : goal.returns-then-s-bytes
unfolding framed
returns-then-s-bytes c =
    let a = c.args in
    rw (le-leb a.n.0 4096 c.if-count-gt4096.false, ne_eqb (length a.s.now) (bytes_for a.n.0) (omega arith))

pub returns-then-used-eq0 : goal.returns-then-used-eq0
unfolding framed
returns-then-used-eq0 c =
    let a = c.args in
    let e : length a.s.now ≡ bytes_for a.n.0 = omega arith in
    rw (le-leb a.n.0 4096 c.if-count-gt4096.false, eq-eqb (length a.s.now) (bytes_for a.n.0) e, none-unused a.s.now a.n.0 e c.if-used-eq0.true)

pub overflow_cast-result : goal.overflow_cast-result
overflow_cast-result c = omega (arith, c.type_inv.s (c.args.n.0 / 8))

pub nonzero_rem-result : goal.nonzero_rem-result
nonzero_rem-result c = omega (arith, c.pow2.ensures, pow_pos (8 - c.args.n.0 % 8))

pub returns : goal.returns
unfolding framed
returns c =
    let a = c.args in
    let e : length a.s.now ≡ bytes_for a.n.0 = omega arith in
    rw (le-leb a.n.0 4096 c.if-count-gt4096.false, eq-eqb (length a.s.now) (bytes_for a.n.0) e, last-unused a.s.now a.n.0 e (omega arith))
    (ap (λ (x : ℕ). eqb (get_or a.s.now (a.n.0 / 8) 0 % x) 0) c.pow2.ensures)
