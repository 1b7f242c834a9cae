-- The invariant: the sum so far and what is left to test decide the answer. Assumes nothing.
use native.Mathlib.Omega.{arith}
use mathlib.Core.Path.{◌≡◌, sym, ap, ◌∙◌}
use Prim.Native.Nat.{ℕ, ◌-◌, min}
use lib.ListN.{length, take, drop, length-drop}
use lib.Dec.{eqb}
use lib.Seq.{take-length}
use Rattle.bits.specs.Lists.{every}
use Rattle.bits.proofs.Lists.{drop_min}
use Rattle.rules.specs.Request.{is_unused}
use Rattle.rules.proofs.Search.{summed, sum-end}
use Rattle.rules.proofs.request.unused_are_zero.Goals.{After-min-n}
use Rattle.rules.proofs.request.unused_are_zero.Goals as goal

-- what is not used is what the length leaves
rest : (c : After-min-n)
    → let a = c.args in
    let unused = take (24 - c.min-n.result) (drop c.min-n.result a.digits) in
    every is_unused (take (length unused) unused) ≡ every is_unused (drop a.length.0 a.digits)
rest c =
    let a = c.args in
    let left = drop c.min-n.result a.digits in
    let long : 24 ≡ length a.digits = omega arith in
    let size : 24 - c.min-n.result ≡ length left = omega (arith, length-drop c.min-n.result a.digits) in
    ap (every is_unused)
    (take-length (take (24 - c.min-n.result) left) ∙ ap (λ (n : ℕ). take n left) size ∙ take-length left
    ∙ ap (λ (u : ℕ). drop u a.digits) (c.min-n.ensures ∙ ap (min a.length.0) long)
    ∙ drop_min a.length.0 a.digits)

pub loop-digit-preserved : goal.loop-digit-preserved
unfolding is_unused
loop-digit-preserved c = (
  omega arith,
  summed is_unused _ 0 c.loop-digit-test.true (omega arith) c.loop-digit.sum c.wide-sum.result
      (ap (λ (x : ℕ). eqb x 0) (sym c.wide-sum.ensures.0)) c.loop-digit.invariant.1,
)

pub returns : goal.returns
returns c =
    sum-end c.loop-digit-test.false is_unused _ c.loop-digit.sum c.loop-digit.invariant.1 ∙ rest (goal.at.returns c).After-min-n
