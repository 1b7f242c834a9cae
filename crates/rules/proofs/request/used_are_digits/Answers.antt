-- The invariant: what was refused so far and what is left to test decide the answer. Assumes nothing.
use native.Mathlib.Omega.{arith}
use mathlib.Core.Path.{◌≡◌, sym, ap, ◌∙◌, subst}
use Prim.Native.Nat.{ℕ, ◌≤◌}
use lib.ListN.{length, take, length-take}
use lib.Dec.{eqb, leb}
use lib.Seq.{take-length}
use Rattle.bits.specs.Lists.{every}
use Rattle.bits.proofs.Tests.{by-test}
use Rattle.bits.proofs.Lists.{take-used}
use Rattle.grammar.specs.SiteSheet.{digit_refusal}
use Rattle.grammar.proofs.Codes.{digit-refusal}
use Rattle.rules.specs.Request.{is_digit}
use Rattle.rules.proofs.Search.{summed, sum-end}
use Rattle.rules.proofs.request.used_are_digits.Goals.{After-min-n}
use Rattle.rules.proofs.request.used_are_digits.Goals as goal

-- the places that are used have the digits that the length takes
whole : (c : After-min-n)
    → let a = c.args in
    let used = take c.min-n.result a.digits in
    every is_digit (take (length used) used) ≡ every is_digit (take a.length.0 a.digits)
whole c =
    let a = c.args in
    ap (every is_digit) (take-length (take c.min-n.result a.digits) ∙ take-used a.digits a.length.0 (omega arith) c.min-n.ensures)

small : (d : ℕ) {r : ℕ} → r ≡ digit_refusal d → r ≤ 3
small d e = subst (λ (x : ℕ). x ≤ 3) (sym (e ∙ digit-refusal d)) (by-test (λ (x : ℕ). x ≤ 3) (leb d 12) (omega arith) (omega arith))

pub loop-digit-preserved : goal.loop-digit-preserved
unfolding is_digit
loop-digit-preserved c =
    let inv = c.loop-digit.invariant in (
      omega (arith, small _ c.digit_refusal-refused.ensures),
      summed is_digit _ 0 c.loop-digit-test.true (omega arith) c.loop-digit.refused c.digit_refusal-refused.result
          (ap (λ (x : ℕ). eqb x 0) (sym c.digit_refusal-refused.ensures)) inv.1,
    )

pub returns : goal.returns
returns c =
    sum-end c.loop-digit-test.false is_digit _ c.loop-digit.refused c.loop-digit.invariant.1 ∙ whole (goal.at.returns c).After-min-n

pub overflow_add-refused : goal.overflow_add-refused
overflow_add-refused c =
    omega (arith, small _ c.digit_refusal-refused.ensures, length-take c.min-n.result c.args.digits)
