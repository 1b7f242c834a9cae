-- Each turn compares a digit. Assumes nothing.
use native.Mathlib.Omega.{arith}
use Rattle.in_place.proofs.Digits.{compared-none, compared-more, compared-other, compared-all, compared-near}
use Rattle.in_place.proofs.numbers.are_digits.Goals as goal

pub returns-then-window-digits : goal.returns-then-window-digits
returns-then-window-digits c =
    compared-other c.loop-i.invariant (omega arith) (omega arith) c.window.ensures c.if-window-digits.true

pub loop-i-preserved : goal.loop-i-preserved
loop-i-preserved c =
    compared-more c.loop-i.invariant (omega arith) (omega arith) c.window.ensures c.if-window-digits.false

pub returns : goal.returns
returns c = compared-all c.loop-i.invariant (omega arith)

pub loop-i-init : goal.loop-i-init
loop-i-init c =
    compared-none c.requires.0 c.requires.1.reads

pub overflow_mul-i : goal.overflow_mul-i
overflow_mul-i c =
    omega (arith, c.loop-i.invariant.few)

pub overflow_add-at : goal.overflow_add-at
overflow_add-at c =
    omega (arith, compared-near c.loop-i.invariant (omega arith) c.requires.1.few)
