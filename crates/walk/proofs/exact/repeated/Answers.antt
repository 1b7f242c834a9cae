-- A part at a time; the first refusal ends it. Assumes nothing.
use mathlib.Core.Path.{◌≡◌, sym, ap, ap₂, ◌∙◌}
use Prim.Native.Nat.{◌+◌, ◌-◌}
use native.Mathlib.Omega.{arith}
use Rattle.codec.proofs.Onward.{exit}
use Rattle.walk.specs.Inner.{steps}
use Rattle.walk.proofs.Passes.{steps_next, steps-stay, steps-none}
use Rattle.walk.proofs.exact.repeated.Goals as goal

pub returns-in_err-at : goal.returns-in_err-at
returns-in_err-at g c step calls stays =
    exit c.from_residual.ensures.1
    ∙ sym (c.loop.invariant.1 step calls stays
    ∙ steps_next step _ _ (omega (arith, c.loop-test.true))
    ∙ ap (steps step _) (sym (calls c.loop.at _ c.in_err-at.ensures))
    ∙ steps-stay step _ _ stays)

pub loop-preserved : goal.loop-preserved
loop-preserved g c = (
  omega (arith, c.loop.invariant.0, c.loop-test.true),
  λ step calls stays.
      let less : c.args.count - c.loop.counter - 1 ≡ c.args.count - (c.loop.counter + 1) = omega arith in
      c.loop.invariant.1 step calls stays
      ∙ steps_next step _ _ (omega (arith, c.loop-test.true))
      ∙ ap₂ (steps step) less (sym (calls c.loop.at _ c.in_ok-at.ensures)),
)

pub returns : goal.returns
returns g c step calls stays = sym (c.loop.invariant.1 step calls stays ∙ steps-none _ _ _ (omega (arith, c.loop.invariant.0, c.loop-test.false)))
