-- The windows at the two ends. Assumes nothing.
use mathlib.Core.Path.{refl, sym, ap, ◌∙◌}
use Prim.Native.Nat.{◌<◌}
use native.Mathlib.Omega.{arith}
use Rattle.bits.proofs.Windows.{window_lt}
use Rattle.walk.specs.Inner.{identity_in}
use Rattle.walk.proofs.Aheads.{off}
use Rattle.walk.proofs.Sights.{present_lt, range-ends}
use Rattle.walk.proofs.entry.range_end.Goals.{After-identity_in-first, After-identity_in-last}
use Rattle.walk.proofs.entry.range_end.Goals as goal

first-lt : (c : After-identity_in-first) → c.identity_in-first.result.present < 2
first-lt c = present_lt _ c.identity_in-first.ensures

last-lt : (c : After-identity_in-last) → c.identity_in-last.result.present < 2
last-lt c = present_lt _ c.identity_in-last.ensures

pub returns : goal.returns
returns c =
    range-ends (c.identity_in-first.ensures ∙ ap identity_in c.window.ensures) refl
    (c.identity_in-last.ensures ∙ ap identity_in c.window-2.ensures) (sym c.ends_refusal.ensures ∙ c.if-ends_refusal-ne0.false)

pub identity_in-first-requires : goal.identity_in-first-requires
identity_in-first-requires c =
    rw c.window.ensures (window_lt c.args.s.now _)

pub overflow_mul-second : goal.overflow_mul-second
overflow_mul-second c =
    omega (arith, first-lt (goal.at.overflow_mul-second c).After-identity_in-first)

pub overflow_add-second-2 : goal.overflow_add-second-2
overflow_add-second-2 c =
    omega (arith, first-lt (goal.at.overflow_add-second-2 c).After-identity_in-first)

pub identity_in-last-requires : goal.identity_in-last-requires
identity_in-last-requires c =
    rw c.window-2.ensures (window_lt c.args.s.now _)

pub returns-then-ends_refusal-ne0 : goal.returns-then-ends_refusal-ne0
returns-then-ends_refusal-ne0 c =
    off _ _ _ 4097 (omega arith)

pub overflow_add-result-2 : goal.overflow_add-result-2
overflow_add-result-2 c =
    omega (arith, first-lt (goal.at.overflow_add-result-2 c).After-identity_in-first)

pub overflow_mul-result : goal.overflow_mul-result
overflow_mul-result c =
    omega (arith, last-lt (goal.at.overflow_mul-result c).After-identity_in-last)

pub overflow_add-result-3 : goal.overflow_add-result-3
overflow_add-result-3 c =
    omega (arith, last-lt (goal.at.overflow_add-result-3 c).After-identity_in-last, first-lt (goal.at.overflow_add-result-3 c).After-identity_in-first)
