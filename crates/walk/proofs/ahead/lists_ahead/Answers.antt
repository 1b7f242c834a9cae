-- Three lists, one after the other; that all three are empty is read off one window. Assumes nothing.
use mathlib.Core.Path.{refl, sym, ap, ◌∙◌}
use Prim.Native.Nat.{ℕ, ◌/◌, ◌^◌}
use native.Mathlib.Omega.{arith}
use Rattle.walk.specs.Inner.{lists}
use Rattle.walk.proofs.Aheads.{ends_as, ends-then}
use Rattle.walk.proofs.Sights.{empty-lists}
use Rattle.walk.proofs.ahead.lists_ahead.Goals as goal

pub returns-then-window-eq0 : goal.returns-then-window-eq0
returns-then-window-eq0 g c = empty-lists g.met.E.Listed.empty (ap (λ (w : ℕ). w / 2 ^ 45) (sym c.window.ensures) ∙ c.if-window-eq0.true) (omega arith)

pub returns : goal.returns
unfolding lists
returns g c = ends-then (ends-then c.list_ahead.ensures c.list_ahead-2.ensures) c.list_ahead-3.ensures
