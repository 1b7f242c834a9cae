-- One entry after the other. Assumes nothing.
use mathlib.Core.Path.{refl}
use native.Mathlib.Omega.{arith}
use Rattle.walk.specs.Inner.{pass}
use Rattle.walk.proofs.Passes.{steps-count}
use Rattle.walk.proofs.Aheads.{ends_as, ends-none, ends_more}
use Rattle.walk.proofs.ahead.mixed.Goals as goal

pub loop-init : goal.loop-init
loop-init g c = ends-none (pass g.E.Entry.part) _ _

pub loop-preserved : goal.loop-preserved
loop-preserved g c = ends_more _ _ refl c.loop.invariant c.end-at.ensures

pub returns : goal.returns
returns g c = ends_as (λ l r. steps-count _ r (omega arith)) (omega arith) c.loop.invariant
