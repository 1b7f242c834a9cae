-- As long as each number ends where it was expected to. Assumes nothing.
use mathlib.Core.Path.{refl, subst}
use Prim.Native.Nat.{ℕ}
use native.Mathlib.Omega.{arith}
use Rattle.grammar.specs.Grammar.{external}
use Rattle.walk.specs.Inner.{pass, Ends}
use Rattle.walk.proofs.Passes.{steps-count}
use Rattle.walk.proofs.Aheads.{ends_as, ends-none, ends_more}
use Rattle.walk.proofs.entry.numbers_end.Goals as goal

pub loop-init : goal.loop-init
loop-init c =
    let a = c.args in
    ends_more 0 1 refl (ends-none (pass external) a.s.now a.start) c.end-at.ensures

pub loop-preserved : goal.loop-preserved
loop-preserved c =
    ends_more _ _ refl c.loop.invariant
    (subst (λ (q : ℕ). Ends (pass external) c.args.s.now c.loop.at 4097 q) c.if-end.false c.end.ensures)

pub returns : goal.returns
returns c =
    let i = c.loop.invariant in
    ends_as (λ l r. steps-count _ r (omega arith)) (omega arith) i
