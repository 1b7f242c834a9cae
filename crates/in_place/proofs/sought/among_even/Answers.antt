-- As long as each entry ends where it was expected to. Assumes nothing.
use mathlib.Core.Path.{refl, subst}
use Prim.Native.Nat.{ℕ}
use native.Mathlib.Omega.{arith}
use Rattle.bits.specs.Bits.{bits}
use Rattle.in_place.specs.Inner.{Says}
use Rattle.in_place.proofs.Among.{along-none, along-next, along-more, along-all}
use Rattle.in_place.proofs.sought.among_even.Goals as goal

pub at-entry-requires : goal.at-entry-requires
at-entry-requires g c =
    record { few = c.requires.1.few; reads = along-next c.loop.invariant (omega arith) }

pub loop-preserved : goal.loop-preserved
loop-preserved g c =
    let a = c.args in
    let e = g.S.Sought in
    along-more c.loop.invariant (omega arith)
    (subst (λ (q : ℕ). Says e.part (e.is a.sought) (bits a.s.now) c.loop.at c.at-entry.result.has q) c.if-entry-end.false c.at-entry.ensures)
    refl

pub returns : goal.returns
returns g c = along-all c.loop.invariant (omega arith) (g.met.S.Sought.blank.read _)

pub loop-init : goal.loop-init
loop-init g c = along-none c.requires.0 c.requires.1.reads

pub returns-then-entry-end : goal.returns-then-entry-end
returns-then-entry-end g c = c.among.ensures
