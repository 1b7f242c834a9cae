-- Byte by byte: those passed are the given ones, the others as they were. Assumes nothing.
use mathlib.Core.Path.{refl, ◌∙◌}
use native.Mathlib.Omega.{arith}
use Rattle.text.proofs.Copies.{copied-one, copied_all}
use Rattle.text.proofs.copy.Goals as goal

pub loop-i-init : goal.loop-i-init
loop-i-init c =
    refl

pub loop-i-preserved : goal.loop-i-preserved
loop-i-preserved c =
    let l = c.loop-i in
    let a = c.args in
    rw l.invariant (copied-one a.bytes.now a.part.now l.i (omega arith) (omega arith))

pub returns : goal.returns
returns c =
    let a = c.args in
    c.loop-i.invariant ∙ copied_all a.bytes.now a.part.now c.loop-i.i (omega arith) (omega arith)
