-- An identity from one window. Assumes nothing.
use native.Mathlib.Omega.{arith}
use Rattle.bits.proofs.Bytes.{length-bits}
use Rattle.reader.proofs.Elements.{plain-read, wide_read, identity-short, identity-long}
use Rattle.in_place.proofs.identities.entry_at.Goals as goal

pub overflow_add-result : goal.overflow_add-result
overflow_add-result c =
    omega (arith, c.requires.few, length-bits c.args.s.now, identity-long _ _ c.requires.reads c.window-window.ensures c.if-window-eq1.true)

pub returns-then-window-eq1 : goal.returns-then-window-eq1
returns-then-window-eq1 c =
    record { same = wide_read _ _ c.requires.reads c.window-window.ensures c.if-window-eq1.true }

pub overflow_add-result-2 : goal.overflow_add-result-2
overflow_add-result-2 c =
    omega (arith, c.requires.few, length-bits c.args.s.now, identity-short _ _ c.requires.reads)

pub returns : goal.returns
returns c =
    record { same = plain-read _ _ c.requires.reads c.window-window.ensures (omega (arith, c.if-window-eq1.false)) }
