-- The bits of the PDU are the first of the eight bytes. Assumes nothing.
use mathlib.Core.Path.{ap, ◌∙◌}
use Prim.Native.Nat.{ℕ}
use lib.ListN.{take}
use Rattle.bits.specs.Bits.{bits}
use Rattle.bits.proofs.Bytes.{length-bits}
use Rattle.walk.proofs.Aheads.{finds-within}
use Rattle.walk.proofs.ahead.short_ahead.Goals as goal

pub returns : goal.returns
returns c =
    let s = c.args.s.now in
    finds-within s _ (ap (λ (n : ℕ). take n (bits c.in_eight-held.result)) (length-bits s) ∙ c.in_eight-held.ensures) c.pdu_ahead.ensures
