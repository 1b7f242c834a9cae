-- The bytes of the number, put in their place. Assumes nothing.
use Rattle.bits.specs.Bits.{bits, bits_of, splice}
use mathlib.Core.Path.{◌≡◌, ap, ◌∙◌}
use Prim.Native.Nat.{◌+◌, ◌-◌, ◌*◌}
use native.Mathlib.Omega.{arith}
use lib.ListN.{length}
use Rattle.bits.proofs.Loads.{bits-eight, bits-part}
use Rattle.bits.proofs.set_eight.Goals as goal

pub returns : goal.returns
returns c =
    let a = c.args in
    let s = a.buf.now in
    let part = c.copy_from_slice.new.self in
    let new : bits part ≡ bits_of 64 a.x =
    ap bits (c.copy_from_slice.ensures.after ∙ c.to_be_bytes.ensures) ∙ bits-eight a.x (omega arith) in
    let size : length part ≡ 8 = ap length (c.copy_from_slice.ensures.after ∙ c.to_be_bytes.ensures) in
    bits-part s part a.from (a.from + 8 - a.from) (omega arith) (omega (arith, size))
    ∙ ap (splice (bits s) (8 * a.from)) new
