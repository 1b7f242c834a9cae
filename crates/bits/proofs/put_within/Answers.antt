-- The eight bytes that hold the bits are read, changed and stored. Assumes nothing.
use mathlib.Core.Path.{◌≡◌, ◌∙◌, ap, ap₂}
use Prim.Native.Nat.{ℕ, ◌+◌, ◌-◌, ◌*◌, ◌%◌, ◌^◌}
use native.Mathlib.Nat.{mod-lt}
use native.Mathlib.Omega.{arith}
use lib.Pow.{pow_pos}
use Rattle.bits.specs.Bits.{bits, bits_of, splice}
use Rattle.bits.proofs.Numbers.{bits_of_mod}
use Rattle.bits.proofs.Stores.{within, splice-eight}
use Rattle.bits.proofs.put_within.Goals as goal

pub returns : goal.returns
returns c =
    let a = c.args in
    let s = a.buf.now in
    let n : ℕ = a.width in
    let first : ℕ = c.min-first.result in
    let r : ℕ = a.at - 8 * first in
    let k : ℕ = 64 - r - n in
    let f : ℕ = a.element % 2 ^ n in
    let place : 8 * first + r ≡ a.at = omega (arith, c.min-first.ensures) in
    c.set_eight.ensures
    ∙ ap (λ (x : ℕ). splice (bits s) (8 * first) (bits_of 64 x)) (c.with_field.ensures ∙ ap (λ (x : ℕ). within x n k f) c.eight-old.ensures)
    ∙ splice-eight s first r n k f (omega (arith, c.min-first.ensures)) (omega (arith, c.min-first.ensures)) (mod-lt a.element (pow_pos n))
    ∙ ap₂ (splice (bits s)) place (bits_of_mod n a.element)
