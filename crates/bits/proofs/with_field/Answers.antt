-- What is masked and put together is the number with its field replaced. Assumes nothing.
use mathlib.Core.Path.{◌∙◌, ap}
use Prim.Native.Nat.{ℕ, ◌-◌, ◌*◌, ◌%◌, ◌^◌}
use native.Mathlib.Omega.{arith}
use lib.Bits.{bit_and, bit_or}
use lib.Pow.{pow_pos}
use Rattle.bits.proofs.Stores.{within_masks}
use Rattle.bits.proofs.with_field.Goals as goal

pub returns : goal.returns
returns c =
    let a = c.args in
    ap (λ (size : ℕ). bit_or (bit_and a.x (2 ^ 64 - 1 - (size - 1) * 2 ^ a.k % 2 ^ 64)) (bit_and a.f (size - 1) * 2 ^ a.k % 2 ^ 64))
    c.pow2-ones.ensures
    ∙ within_masks a.x a.n a.k a.f 64 c.ranges.x.fits c.requires.2

pub overflow_sub-ones : goal.overflow_sub-ones
overflow_sub-ones c =
    omega (arith, c.pow2-ones.ensures, pow_pos c.args.n)
