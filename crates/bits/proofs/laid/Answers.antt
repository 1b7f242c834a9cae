-- What is computed has these bits, and no step before the shifts is over 64. Assumes nothing.
use mathlib.Core.Path.{ap, sym, subst, ◌∙◌}
use Prim.Native.Nat.{ℕ, ◌+◌, ◌-◌, ◌*◌, ◌/◌, ◌%◌, ◌^◌, ◌<◌}
use native.Mathlib.Omega.{arith}
use lib.Pow.{pow_pos}
use Rattle.bits.specs.Bits.{bits_of}
use Rattle.bits.proofs.Lays.{high_lt, headed-fits, headed-bits}
use Rattle.bits.proofs.laid.Goals.{After-pow2-size}
use Rattle.bits.proofs.laid.Goals as goal

some : (c : After-pow2-size) → 0 < c.pow2-size.result
some c = omega (arith, c.pow2-size.ensures, pow_pos c.args.n)

fits : (c : After-pow2-size) → let a = c.args in let size = c.pow2-size.result in
    (a.held / 2 ^ (8 - a.r) < 256) × (a.held / 2 ^ (8 - a.r) * size + a.f % size < 2 ^ 64)
fits c =
    let a = c.args in
    let p = c.requires in (
      high_lt a.held a.r a.n a.f (omega arith) p.0 p.1,
      subst (λ (size : ℕ). a.held / 2 ^ (8 - a.r) * size + a.f % size < 2 ^ 64) (sym c.pow2-size.ensures)
          (headed-fits a.held a.r a.n a.f (omega arith) p.0 p.1),
    )

pub returns : goal.returns
returns c =
    let a = c.args in
    let p = c.requires in
    ap (λ (size : ℕ). bits_of 64 ((a.held / 2 ^ (8 - a.r) * size + a.f % size) * 2 ^ (57 - a.n) % 2 ^ 64 * 2 ^ (7 - a.r) % 2 ^ 64))
    c.pow2-size.ensures
    ∙ headed-bits a.held a.r a.n a.f (omega arith) p.0 p.1

pub overflow_mul-result : goal.overflow_mul-result
overflow_mul-result c =
    omega (arith, fits c)

pub nonzero_rem-result : goal.nonzero_rem-result
nonzero_rem-result c = some c

pub overflow_add-result : goal.overflow_add-result
overflow_add-result c =
    omega (arith, fits c)
