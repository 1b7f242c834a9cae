-- The bits that are not used go out at the low end, and zeros come back. Assumes nothing.
use mathlib.Core.Path.{◌≡◌, subst}
use Prim.Native.Nat.{ℕ, ◌+◌, ◌-◌, ◌^◌, ◌<◌}
use native.Mathlib.Omega.{arith}
use lib.Pow.{shl_exact, shr_lt}
use Rattle.reader.specs.Inner.{held_in}
use Rattle.reader.proofs.stores.held.Goals as goal

pub returns : goal.returns
unfolding held_in
returns c =
    let a = c.args in
    let front : ℕ = a.skip + a.used in
    let back : ℕ = 57 - a.skip - a.used in
    let size : 57 ≡ front + back = omega arith in
    shl_exact front (a.whole - a.used) 64 (shr_lt front back (subst (λ (x : ℕ). a.window < 2 ^ x) size c.requires.0)) (omega arith)
