-- A byte's share of one bit. Assumes nothing.
use mathlib.Core.Path.{◌≡◌, ◌∙◌, ap, sym}
use Prim.Native.Nat.{ℕ, ◌+◌, ◌-◌, ◌*◌, ◌/◌, ◌%◌, ◌^◌}
use native.Mathlib.Omega.{arith}
use lib.ListN.{take, drop, get_or}
use Rattle.bits.specs.Bits.{bits, value}
use Rattle.bits.proofs.Numbers.{value-bits_of}
use Rattle.bits.proofs.Shares.{read-within}
use Rattle.bits.proofs.Windows.{none-there}
use Rattle.bits.proofs.bit_at.Goals as goal

pub returns-then-s-at : goal.returns-then-s-at
returns-then-s-at c = let a = c.args in sym (none-there a.s.now a.at 1 (omega arith))

pub returns : goal.returns
returns c =
    let a = c.args in
    let s = a.s.now in
    let k : ℕ = 7 - a.at % 8 in
    let place : 8 * (a.at / 8) + a.at % 8 ≡ a.at = omega arith in
    sym (ap (λ (x : ℕ). value (take 1 (drop x (bits s)))) (sym place)
    ∙ ap value (read-within s (a.at / 8) (a.at % 8) 1 k (omega arith) (omega arith))
    ∙ value-bits_of 1 (get_or s (a.at / 8) 0 / 2 ^ k))
