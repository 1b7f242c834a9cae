-- Numbers that stand in one window of a PDU. Assumes nothing.
use mathlib.Core.Path.{◌≡◌, sym, ap, ap₂, ◌∙◌}
use mathlib.Core.List.{List}
use mathlib.Core.Bool.{Bool}
use Prim.Native.Nat.{ℕ, ◌+◌, ◌-◌, ◌*◌, ◌/◌, ◌%◌, ◌^◌, ◌≤◌}
use native.Mathlib.Omega.{arith}
use lib.ListN.{length, take, drop, length-take}
use Rattle.bits.specs.Bits.{bits, value}
use Rattle.bits.specs.Frame.{bits_in}
use Rattle.bits.specs.Element.{window_at}
use Rattle.bits.proofs.Bytes.{length-bits, take-before}
use Rattle.bits.proofs.Elements.{element-there}
use Rattle.bits.proofs.Windows.{window-part}
use Rattle.codec.specs.Parts.{number}
use Rattle.codec.specs.Reading.{Found, got, read_at}
use Rattle.codec.proofs.Reading.{taken, read_at-number}

-- the number of the w bits from p to q, where p is k bits after the window's place
pub number_in_window : (s : List ℕ) (n at k w p q : ℕ) → p ≡ at + k → q ≡ p + w → 1 ≤ w → k + w ≤ 57 → q ≤ length (bits_in n s)
    → read_at (number w) (bits_in n s) p ≡ got (window_at s at / 2 ^ (57 - k - w) % 2 ^ w) q
number_in_window s n at k w p q ep eq wide inside there =
    let l : List Bool = bits_in n s in
    let size : length (bits s) ≡ 8 * length s = length-bits s in
    let cut : length l ≡ _ = length-take n (bits s) in
    read_at-number w l p wide
    ∙ ap (taken p) (element-there l p w (omega arith))
    ∙ ap₂ {C = Found ℕ} got
    (ap value (take-before (bits s) p w n (omega arith) (omega arith) ∙ ap (λ (x : ℕ). take w (drop x (bits s))) ep)
    ∙ sym (window-part s at k w inside (omega arith)))
    (sym eq)
