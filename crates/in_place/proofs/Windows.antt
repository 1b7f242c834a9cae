-- A number that is read is what a window has of it. Assumes nothing.
use mathlib.Core.Path.{◌≡◌, ap, ◌∙◌}
use mathlib.Core.List.{List}
use Prim.Native.Nat.{ℕ, ◌+◌, ◌-◌, ◌/◌, ◌%◌, ◌^◌, ◌≤◌}
use Rattle.bits.specs.Bits.{bits}
use Rattle.bits.specs.Element.{window_at}
use Rattle.codec.specs.Parts.{number}
use Rattle.reader.specs.Inner.{Read}
use Rattle.reader.proofs.Elements.{number-there, number-front, number-inside}

module _ (s : List ℕ) (at : ℕ) {x : ℕ} (e : x ≡ window_at s at) (w : ℕ) (some : 1 ≤ w) where
  -- at the window's place
  pub front-is : {v end : ℕ} → w ≤ 57 → Read (number w) (bits s) at v end → x / 2 ^ (57 - w) ≡ v
  front-is h r = ap (λ (y : ℕ). y / 2 ^ (57 - w)) e ∙ cc (number-front s at w some h (number-there (bits s) at w some r.same), r.same)

  -- k bits after it
  pub inside_is : (k : ℕ) {p v end : ℕ} → p ≡ at + k → k + w ≤ 57 → Read (number w) (bits s) p v end → x / 2 ^ (57 - k - w) % 2 ^ w ≡ v
  inside_is k ep h r = cc (number-inside s at w k ep some h (number-there (bits s) _ w some r.same) e, r.same)
