-- Numbers that were read: where they stand, and what the window there has. Assumes nothing.
use mathlib.Core.Path.{◌≡◌, refl, sym, ap, ◌∙◌}
use mathlib.Core.Bool.{Bool, true, false}
use mathlib.Core.List.{List}
use Prim.Native.Nat.{ℕ, zero, suc, ◌+◌, ◌-◌, ◌/◌, ◌%◌, ◌^◌, ◌≤◌}
use borrow.Author.Tests.{leb-true, leb-false}
use lib.ListN.{length, take, drop}
use lib.Dec.{leb}
use Rattle.bits.specs.Bits.{value}
use Rattle.bits.specs.Frame.{bits_in}
use Rattle.bits.specs.Element.{window_at}
use Rattle.bits.proofs.Tests.{never}
use Rattle.bits.proofs.Elements.{element-there, element-short}
use Rattle.codec.specs.Parts.{number, element}
use Rattle.codec.specs.Reading.{Found, got, refused, and_next, unless_at, read_at}
use Rattle.codec.proofs.Reading.{taken, read_at-number, read_at-tested}
use Rattle.codec.proofs.Windows.{number_in_window}

-- what was found by two parts, the second of which may ask what the first found
pub both_found : {A B : Type 0} {P : Type 0} (o : Found A) (k : A → ℕ → Found B) {b : B} {q : ℕ} → and_next o k ≡ got b q
    → ((a : A) (p : ℕ) → o ≡ got a p → k a p ≡ got b q → P) → P
both_found (got a p) k e f = f a p refl e
both_found (refused n p) k e f = never cc

module _ (w : ℕ) (l : List Bool) (at : ℕ) (some : 1 ≤ w) where
  pub number-there : at + w ≤ length l → read_at (number w) l at ≡ got (value (take w (drop at l))) (at + w)
  number-there h = read_at-number w l at some ∙ ap (taken at) (element-there l at w h)

  pub number-says : {v q : ℕ} → read_at (number w) l at ≡ got v q → (at + w ≤ length l) × (v ≡ value (take w (drop at l))) × (q ≡ at + w)
  number-says {v} {q} e = go (leb (at + w) (length l)) refl
    where
      go : (b : Bool) → leb (at + w) (length l) ≡ b → (at + w ≤ length l) × (v ≡ value (take w (drop at l))) × (q ≡ at + w)
      go true f = let h = leb-true (at + w) (length l) f in let g = number-there h in (h, cc, cc)
      go false f = let g = read_at-number w l at some ∙ ap (taken at) (element-short l at w (leb-false (at + w) (length l) f)) in never cc

-- an element that was read is a number that is not refused
pub element-says : (w : ℕ) (refuse : ℕ → ℕ) (l : List Bool) (at : ℕ) {v q : ℕ} → read_at (element w refuse) l at ≡ got v q
    → (read_at (number w) l at ≡ got v q) × (refuse v ≡ 0)
unfolding element
element-says w refuse l at {v} {q} e = go (read_at (number w) l at) (sym (read_at-tested (number w) refuse (λ v. 0) l at) ∙ e)
  where
    passed : (k p : ℕ) (x y : ℕ) → refuse x ≡ k → unless_at k p (got x y) ≡ got v q → (◌≡◌ {A = Found ℕ} (got x y) (got v q)) × (refuse v ≡ 0)
    passed zero p x y f g = let h : x ≡ v = cc in (g, ap refuse (sym h) ∙ f)
    passed (suc k) p x y f g = never cc

    go : (o : Found ℕ) → and_next o (λ a p. unless_at (refuse a) (at + 0) (got a p)) ≡ got v q → (o ≡ got v q) × (refuse v ≡ 0)
    go (got x y) g = passed (refuse x) (at + 0) x y refl g
    go (refused n p) g = never cc

-- a number that was read k bits into a window
pub number_is_lem : (s : List ℕ) (n at k w : ℕ) {p v q : ℕ} → read_at (number w) (bits_in n s) p ≡ got v q → p ≡ at + k → 1 ≤ w → k + w ≤ 57
    → (v ≡ window_at s at / 2 ^ (57 - k - w) % 2 ^ w) × (q ≡ p + w) × (p + w ≤ length (bits_in n s))
number_is_lem s n at k w {p} e here some inside =
    let says = number-says w (bits_in n s) p some e in
    let f = number_in_window s n at k w p (p + w) here refl some inside says.0 in
    (cc, says.2, says.0)
