-- What the cursor takes and what put leaves, by cases. Assumes nothing.
use Rattle.std.specs.Prelude.{Some, None}
use mathlib.Core.Path.{◌≡◌, refl, ap, ◌∙◌}
use mathlib.Core.List.{List}
use mathlib.Core.Bool.{Bool, true, false, ◌&&◌}
use Prim.Native.Nat.{ℕ, ◌+◌, ◌*◌, ◌≤◌, ◌<◌}
use native.Mathlib.Omega.{arith}
use borrow.Author.Tests.{le-leb, lt-leb}
use lib.ListN.{length, take, drop, length-take}
use lib.Dec.{leb}
use Rattle.bits.specs.Bits.{bits, value, bits_of, splice}
use Rattle.bits.specs.Frame.{bits_in}
use Rattle.bits.specs.Element.{element_at, taken_at, has_room, put_at}
use Rattle.bits.proofs.Tests.{same-pick}
use Rattle.bits.proofs.Bytes.{length-bits, take-before}

-- ---- taken

pub element-there : (l : List Bool) (at w : ℕ) → at + w ≤ length l → element_at l at w ≡ Some (value (take w (drop at l)), record { at = at + w })
unfolding element_at
element-there l at w h = rw (le-leb (at + w) (length l) h)

pub element-short : (l : List Bool) (at w : ℕ) → length l < at + w → element_at l at w ≡ None
unfolding element_at
element-short l at w h = rw (lt-leb (at + w) (length l) h)

take-element : (s : List ℕ) (n at w : ℕ) → 1 ≤ w → w ≤ 32 → taken_at s n at w ≡ element_at (bits_in n s) at w
unfolding taken_at
take-element s n at w l h = rw (le-leb 1 w l, le-leb w 32 h)

pub take_none : (s : List ℕ) (n at : ℕ) → taken_at s n at 0 ≡ None
unfolding taken_at
take_none s n at = refl

pub take-wide : (s : List ℕ) (n at w : ℕ) → 32 < w → taken_at s n at w ≡ None
unfolding taken_at
take-wide s n at w h = rw (le-leb 1 w (omega arith), lt-leb w 32 h)

pub take_short : (s : List ℕ) (n at w : ℕ) → length (bits_in n s) < at + w → taken_at s n at w ≡ None
unfolding taken_at
take_short s n at w h = rw (element-short (bits_in n s) at w h) (same-pick (leb 1 w && leb w 32) None)

pub take-there : (s : List ℕ) (n at w : ℕ) → 1 ≤ w → w ≤ 32 → at + w ≤ n → at + w ≤ 8 * length s
    → taken_at s n at w ≡ Some (value (take w (drop at (bits s))), record { at = at + w })
take-there s n at w l h k m =
    take-element s n at w l h
    ∙ element-there (bits_in n s) at w (omega (arith, length-take n (bits s), length-bits s))
    ∙ ap (λ (x : List Bool). Some (value x, record { at = at + w })) (take-before (bits s) at w n k (omega (arith, length-bits s)))

-- ---- put

module _ (s : List ℕ) (at w : ℕ) where
  pub room : w ≤ 57 → at + w ≤ 8 * length s → has_room s at w ≡ true
  room h k = rw (le-leb w 57 h, le-leb (at + w) (8 * length s) k)

  pub no_room-wide : 57 < w → has_room s at w ≡ false
  no_room-wide h = rw (lt-leb w 57 h)

  pub no_room : w ≤ 57 → 8 * length s < at + w → has_room s at w ≡ false
  no_room h k = rw (le-leb w 57 h, lt-leb (at + w) (8 * length s) k)

  pub put-there : (v : ℕ) → has_room s at w ≡ true → put_at s at w v ≡ splice (bits s) at (bits_of w v)
  put-there v e = rw e

  pub put-nothing : (v : ℕ) → has_room s at w ≡ false → put_at s at w v ≡ bits s
  put-nothing v e = rw e
