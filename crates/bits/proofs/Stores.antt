-- A number stored in its place: what that does to the bits. Assumes nothing.
use mathlib.Core.Path.{◌≡◌, sym, ap, ap₂, ◌∙◌, subst}
use mathlib.Core.List.{List, ◌++◌, append_assoc}
use mathlib.Core.Bool.{Bool}
use Prim.Native.Nat.{ℕ, ◌+◌, ◌-◌, ◌*◌, ◌/◌, ◌%◌, ◌^◌, ◌≤◌, ◌<◌}
use native.Mathlib.Nat.{add_assoc, add-zero, mul_assoc, mod-lt}
use native.Mathlib.Omega.{arith}
use lib.ListN.{length, take, drop, length-append, length-drop, take-append-drop}
use lib.Seq.{take_at, take-append-le, drop-append-le}
use lib.Bits.{bit_and, bit_or, and_block, and_mask, mask_lt, or_block, or_shifted, or_zero_r}
use lib.Pow.{pow_pos, pow-add, shl_exact, shr_mod, split, mod-mod-pow, ones_lt, ones_split}
use Rattle.bits.specs.Bits.{value, bits_of, bits, splice}
use Rattle.bits.proofs.Numbers.{length-bits_of, bits_of-three, bits_of_mod, bits_of-parts, bits_of_value}
use Rattle.bits.proofs.Bytes.{length-bits, bits_append, bits-take, length-bits-take}
use Rattle.bits.proofs.Splices.{splice_at, length-splice}

-- ---- a field of a number

-- the number x with its n bits above the k lowest replaced by those of f
abbrev pub within : ℕ → ℕ → ℕ → ℕ → ℕ
within x n k f = (x / 2 ^ (n + k) * 2 ^ n + f) * 2 ^ k + x % 2 ^ k

module _ (x r n k f : ℕ) (lt : f < 2 ^ n) where
  within-bits : bits_of (r + (n + k)) (within x n k f) ≡ bits_of r (x / 2 ^ (n + k)) ++ (bits_of n f ++ bits_of k x)
  within-bits =
      ap (λ (m : ℕ). bits_of m (within x n k f)) (sym (add_assoc r n k))
      ∙ bits_of-parts (r + n) k (x / 2 ^ (n + k) * 2 ^ n + f) (x % 2 ^ k) (mod-lt x (pow_pos k))
      ∙ ap₂ (λ (y z : List Bool). y ++ z) (bits_of-parts r n (x / 2 ^ (n + k)) f lt) (bits_of_mod k x)
      ∙ append_assoc (bits_of r (x / 2 ^ (n + k))) (bits_of n f) (bits_of k x)

  -- to put the number back with its field replaced is to put the field
  splice-within : (a c : List Bool) (at : ℕ) → length a ≡ at
      → splice (a ++ (bits_of (r + (n + k)) x ++ c)) at (bits_of (r + (n + k)) (within x n k f))
      ≡ splice (a ++ (bits_of (r + (n + k)) x ++ c)) (at + r) (bits_of n f)
  splice-within a c at e =
      let high : List Bool = bits_of r (x / 2 ^ (n + k)) in
      let own : List Bool = bits_of n (x / 2 ^ k) in
      let low : List Bool = bits_of k x in
      let layout : a ++ (bits_of (r + (n + k)) x ++ c) ≡ (a ++ high) ++ (own ++ (low ++ c)) =
      ap (λ (l : List Bool). a ++ (l ++ c)) (bits_of-three r n k x) ∙ simp append_assoc in
      let same : a ++ ((high ++ (bits_of n f ++ low)) ++ c) ≡ (a ++ high) ++ (bits_of n f ++ (low ++ c)) = simp append_assoc in
      splice_at a (bits_of (r + (n + k)) x) c (bits_of (r + (n + k)) (within x n k f)) at e
      (length-bits_of (r + (n + k)) x ∙ sym (length-bits_of (r + (n + k)) (within x n k f)))
      ∙ ap (λ (l : List Bool). a ++ (l ++ c)) within-bits
      ∙ same
      ∙ sym (ap (λ (l : List Bool). splice l (at + r) (bits_of n f)) layout
      ∙ splice_at (a ++ high) own (low ++ c) (bits_of n f) (at + r)
      (omega (arith, length-append a high, length-bits_of r (x / 2 ^ (n + k))))
      (length-bits_of n (x / 2 ^ k) ∙ sym (length-bits_of n f)))

-- in w bits: one mask keeps the bits of x beside the field, another those of f that replace it
module _ (x n k f w : ℕ) (hx : x < 2 ^ w) (inside : n + k ≤ w) where
  beside : bit_and x (2 ^ w - 1 - (2 ^ n - 1) * 2 ^ k) ≡ x / 2 ^ (n + k) * 2 ^ n * 2 ^ k + x % 2 ^ k
  beside =
      let r : ℕ = w - (n + k) in
      let size : w ≡ r + (n + k) = omega arith in
      let mask : 2 ^ w - 1 - (2 ^ n - 1) * 2 ^ k ≡ (2 ^ r - 1) * 2 ^ (n + k) + (2 ^ k - 1) =
      omega (arith, ap (λ (m : ℕ). 2 ^ m - 1) size, ones_split r (n + k), ones_split n k) in
      ap₂ bit_and (sym (split x (n + k))) mask
      ∙ and_block (n + k) (x / 2 ^ (n + k)) (2 ^ r - 1) (x % 2 ^ (n + k)) (2 ^ k - 1) (mod-lt x (pow_pos (n + k)))
      (omega (arith, ones_split n k, ones_lt (n + k)))
      ∙ ap₂ (λ (h l : ℕ). h * 2 ^ (n + k) + l)
      (and_mask (x / 2 ^ (n + k)) r ∙ shr_mod r (n + k) (subst (λ (m : ℕ). x < 2 ^ m) size hx))
      (and_mask (x % 2 ^ (n + k)) k ∙ mod-mod-pow x n k)
      ∙ ap (λ (h : ℕ). h + x % 2 ^ k)
      (ap (λ (p : ℕ). x / 2 ^ (n + k) * p) (pow-add 2 n k) ∙ sym (mul_assoc (x / 2 ^ (n + k)) (2 ^ n) (2 ^ k)))

  pub within_masks : bit_or (bit_and x (2 ^ w - 1 - (2 ^ n - 1) * 2 ^ k % 2 ^ w)) (bit_and f (2 ^ n - 1) * 2 ^ k % 2 ^ w) ≡ within x n k (f % 2 ^ n)
  within_masks =
      ap₂ (λ (mask own : ℕ). bit_or (bit_and x (2 ^ w - 1 - mask)) own)
      (shl_exact n k w (ones_lt n) inside)
      (shl_exact n k w (mask_lt f n) inside ∙ ap (λ (p : ℕ). p * 2 ^ k) (and_mask f n) ∙ sym (add-zero (f % 2 ^ n * 2 ^ k)))
      ∙ ap (λ (p : ℕ). bit_or p (f % 2 ^ n * 2 ^ k + 0)) beside
      ∙ or_block k (x / 2 ^ (n + k) * 2 ^ n) (f % 2 ^ n) (x % 2 ^ k) 0 (mod-lt x (pow_pos k)) (pow_pos k)
      ∙ ap₂ (λ (h l : ℕ). h * 2 ^ k + l) (or_shifted (x / 2 ^ (n + k)) n (f % 2 ^ n) (mod-lt f (pow_pos n))) (or_zero_r (x % 2 ^ k))

-- ---- eight bytes

-- the eight bytes at q stored anew with n of their bits replaced, r before those and k after
pub splice-eight : (s : List ℕ) (q r n k f : ℕ) → q + 8 ≤ length s → r + (n + k) ≡ 64 → f < 2 ^ n
    → splice (bits s) (8 * q) (bits_of 64 (within (value (bits (take 8 (drop q s)))) n k f)) ≡ splice (bits s) (8 * q + r) (bits_of n f)
splice-eight s q r n k f inside size lt =
    let t : List ℕ = drop q s in
    let own : List Bool = bits (take 8 t) in
    let x : ℕ = value own in
    let eight : length own ≡ r + (n + k) =
    length-bits-take 8 t (omega (arith, length-drop q s)) ∙ sym size in
    let layout : bits s ≡ bits (take q s) ++ (bits_of (r + (n + k)) x ++ bits (drop 8 t)) =
    ap bits (sym (take-append-drop q s)) ∙ bits_append (take q s) t
    ∙ ap (λ (l : List Bool). bits (take q s) ++ l)
    (ap bits (sym (take-append-drop 8 t)) ∙ bits_append (take 8 t) (drop 8 t)
    ∙ ap (λ (l : List Bool). l ++ bits (drop 8 t)) (sym (bits_of_value own) ∙ ap (λ (m : ℕ). bits_of m x) eight)) in
    ap₂ (λ (l : List Bool) (m : ℕ). splice l (8 * q) (bits_of m (within x n k f))) layout (sym size)
    ∙ splice-within x r n k f lt (bits (take q s)) (bits (drop 8 t)) (8 * q) (length-bits-take q s (omega arith))
    ∙ ap (λ (l : List Bool). splice l (8 * q + r) (bits_of n f)) (sym layout)

-- ---- fewer

-- put into bytes with others after them, which are then cut off
pub splice_front : (s t u : List ℕ) (at : ℕ) (new : List Bool) → length s ≤ length u → bits u ≡ splice (bits (s ++ t)) at new → at + length new ≤ 8 * length s
    → bits (take (length s) u) ≡ splice (bits s) at new
splice_front s t u at new size e inside =
    let l : List Bool = bits s in
    let fill : List Bool = bits t in
    let long : length l ≡ 8 * length s = length-bits s in
    let layout : splice (bits (s ++ t)) at new ≡ splice l at new ++ fill =
    ap (λ (x : List Bool). splice x at new) (bits_append s t)
    ∙ ap₂ (λ (x y : List Bool). x ++ (new ++ y))
    (take-append-le at l fill (omega (arith, long)))
    (drop-append-le (at + length new) l fill (omega (arith, long)))
    ∙ simp append_assoc in
    sym (bits-take (length s) u size)
    ∙ ap (take (8 * length s)) (e ∙ layout)
    ∙ take_at (splice l at new) fill (8 * length s) (length-splice l at new (omega (arith, long)) ∙ long)
