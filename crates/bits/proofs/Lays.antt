-- An element laid in eight bytes, zeros after it: the number that is stored, and what that does to the bits. Assumes nothing.
use mathlib.Core.Path.{◌≡◌, sym, ap, ap₂, ◌∙◌, subst}
use mathlib.Core.List.{List, ◌++◌, append_assoc}
use mathlib.Core.Bool.{Bool, true, false}
use Prim.Native.Nat.{ℕ, ◌+◌, ◌-◌, ◌*◌, ◌/◌, ◌%◌, ◌^◌, ◌≤◌, ◌<◌}
use native.Mathlib.Nat.{add-zero, mul_assoc, mod-lt, lt_of_lt_of_le}
use native.Mathlib.Omega.{arith}
use borrow.Author.Tests.{leb-true}
use lib.ListN.{length, get_or, take, drop}
use lib.Arith.{digits_lt}
use lib.Dec.{leb}
use lib.Pow.{pow_pos, pow-add, pow_mono, shr_lt, shl_exact}
use Rattle.bits.specs.Bits.{bits_of, bits, splice}
use Rattle.bits.specs.Element.{put_at, has_eight, lay_at}
use Rattle.bits.proofs.Tests.{both, by-test}
use Rattle.bits.proofs.Numbers.{length-bits_of, bits_of_mod, bits_of-parts, bits_of-join}
use Rattle.bits.proofs.Bytes.{length-bits}
use Rattle.bits.proofs.Splices.{splice-same, take-splice}
use Rattle.bits.proofs.Shares.{read-within}
use Rattle.bits.proofs.Elements.{room, put-there}

-- ---- the number

-- the first r bits of a byte, and the n low bits of f
abbrev pub headed : ℕ → ℕ → ℕ → ℕ → ℕ
headed b r n f = b / 2 ^ (8 - r) * 2 ^ n + f % 2 ^ n

module _ (b r n f : ℕ) (byte : b < 256) (inside : r < 8) (few : n ≤ 57) where
  headed_lt : headed b r n f < 2 ^ (r + n)
  headed_lt =
      let whole : r + (8 - r) ≡ 8 = omega arith in
      subst (λ (m : ℕ). headed b r n f < m) (sym (pow-add 2 r n))
      (digits_lt (shr_lt r (8 - r) (subst (λ (m : ℕ). b < 2 ^ m) (sym whole) byte)) (mod-lt f (pow_pos n)))

  pub high_lt : b / 2 ^ (8 - r) < 256
  high_lt =
      let whole : r + (8 - r) ≡ 8 = omega arith in
      lt_of_lt_of_le (shr_lt r (8 - r) (subst (λ (m : ℕ). b < 2 ^ m) (sym whole) byte)) (pow_mono {j = 8} (omega arith))

  -- it is no wider than 64 bits
  pub headed-fits : headed b r n f < 2 ^ 64
  headed-fits = lt_of_lt_of_le headed_lt (pow_mono {j = 64} (omega arith))

  -- shifted to the beginning of 64 bits
  pub headed-bits : bits_of 64 (headed b r n f * 2 ^ (57 - n) % 2 ^ 64 * 2 ^ (7 - r) % 2 ^ 64)
      ≡ bits_of r (b / 2 ^ (8 - r)) ++ (bits_of n f ++ bits_of (64 - r - n) 0)
  headed-bits =
      let x : ℕ = headed b r n f in
      let k : ℕ = 64 - r - n in
      let after : 57 - n + (7 - r) ≡ k = omega arith in
      let whole : 64 ≡ r + n + k = omega arith in
      let shifted : x * 2 ^ (57 - n) * 2 ^ (7 - r) ≡ x * 2 ^ k + 0 =
      mul_assoc x (2 ^ (57 - n)) (2 ^ (7 - r))
      ∙ ap (λ (m : ℕ). x * m) (sym (pow-add 2 (57 - n) (7 - r)) ∙ ap (λ (m : ℕ). 2 ^ m) after)
      ∙ sym (add-zero (x * 2 ^ k)) in
      bits_of_mod 64 (x * 2 ^ (57 - n) % 2 ^ 64 * 2 ^ (7 - r))
      ∙ ap (λ (m : ℕ). bits_of 64 (m * 2 ^ (7 - r))) (shl_exact (r + n) (57 - n) 64 headed_lt (omega arith))
      ∙ ap₂ bits_of whole shifted
      ∙ bits_of-parts (r + n) k x 0 (pow_pos k)
      ∙ ap (λ (l : List Bool). l ++ bits_of k 0) (bits_of-join r n (b / 2 ^ (8 - r)) f)
      ∙ append_assoc (bits_of r (b / 2 ^ (8 - r))) (bits_of n f) (bits_of k 0)

-- ---- the bits

module _ (s : List ℕ) (at w v : ℕ) where
  -- where it is laid there is room
  pub eight-room : has_eight (length s) at w ≡ true → (w ≤ 57) × (at / 8 + 8 ≤ length s)
  eight-room e =
      let h = both (leb w 57) (leb (at / 8 + 8) (length s)) e in
      (leb-true w 57 h.0, leb-true (at / 8 + 8) (length s) h.1)

  -- to store the eight bytes anew, with what stood before the place in its byte, is to lay
  pub splice-laid : (x : ℕ) (new : List Bool) → has_eight (length s) at w ≡ true
      → bits_of 64 x ≡ bits_of (at % 8) (get_or s (at / 8) 0 / 2 ^ (8 - at % 8)) ++ new
      → splice (bits s) (8 * (at / 8)) (bits_of 64 x) ≡ splice (bits s) at new
  splice-laid x new e same =
      let l : List Bool = bits s in
      let q : ℕ = at / 8 in
      let r : ℕ = at % 8 in
      let h : List Bool = bits_of r (get_or s q 0 / 2 ^ (8 - r)) in
      let f = eight-room e in
      let size : length h ≡ r = length-bits_of r (get_or s q 0 / 2 ^ (8 - r)) in
      let held : h ≡ take (length h) (drop (8 * q) l) =
      sym (ap₂ (λ (n p : ℕ). take n (drop p l)) size (sym (add-zero (8 * q)))
      ∙ read-within s q 0 r (8 - r) (omega (arith, f.1)) (omega arith)) in
      let place : 8 * q + length h ≡ at = omega (arith, size) in
      ap (splice l (8 * q)) same
      ∙ splice-same l (8 * q) h new (omega (arith, f.1, length-bits s)) held
      ∙ ap (λ (n : ℕ). splice l n new) place

  pub lay-there : has_eight (length s) at w ≡ true → lay_at s at w v ≡ splice (bits s) at (bits_of w v ++ bits_of (64 - at % 8 - w) 0)
  lay-there e = rw e

  pub lay-put : has_eight (length s) at w ≡ false → lay_at s at w v ≡ put_at s at w v
  lay-put e = rw e

  -- laid or put, up to its end it stands after what stood before it
  pub lay-front : w ≤ 57 → at + w ≤ 8 * length s → take (at + w) (lay_at s at w v) ≡ take at (bits s) ++ bits_of w v
  lay-front few fits =
      let l : List Bool = bits s in
      let zeros : List Bool = bits_of (64 - at % 8 - w) 0 in
      let before : at ≤ length l = omega (arith, length-bits s) in
      by-test (λ x. take (at + w) x ≡ take at l ++ bits_of w v) (has_eight (length s) at w)
      (ap (λ x. take (at + w) (take at l ++ x)) (append_assoc (bits_of w v) zeros (drop (at + length (bits_of w v ++ zeros)) l))
      ∙ take-splice l at w (bits_of w v) (zeros ++ drop (at + length (bits_of w v ++ zeros)) l) before (length-bits_of w v))
      (ap (take (at + w)) (put-there s at w v (room s at w few fits))
      ∙ take-splice l at w (bits_of w v) (drop (at + length (bits_of w v)) l) before (length-bits_of w v))
