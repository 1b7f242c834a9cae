-- A window of 57 bits: any bits of it, by a division and a remainder, and how eight bytes hold it. Assumes nothing.
use mathlib.Core.Path.{◌≡◌, refl, sym, ap, ap₂, ◌∙◌, subst}
use mathlib.Core.List.{List, [], ◌∷◌, ◌++◌, append_assoc}
use mathlib.Core.Bool.{Bool, true, false}
use Prim.Native.Nat.{ℕ, zero, suc, ◌+◌, ◌-◌, ◌*◌, ◌/◌, ◌%◌, ◌^◌, ◌≤◌, ◌<◌}
use native.Mathlib.Nat.{add-zero}
use native.Mathlib.Omega.{arith}
use lib.ListN.{length, take, drop, replicate, length-drop, drop_of_length-le, take-append-drop, length-append, length-replicate, replicate-append-replicate}
use lib.Seq.{take-add, drop-drop, length-take-le, take_all, take-append-le, drop-append-le, take-nil, drop-nil}
use lib.Pow.{high, low, field, shr_mod}
use lib.Dec.{leb}
use borrow.Author.Tests.{leb-true, leb-false}
use Rattle.bits.specs.Bits.{value, bits_of, bits}
use Rattle.bits.specs.Element.{window_at}
use Rattle.bits.proofs.Lists.{length_part}
use Rattle.bits.proofs.Numbers.{value_append, value_lt, value-take-fits}
use Rattle.bits.proofs.Bytes.{length-bits, bits_append, bits-take, bits-drop, take-before, length-bits-take}

-- the middle of a run, by a division and a remainder
value-middle : (a b c : List Bool) (w k : ℕ) → length b ≡ w → length c ≡ k → value ((a ++ b) ++ c) / 2 ^ k % 2 ^ w ≡ value b
value-middle a b c w k eb ec =
    ap₂ (λ (x y : ℕ). value ((a ++ b) ++ c) / 2 ^ x % 2 ^ y) (sym ec) (sym eb)
    ∙ ap (λ (x : ℕ). x / 2 ^ length c % 2 ^ length b) (value_append (a ++ b) c)
    ∙ ap (λ (x : ℕ). x % 2 ^ length b) (high (value (a ++ b)) (length c) (value_lt c) ∙ value_append a b)
    ∙ low (value a) (length b) (value_lt b)

-- any w bits of a run of n
value-part : (l : List Bool) (k w n : ℕ) → k + w ≤ n → length l ≡ n → value l / 2 ^ (n - k - w) % 2 ^ w ≡ value (take w (drop k l))
value-part l k w n inside size =
    let whole : l ≡ (take k l ++ take w (drop k l)) ++ drop (k + w) l =
    sym (take-append-drop (k + w) l) ∙ ap (λ (x : List Bool). x ++ drop (k + w) l) (take-add k w l) in
    ap (λ (x : List Bool). value x / 2 ^ (n - k - w) % 2 ^ w) whole
    ∙ value-middle (take k l) (take w (drop k l)) (drop (k + w) l) w (n - k - w)
    (length_part l k w (omega arith)) (omega (arith, length-drop (k + w) l))

-- ---- zeros after a run

value-zeros : (n : ℕ) → value (replicate n false) ≡ 0
unfolding value
value-zeros zero = refl
value-zeros (suc n) = omega (arith, value-zeros n)

take-zeros : (n m : ℕ) → n ≤ m → take n (replicate m false) ≡ replicate n false
take-zeros zero m h = refl
take-zeros (suc n) zero h = absurd (omega arith)
take-zeros (suc n) (suc m) h = ap {B = List Bool} (λ l. false ∷ l) (take-zeros n m (omega arith))

-- enough of them is as many as one likes
enough : (w m k : ℕ) (x : List Bool) → w ≤ m → w ≤ k → take w (x ++ replicate m false) ≡ take w (x ++ replicate k false)
enough w m k [] hm hk = take-zeros w m hm ∙ sym (take-zeros w k hk)
enough zero m k (b ∷ x) hm hk = refl
enough (suc w) m k (b ∷ x) hm hk = ap {B = List Bool} (λ l. b ∷ l) (enough w m k x (omega arith) (omega arith))

-- zeros that stand there already change nothing
zeros-there : (w k at : ℕ) (l : List Bool) → take w (drop at (l ++ replicate k false) ++ replicate w false) ≡ take w (drop at l ++ replicate w false)
zeros-there w k zero l =
    ap (take w) (append_assoc l (replicate k false) (replicate w false) ∙ ap (λ (z : List Bool). l ++ z) (replicate-append-replicate k w false))
    ∙ enough w (k + w) w l (omega arith) (omega arith)
zeros-there w zero (suc at) [] = refl
zeros-there w (suc k) (suc at) [] = zeros-there w k at [] ∙ ap (λ (x : List Bool). take w (x ++ replicate w false)) (drop-nil at)
zeros-there w k (suc at) (b ∷ l) = zeros-there w k at l

-- ---- the window

bits-zeros : (k : ℕ) → bits (replicate k 0) ≡ replicate (8 * k) false
unfolding bits bits_of
bits-zeros zero = refl
bits-zeros (suc k) =
    ap (λ (l : List Bool). bits_of 8 0 ++ l) (bits-zeros k)
    ∙ replicate-append-replicate 8 (8 * k) false
    ∙ (let size : 8 + 8 * k ≡ 8 * suc k = omega arith in ap (λ (n : ℕ). replicate n false) size)

pub none-there : (s : List ℕ) (at w : ℕ) → 8 * length s ≤ at → value (take w (drop at (bits s))) ≡ 0
unfolding value
none-there s at w h = ap (λ (l : List Bool). value (take w l)) (drop_of_length-le (bits s) {i = at} (omega (arith, length-bits s))) ∙ ap value (take-nil w)

module _ (s : List ℕ) (at : ℕ) where
  -- zero bytes after the end change nothing
  pub window_padded : (k : ℕ) → window_at (s ++ replicate k 0) at ≡ window_at s at
  unfolding window_at
  window_padded k =
      ap (λ (l : List Bool). value (take 57 (drop at l ++ replicate 57 false)))
      (bits_append s (replicate k 0) ∙ ap (λ (l : List Bool). bits s ++ l) (bits-zeros k))
      ∙ ap value (zeros-there 57 (8 * k) at (bits s))

  pub window-after : 8 * length s ≤ at → window_at s at ≡ 0
  unfolding window_at
  window-after h =
      ap (λ (l : List Bool). value (take 57 (l ++ replicate 57 false))) (drop_of_length-le (bits s) {i = at} (omega (arith, length-bits s)))
      ∙ value-zeros 57

  -- any w bits of the window
  pub window-part : (k w : ℕ) → k + w ≤ 57 → at + k + w ≤ 8 * length s → window_at s at / 2 ^ (57 - k - w) % 2 ^ w ≡ value (take w (drop (at + k) (bits s)))
  unfolding window_at
  window-part k w h inside =
      let x : List Bool = drop at (bits s) in
      let z : List Bool = replicate 57 false in
      let size : length x ≡ 8 * length s - at = length-drop at (bits s) ∙ ap (λ (n : ℕ). n - at) (length-bits s) in
      let room : length (x ++ z) ≡ length x + 57 = length-append x z ∙ ap (λ (n : ℕ). length x + n) (length-replicate 57 false) in
      value-part (take 57 (x ++ z)) k w 57 h (length-take-le 57 (x ++ z) (omega (arith, room)))
      ∙ ap value
      (take-before (x ++ z) k w 57 h (omega (arith, room))
      ∙ ap (take w) (drop-append-le k x z (omega (arith, size)))
      ∙ take-append-le w (drop k x) z (omega (arith, size, length-drop k x))
      ∙ ap (take w) (drop-drop k at (bits s)))

  pub window_lt : window_at s at < 2 ^ 57
  unfolding window_at
  window_lt = value-take-fits 57 57 (drop at (bits s) ++ replicate 57 false) (omega arith)

  -- its first w bits
  pub window-front : (w : ℕ) → w ≤ 57 → at + w ≤ 8 * length s → window_at s at / 2 ^ (57 - w) ≡ value (take w (drop at (bits s)))
  window-front w h inside =
      let size : w + (57 - w) ≡ 57 = omega arith in
      let start : at + 0 ≡ at = omega arith in
      let after : 57 - w ≡ 57 - 0 - w = omega arith in
      sym (shr_mod w (57 - w) (subst (λ (n : ℕ). window_at s at < 2 ^ n) (sym size) window_lt))
      ∙ ap (λ (n : ℕ). window_at s at / 2 ^ n % 2 ^ w) after
      ∙ window-part 0 w (omega arith) (omega arith)
      ∙ ap (λ (n : ℕ). value (take w (drop n (bits s)))) start

-- eight bytes hold the window of a place among their first eight bits, or of any place if they are the last
module _ (s : List ℕ) (first into : ℕ) (inside : first + 8 ≤ length s) (h : into ≤ 63) where
  abbrev pub eight : List Bool
  eight = bits (take 8 (drop first s))

  length-eight : length eight ≡ 64
  length-eight = length-bits-take 8 (drop first s) (omega (arith, length-drop first s))

  shifted : value eight * 2 ^ into % 2 ^ 64 / 2 ^ 7 ≡ value (take 57 (drop into eight ++ replicate 57 false))
  shifted =
      let z : List Bool = replicate into false in
      let l : List Bool = eight ++ z in
      let size : length l ≡ 64 + into = length-append eight z ∙ ap₂ (λ (m n : ℕ). m + n) length-eight (length-replicate into false) in
      let after : 7 ≡ 64 + into - into - 57 = omega arith in
      field (value eight * 2 ^ into) 57 7
      ∙ ap₂ (λ (x k : ℕ). x / 2 ^ k % 2 ^ 57)
      (sym (value_append eight z
      ∙ ap₂ (λ (n v : ℕ). value eight * 2 ^ n + v) (length-replicate into false) (value-zeros into) ∙ add-zero (value eight * 2 ^ into)))
      after
      ∙ value-part l into 57 (64 + into) (omega arith) size
      ∙ ap value
      (sym (take-append-le 57 (drop into l) (replicate 57 false) (omega (arith, length-drop into l, size)))
      ∙ zeros-there 57 into into eight)

  there : drop (8 * first + into) (bits s) ≡ drop into (bits (drop first s))
  there = sym (drop-drop into (8 * first) (bits s)) ∙ ap (drop into) (bits-drop first s (omega arith))

  window-early : into ≤ 7 → value eight * 2 ^ into % 2 ^ 64 / 2 ^ 7 ≡ window_at s (8 * first + into)
  unfolding window_at
  window-early early =
      let t : List ℕ = drop first s in
      let z : List Bool = replicate 57 false in
      let long : 8 ≤ length t = omega (arith, length-drop first s) in
      let size : length (drop into (bits t)) ≡ 8 * length t - into = length-drop into (bits t) ∙ ap (λ (n : ℕ). n - into) (length-bits t) in
      shifted
      ∙ ap value
      (take-append-le 57 (drop into eight) z (omega (arith, length-drop into eight, length-eight))
      ∙ ap (λ (l : List Bool). take 57 (drop into l)) (sym (bits-take 8 t long))
      ∙ take-before (bits t) into 57 (8 * 8) (omega arith) (omega (arith, length-bits t))
      ∙ sym (take-append-le 57 (drop into (bits t)) z (omega (arith, size)))
      ∙ ap (λ (l : List Bool). take 57 (l ++ z)) (sym there))

  window-last : first + 8 ≡ length s → value eight * 2 ^ into % 2 ^ 64 / 2 ^ 7 ≡ window_at s (8 * first + into)
  unfolding window_at
  window-last last =
      shifted
      ∙ ap (λ (l : List Bool). value (take 57 (l ++ replicate 57 false)))
      (ap (λ (t : List ℕ). drop into (bits t)) (take_all 8 (drop first s) (omega (arith, length-drop first s))) ∙ sym there)

  pub window-eight : (7 < into → first + 8 ≡ length s) → value eight * 2 ^ into % 2 ^ 64 / 2 ^ 7 ≡ window_at s (8 * first + into)
  window-eight late = go (leb into 7) refl where
    go : (b : Bool) → leb into 7 ≡ b → value eight * 2 ^ into % 2 ^ 64 / 2 ^ 7 ≡ window_at s (8 * first + into)
    go true e = window-early (leb-true into 7 e)
    go false e = window-last (late (leb-false into 7 e))
