-- The bits of bytes: of a part, of a store, and bytes with equal bits are equal. Assumes nothing.
use mathlib.Core.Path.{◌≡◌, refl, sym, ap, ap₂, subst, ◌∙◌}
use mathlib.Core.List.{List, [], ◌∷◌, ◌++◌, append_assoc}
use mathlib.Core.Bool.{Bool}
use Prim.Native.Nat.{ℕ, zero, suc, ◌+◌, ◌*◌, ◌≤◌, ◌<◌}
use native.Mathlib.Omega.{arith}
use lib.ListN.{length, get_or, take, drop, length-append, length-take, length-drop, take-append-drop}
use lib.Seq.{get_or-append-add, split_at, take_at, drop_at, length-take-le, take-append-le, drop-append-le}
use Rattle.bits.specs.Bits.{value, bits_of, Bytes, bits}
use Rattle.bits.proofs.Numbers.{length-bits_of, value-of-bits}

pub length-bits : (s : List ℕ) → length (bits s) ≡ 8 * length s
unfolding bits
length-bits [] = refl
length-bits (b ∷ s) = omega (arith, length-append (bits_of 8 b) (bits s), length-bits_of 8 b, length-bits s)

pub length-bits-take : (n : ℕ) (s : List ℕ) → n ≤ length s → length (bits (take n s)) ≡ 8 * n
length-bits-take n s h = omega (arith, length-bits (take n s), length-take-le n s h)

pub bits_append : (s t : List ℕ) → bits (s ++ t) ≡ bits s ++ bits t
unfolding bits
bits_append [] t = refl
bits_append (b ∷ s) t = ap (λ (l : List Bool). bits_of 8 b ++ l) (bits_append s t) ∙ sym (append_assoc (bits_of 8 b) (bits s) (bits t))

-- around the byte at q
pub bits-split : (s : List ℕ) (q : ℕ) → q < length s
    → bits s ≡ bits (take q s) ++ (bits_of 8 (get_or s q 0) ++ bits (drop (suc q) s))
unfolding bits
bits-split s q h = ap bits (split_at s q 0 h) ∙ bits_append (take q s) (get_or s q 0 ∷ drop (suc q) s)

-- whole bytes at either end
pub bits-drop : (q : ℕ) (s : List ℕ) → q ≤ length s → drop (8 * q) (bits s) ≡ bits (drop q s)
bits-drop q s h =
    ap (drop (8 * q)) (ap bits (sym (take-append-drop q s)) ∙ bits_append (take q s) (drop q s))
    ∙ drop_at (bits (take q s)) (bits (drop q s)) (8 * q) (length-bits-take q s h)

pub bits-take : (n : ℕ) (s : List ℕ) → n ≤ length s → take (8 * n) (bits s) ≡ bits (take n s)
bits-take n s h =
    ap (take (8 * n)) (ap bits (sym (take-append-drop n s)) ∙ bits_append (take n s) (drop n s))
    ∙ take_at (bits (take n s)) (bits (drop n s)) (8 * n) (length-bits-take n s h)

-- what stands before an end is the same with what stands after it cut off
pub take-before : {A : Type 0} (l : List A) (at w end : ℕ) → at + w ≤ end → at + w ≤ length l → take w (drop at (take end l)) ≡ take w (drop at l)
take-before l at w end h k =
    let n : at + w ≤ length (take end l) = omega (arith, length-take end l) in
    sym (ap (λ x. take w (drop at x)) (sym (take-append-drop end l))
    ∙ ap (take w) (drop-append-le at (take end l) (drop end l) (omega arith))
    ∙ take-append-le w (drop at (take end l)) (drop end l) (omega (arith, length-drop at (take end l))))

-- ---- bytes: of parts, and of the whole

pub bytes_append : (s t : List ℕ) → Bytes s → Bytes t → Bytes (s ++ t)
bytes_append [] t hs ht i = ht i
bytes_append (b ∷ s) t hs ht zero = hs 0
bytes_append (b ∷ s) t hs ht (suc i) = bytes_append s t (λ k. hs (suc k)) ht i

bytes-front : (s t : List ℕ) → Bytes (s ++ t) → Bytes s
bytes-front [] t b i = omega arith
bytes-front (x ∷ s) t b zero = b 0
bytes-front (x ∷ s) t b (suc i) = bytes-front s t (λ k. b (suc k)) i

pub bytes-parts : (s t : List ℕ) → Bytes (s ++ t) → Bytes s × Bytes t
bytes-parts s t b = (bytes-front s t b, λ i. rw (get_or-append-add s t i 0) at (b (length s + i)))

pub bytes_within : (s : List ℕ) (q k : ℕ) → Bytes s → Bytes (take k (drop q s))
bytes_within s q k b =
    let after : Bytes (drop q s) = (bytes-parts (take q s) (drop q s) (subst Bytes (sym (take-append-drop q s)) b)).1 in
    (bytes-parts (take k (drop q s)) (drop k (drop q s)) (subst Bytes (sym (take-append-drop k (drop q s))) after)).0

-- ---- bytes with equal bits are equal

byte_eq : (a b : ℕ) → a < 256 → b < 256 → bits_of 8 a ≡ bits_of 8 b → a ≡ b
byte_eq a b ha hb e = sym (value-of-bits 8 a ha) ∙ ap value e ∙ value-of-bits 8 b hb

pub bits_inj : (s t : List ℕ) → Bytes s → Bytes t → bits s ≡ bits t → s ≡ t
unfolding bits
bits_inj [] [] hs ht e = refl
bits_inj [] (b ∷ t) hs ht e = absurd (omega (arith, length-bits (b ∷ t), ap length e))
bits_inj (a ∷ s) [] hs ht e = absurd (omega (arith, length-bits (a ∷ s), ap length e))
bits_inj (a ∷ s) (b ∷ t) hs ht e =
    let la : length (bits_of 8 a) ≡ 8 = length-bits_of 8 a in
    let lb : length (bits_of 8 b) ≡ 8 = length-bits_of 8 b in
    ap₂ {C = List ℕ} (λ x l. x ∷ l)
    (byte_eq a b (hs 0) (ht 0) (sym (take_at (bits_of 8 a) (bits s) 8 la) ∙ ap (take 8) e ∙ take_at (bits_of 8 b) (bits t) 8 lb))
    (bits_inj s t (λ i. hs (suc i)) (λ i. ht (suc i))
    (sym (drop_at (bits_of 8 a) (bits s) 8 la) ∙ ap (drop 8) e ∙ drop_at (bits_of 8 b) (bits t) 8 lb))
