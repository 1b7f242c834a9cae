-- A run of bits and its number: each decides the other. Assumes nothing.
use mathlib.Core.Path.{◌≡◌, refl, sym, ap, ap₂, ◌∙◌, subst}
use mathlib.Core.List.{List, [], ◌∷◌, ◌++◌}
use mathlib.Core.Bool.{Bool, true, false}
use Prim.Native.Nat.{ℕ, zero, suc, ◌+◌, ◌*◌, ◌/◌, ◌%◌, ◌^◌, ◌≤◌, ◌<◌}
use native.Mathlib.Nat.{zero-add, suc-add, add_comm, add_assoc, mul_assoc, add-mul, mul-add-div_right, mul-add-mod_self_right, mod-lt, mod-eq_of_lt}
use native.Mathlib.Nat.{pow-succ', zero-lt-suc, lt_of_lt_of_le}
use native.Mathlib.Omega.{arith}
use native.Mathlib.Numerals.{one-add}
use lib.ListN.{length, take, length-append, length-take}
use lib.Arith.{digits_lt, lt-one}
use lib.Pow.{pow_pos, pow-add, pow_mono, shr-shr, mod-pow-add, high, split}
use lib.Dec.{eqb}
use Rattle.bits.specs.Bits.{bit, value, bits_of}

-- ---- one bit

bit_lt : (b : Bool) → bit b < 2
bit_lt true = omega arith
bit_lt false = omega arith

bit-eqb : (m : ℕ) → m < 2 → bit (eqb m 1) ≡ m
bit-eqb zero h = refl
bit-eqb (suc zero) h = refl
bit-eqb (suc (suc m)) h = absurd (omega arith)

eqb-bit : (b : Bool) → eqb (bit b % 2) 1 ≡ b
eqb-bit true = refl
eqb-bit false = refl

-- ---- the bits of a number

pub length-bits_of : (w v : ℕ) → length (bits_of w v) ≡ w
unfolding bits_of
length-bits_of zero v = refl
length-bits_of (suc w) v = ap suc (length-bits_of w v)

-- in two parts
pub bits_of_add : (j k v : ℕ) → bits_of (j + k) v ≡ bits_of j (v / 2 ^ k) ++ bits_of k v
unfolding bits_of
bits_of_add zero k v = ap (λ (n : ℕ). bits_of n v) (zero-add k)
bits_of_add (suc j) k v =
    ap (λ (n : ℕ). bits_of n v) (suc-add j k)
    ∙ ap₂ {C = List Bool} (λ x l. eqb (x % 2) 1 ∷ l)
    (ap (λ (n : ℕ). v / 2 ^ n) (add_comm j k) ∙ sym (shr-shr v k j)) (bits_of_add j k v)

-- in three
pub bits_of-three : (r n k v : ℕ) → bits_of (r + (n + k)) v ≡ bits_of r (v / 2 ^ (n + k)) ++ (bits_of n (v / 2 ^ k) ++ bits_of k v)
bits_of-three r n k v = bits_of_add r (n + k) v ∙ ap (λ (l : List Bool). bits_of r (v / 2 ^ (n + k)) ++ l) (bits_of_add n k v)

shift_suc : (a k : ℕ) → a * 2 ^ suc k ≡ a * 2 * 2 ^ k
shift_suc a k = ap (λ (x : ℕ). a * x) (pow-succ' 2 k) ∙ sym (mul_assoc a 2 (2 ^ k))

-- only the low part of a number counts
bits_of-low : (k q r : ℕ) → bits_of k (q * 2 ^ k + r) ≡ bits_of k r
unfolding bits_of
bits_of-low zero q r = refl
bits_of-low (suc k) q r =
    ap (λ (x : ℕ). bits_of (suc k) (x + r)) (shift_suc q k)
    ∙ ap₂ {C = List Bool} (λ x l. eqb x 1 ∷ l)
    (ap (λ (x : ℕ). x % 2) (mul-add-div_right (pow_pos k) (q * 2) r) ∙ mul-add-mod_self_right q 2 (r / 2 ^ k)) (bits_of-low k (q * 2) r)

pub bits_of_mod : (k x : ℕ) → bits_of k (x % 2 ^ k) ≡ bits_of k x
bits_of_mod k x = sym (bits_of-low k (x / 2 ^ k) (x % 2 ^ k)) ∙ ap (bits_of k) (split x k)

-- a high part and a low part
pub bits_of-parts : (j k h l : ℕ) → l < 2 ^ k → bits_of (j + k) (h * 2 ^ k + l) ≡ bits_of j h ++ bits_of k l
bits_of-parts j k h l lt =
    bits_of_add j k (h * 2 ^ k + l) ∙ ap₂ (λ (x : ℕ) (y : List Bool). bits_of j x ++ y) (high h k lt) (bits_of-low k h l)

-- a number, and another of k bits after it
pub bits_of-join : (j k h v : ℕ) → bits_of (j + k) (h * 2 ^ k + v % 2 ^ k) ≡ bits_of j h ++ bits_of k v
bits_of-join j k h v = bits_of-parts j k h (v % 2 ^ k) (mod-lt v (pow_pos k)) ∙ ap (λ (l : List Bool). bits_of j h ++ l) (bits_of_mod k v)

-- ---- the number of a run

pub value_append : (a b : List Bool) → value (a ++ b) ≡ value a * 2 ^ length b + value b
unfolding value
value_append [] b = omega arith
value_append (x ∷ a) b =
    ap₂ (λ (p q : ℕ). bit x * p + q)
    (ap (λ (n : ℕ). 2 ^ n) (length-append a b) ∙ pow-add 2 (length a) (length b)) (value_append a b)
    ∙ ap (λ (p : ℕ). p + (value a * 2 ^ length b + value b)) (sym (mul_assoc (bit x) (2 ^ length a) (2 ^ length b)))
    ∙ sym (add_assoc (bit x * 2 ^ length a * 2 ^ length b) (value a * 2 ^ length b) (value b))
    ∙ ap (λ (p : ℕ). p + value b) (sym (add-mul (bit x * 2 ^ length a) (value a) (2 ^ length b)))

pub value_lt : (l : List Bool) → value l < 2 ^ length l
unfolding value
value_lt [] = omega arith
value_lt (x ∷ l) = subst (λ (n : ℕ). bit x * 2 ^ length l + value l < n) (sym (pow-succ' 2 (length l))) (digits_lt (bit_lt x) (value_lt l))

pub value-take-fits : (i w : ℕ) (l : List Bool) → i ≤ w → value (take i l) < 2 ^ w
value-take-fits i w l h = lt_of_lt_of_le (value_lt (take i l)) (pow_mono (omega (arith, length-take i l)))

pub value-bits_of : (w v : ℕ) → value (bits_of w v) ≡ v % 2 ^ w
unfolding value bits_of
value-bits_of zero v = sym (lt-one (mod-lt v (zero-lt-suc 0)))
value-bits_of (suc w) v =
    ap₂ (λ (n r : ℕ). bit (eqb (v / 2 ^ w % 2) 1) * 2 ^ n + r) (length-bits_of w v) (value-bits_of w v)
    ∙ ap (λ (x : ℕ). x * 2 ^ w + v % 2 ^ w) (bit-eqb (v / 2 ^ w % 2) (omega arith))
    ∙ sym (mod-pow-add v 1 w)
    ∙ ap (λ (n : ℕ). v % 2 ^ n) (one-add w)

-- ---- the two are inverse

pub value-of-bits : (w v : ℕ) → v < 2 ^ w → value (bits_of w v) ≡ v
value-of-bits w v h = value-bits_of w v ∙ mod-eq_of_lt h

pub bits_of_value : (l : List Bool) → bits_of (length l) (value l) ≡ l
unfolding value bits_of
bits_of_value [] = refl
bits_of_value (x ∷ l) =
    ap₂ {C = List Bool} (λ x l. x ∷ l)
    (ap (λ (n : ℕ). eqb (n % 2) 1) (high (bit x) (length l) (value_lt l)) ∙ eqb-bit x)
    (bits_of-low (length l) (bit x) (value l) ∙ bits_of_value l)
