-- The number that eight bytes are, and its bits: those of the bytes, most significant first. Assumes nothing.
use mathlib.Core.Path.{◌≡◌, refl, sym, ap, ap₂, ◌∙◌}
use mathlib.Core.List.{List, [], ◌∷◌, ◌++◌, append-nil}
use mathlib.Core.Bool.{Bool}
use Prim.Native.Nat.{ℕ, zero, suc, ◌+◌, ◌*◌, ◌^◌, ◌≤◌, ◌<◌}
use native.Mathlib.Nat.{mod-eq_of_lt}
use native.Mathlib.Omega.{arith}
use native.Mathlib.Numerals.{add-one}
use lib.ListN.{length, get_or, take, drop}
use lib.Seq.{take_all, take-suc, drop-drop}
use Rattle.std.specs.Int.{w64, from_be_bytes, to_be_bytes}
use Rattle.std.proofs.lemmas.Nat.{from_be_bytes-to_be_bytes_8}
use Rattle.bits.specs.Bits.{value, bits_of, bits, Bytes, splice}
use Rattle.bits.proofs.Numbers.{length-bits_of, value_append, value-bits_of, bits_of_value}
use Rattle.bits.proofs.Bytes.{length-bits, bits_append, bits-take, bits-drop}

-- one more byte
value_byte : (t : List ℕ) (i : ℕ) → i < length t → get_or t i 0 < 256
    → value (bits (take (i + 1) t)) ≡ value (bits (take i t)) * 256 + get_or t i 0
unfolding bits
value_byte t i h byte =
    let b : ℕ = get_or t i 0 in
    ap (λ (x : ℕ). value (bits (take x t))) (add-one i)
    ∙ ap (λ (x : List ℕ). value (bits x)) (take-suc t i 0 h)
    ∙ ap value (bits_append (take i t) (b ∷ []) ∙ ap (λ (x : List Bool). bits (take i t) ++ x) (append-nil (bits_of 8 b)))
    ∙ value_append (bits (take i t)) (bits_of 8 b)
    ∙ ap₂ (λ (x y : ℕ). value (bits (take i t)) * 2 ^ x + y) (length-bits_of 8 b) (value-bits_of 8 b ∙ mod-eq_of_lt byte)

-- the bytes of a number are bytes
bytes-eight : (x : ℕ) → Bytes (to_be_bytes w64 x)
bytes-eight x zero = omega arith
bytes-eight x (suc zero) = omega arith
bytes-eight x (suc (suc zero)) = omega arith
bytes-eight x (suc (suc (suc zero))) = omega arith
bytes-eight x (suc (suc (suc (suc zero)))) = omega arith
bytes-eight x (suc (suc (suc (suc (suc zero))))) = omega arith
bytes-eight x (suc (suc (suc (suc (suc (suc zero)))))) = omega arith
bytes-eight x (suc (suc (suc (suc (suc (suc (suc zero))))))) = omega arith
bytes-eight x (suc (suc (suc (suc (suc (suc (suc (suc i)))))))) = omega arith

pub value-eight : (t : List ℕ) → length t ≡ 8 → Bytes t → value (bits t) ≡ from_be_bytes w64 t
unfolding value bits
value-eight t size bytes =
    let next : (i : ℕ) → i < 8 → value (bits (take (i + 1) t)) ≡ value (bits (take i t)) * 256 + get_or t i 0 =
    λ i h. value_byte t i (omega arith) (bytes i) in
    ap (λ (x : List ℕ). value (bits x)) (sym (take_all 8 t (omega arith)))
    ∙ omega (
      arith,
      next 0 (omega arith),
      next 1 (omega arith),
      next 2 (omega arith),
      next 3 (omega arith),
      next 4 (omega arith),
      next 5 (omega arith),
      next 6 (omega arith),
      next 7 (omega arith),
    )

-- the bytes of a number are those of its bits
pub bits-eight : (x : ℕ) → x < 2 ^ 64 → bits (to_be_bytes w64 x) ≡ bits_of 64 x
bits-eight x h =
    let t : List ℕ = to_be_bytes w64 x in
    let number : value (bits t) ≡ x = value-eight t refl (bytes-eight x) ∙ from_be_bytes-to_be_bytes_8 x h in
    sym (bits_of_value (bits t)) ∙ ap₂ bits_of (length-bits t) number

-- bytes put among others: their bits in place of those that were there
pub bits-part : (s t : List ℕ) (q k : ℕ) → q + k ≤ length s → length t ≡ k
    → bits (take q s ++ (t ++ drop k (drop q s))) ≡ splice (bits s) (8 * q) (bits t)
bits-part s t q k inside size =
    let end : 8 * (q + k) ≡ 8 * q + length (bits t) = omega (arith, length-bits t) in
    bits_append (take q s) (t ++ drop k (drop q s))
    ∙ ap₂ (λ (a b : List Bool). a ++ b)
    (sym (bits-take q s (omega arith)))
    (bits_append t (drop k (drop q s))
    ∙ ap (λ (l : List Bool). bits t ++ l)
    (ap bits (drop-drop k q s) ∙ sym (bits-drop (q + k) s inside) ∙ ap (λ (n : ℕ). drop n (bits s)) end))
