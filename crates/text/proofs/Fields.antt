-- Decimal fields digit by digit. Assumes nothing.
use mathlib.Core.Path.{◌≡◌, refl, ap, ◌∙◌}
use mathlib.Core.Bool.{Bool, true, false, cond}
use mathlib.Core.List.{List, [], ◌∷◌}
use Prim.Native.Nat.{ℕ, suc, ◌+◌, ◌-◌, ◌*◌, ◌^◌, ◌≤◌, ◌<◌}
use native.Mathlib.Omega.{arith}
use native.Mathlib.Nat.{pow-le-pow_right, zero-lt-suc}
use native.Mathlib.Numerals.{add-one}
use borrow.Author.Tests.{leb-true, le-leb}
use lib.Dec.{leb}
use lib.ListN.{length, get_or, take, drop}
use lib.Seq.{drop-cons}
use Rattle.std.specs.Prelude.{Some, None}
use Rattle.std.specs.List.{prefix_len, take_while}
use Rattle.std.specs.Char.{is_ascii_digit}
use Rattle.std.proofs.lemmas.List.Sums.{prefix_len_passes}
use Rattle.std.proofs.lemmas.List.Folds.{length-prefix_len}
use Rattle.bits.specs.Bits.{pick}
use Rattle.bits.proofs.Tests.{both, by-test}
use Rattle.text.specs.Field.{is_digit, run, number_from, number_of, field_of, field_at}

-- ---- how many digits stand first

run-prefix : (s : List ℕ) → prefix_len is_ascii_digit s ≡ run s
unfolding run is_digit
run-prefix [] = refl
run-prefix (b ∷ s) = go (is_ascii_digit b) (run-prefix s)
  where
    go : (t : Bool) {m n : ℕ} → m ≡ n → cond t (1 + m) 0 ≡ pick t (suc n) 0
    go true e = omega arith
    go false e = refl

pub run-is : (s : List ℕ) → length (take_while is_ascii_digit s) ≡ run s
run-is s = length-prefix_len is_ascii_digit s ∙ run-prefix s

pub run-size : (s : List ℕ) → run s ≤ length s
unfolding run
run-size [] = omega arith
run-size (b ∷ s) = let l = run-size s in by-test (λ (n : ℕ). n ≤ suc (length s)) (is_digit b) (omega (arith, l)) (omega arith)

pub digit-is : (b : ℕ) → is_digit b ≡ true → (48 ≤ b) × (b ≤ 57)
unfolding is_digit
digit-is b e = let p = both (leb 48 b) (leb b 57) e in (leb-true 48 b p.0, leb-true b 57 p.1)

-- each of them is a digit
pub digit-at : (s : List ℕ) (i : ℕ) → i < run s → (48 ≤ get_or s i 0) × (get_or s i 0 ≤ 57)
unfolding is_digit
digit-at s i h = digit-is (get_or s i 0) (prefix_len_passes is_ascii_digit s i 0 (omega (arith, run-prefix s)))

-- they alone are as many
pub run-take : (s : List ℕ) → run (take (run s) s) ≡ run s
unfolding run
run-take [] = refl
run-take (b ∷ s) = go (is_digit b) refl (run-take s)
  where
    go : (t : Bool) → is_digit b ≡ t → run (take (run s) s) ≡ run s → run (take (pick t (suc (run s)) 0) (b ∷ s)) ≡ pick t (suc (run s)) 0
    go true e l = rw e (ap suc l)
    go false e l = refl

-- ---- the number that they say

-- one digit of a number
pub number-digit : (s : List ℕ) (n i : ℕ) → i < length s
    → number_from n (drop i s) ≡ number_from (n * 10 + (get_or s i 0 - 48)) (drop (i + 1) s)
unfolding number_from
number-digit s n i h = rw (add-one, drop-cons s i 0 h)

-- a number of few digits is small
pub small : (n i k : ℕ) → n < 10 ^ i → i ≤ k → n < 10 ^ k
small n i k h l = omega (arith, pow-le-pow_right (zero-lt-suc 9) l)

-- ---- a field that is none, and one that is

module _ (s : List ℕ) (at widest : ℕ) {n : ℕ} (count : n ≡ run (drop at s)) where
  pub field-none : ((1 ≤ n) × (n ≤ widest) × (n ≤ 9) → ⊥) → None ≡ field_at s at widest
  unfolding field_at field_of
  field-none h = go (leb 1 n) refl (leb n widest) refl (leb n 9) refl ∙ (λ i. field_of s at (count i) widest)
    where
      go : (a : Bool) → leb 1 n ≡ a → (b : Bool) → leb n widest ≡ b → (c : Bool) → leb n 9 ≡ c → None ≡ field_of s at n widest
      go true x true y true z = absurd (h (leb-true 1 n x, leb-true n widest y, leb-true n 9 z))
      go true x true y false z = rw (x, y, z) refl
      go true x false y c z = rw (x, y) refl
      go false x b y c z = rw x refl

  pub field-some : {rest : List ℕ} {v : ℕ} → rest ≡ drop at s → 1 ≤ n → n ≤ widest → n ≤ 9 → v ≡ number_of (take n rest)
      → Some (v, at + n) ≡ field_at s at widest
  unfolding field_at field_of
  field-some e x y z k =
      rw (k, e, ← count, le-leb 1 n x, le-leb n widest y, le-leb n 9 z) refl
