-- A number's digits: the last one after those of its tenth, and how many there are. Assumes nothing.
use mathlib.Core.Path.{◌≡◌, refl, ap, ◌∙◌}
use mathlib.Core.Bool.{Bool, true, false}
use mathlib.Core.List.{List, [], ◌∷◌, ◌++◌, append-nil}
use Prim.Native.Nat.{ℕ, zero, suc, max, ◌+◌, ◌*◌, ◌/◌, ◌%◌, ◌^◌, ◌≤◌, ◌<◌}
use native.Mathlib.Omega.{arith}
use native.Mathlib.Nat.{pow-suc, pow-le-pow_right, zero-lt-suc}
use lib.ListN.{length, length-append}
use lib.Dec.{ltb}
use borrow.Author.Tests.{lt-ltb, le-ltb, ltb-true}
use Rattle.bits.specs.Bits.{pick}
use Rattle.bits.proofs.Tests.{by-test}
use Rattle.text.specs.Decimal.{digit, digits, decimal, item}

pub decimal-one : (n : ℕ) → n < 10 → decimal n ≡ digit n ∷ []
unfolding decimal digits
decimal-one n h = rw (lt-ltb n 10 h)

-- below 10 to the power j, at most j digits
few : (j k n : ℕ) → n < 10 ^ suc j → length (digits k n) ≤ suc j
unfolding digits
few j zero n h = omega arith
few zero (suc k) n h = rw (lt-ltb n 10 h) (omega arith)
few (suc j) (suc k) n h =
    let l = few j k (n / 10) (omega (arith, pow-suc 10 (suc j))) in
    by-test (λ (s : List ℕ). length s ≤ suc (suc j)) (ltb n 10) (omega arith) (simp length-append (omega arith))

pub within : (j n : ℕ) → n < 10 ^ suc j → length (decimal n) ≤ suc j
unfolding decimal
within j n h = few j 20 n h

at_most : (k n : ℕ) → length (digits k n) ≤ k
unfolding digits
at_most zero n = omega arith
at_most (suc k) n =
    let l = at_most k (n / 10) in
    by-test (λ (s : List ℕ). length s ≤ suc k) (ltb n 10) (omega arith) (simp length-append (omega arith))

pub decimal-size : (n : ℕ) → length (decimal n) ≤ 20
unfolding decimal
decimal-size n = at_most 20 n

power : (k : ℕ) → 1 ≤ 10 ^ k
power k = let l : 0 ≤ k = omega arith in let p : 10 ^ 0 ≤ 10 ^ k = pow-le-pow_right (zero-lt-suc 9) l in omega arith

-- from 10 to the power j on, more than j digits
many : (j k n : ℕ) → 10 ^ j ≤ n → j < k → suc j ≤ length (digits k n)
unfolding digits
many j zero n h l = absurd (omega arith)
many zero (suc k) n h l = by-test (λ (s : List ℕ). 1 ≤ length s) (ltb n 10) (omega arith) (simp length-append (omega arith))
many (suc j) (suc k) n h l =
    let p = pow-suc 10 j in
    let q = power j in
    let m = many j k (n / 10) (omega arith) (omega arith) in
    rw (le-ltb n 10 (omega arith)) (simp length-append (omega arith))

-- how many, by the power of 10 that a number reaches; 0 has one digit as 1 has
pub decimal-length : (k n m : ℕ) → m ≡ max n 1 → 10 ^ k ≤ m → m < 10 * 10 ^ k → k < 20 → k + 1 ≡ length (decimal n)
unfolding decimal digits
decimal-length zero zero m e h l b = refl
decimal-length (suc k) zero m e h l b = absurd (let p = pow-suc 10 k in let q = power k in omega arith)
decimal-length k (suc n) m e h l b = omega (arith, many k 20 (suc n) (omega arith) b, few k 20 (suc n) (omega (arith, pow-suc 10 k)))

-- so many digits of a number, with leading zeros
unfoldable pub padded : ℕ → ℕ → List ℕ
padded zero n = []
padded (suc k) n = padded k (n / 10) ++ (digit (n % 10) ∷ [])

pub padded-none : (k n : ℕ) → k ≤ 0 → padded k n ≡ []
unfolding padded
padded-none zero n h = refl
padded-none (suc k) n h = absurd (omega arith)

pub padded-more : (k j n : ℕ) → k ≡ suc j → padded k n ≡ padded j (n / 10) ++ (digit (n % 10) ∷ [])
unfolding padded
padded-more k j n e = ap (λ (m : ℕ). padded m n) e

pub length-padded : (k n : ℕ) → length (padded k n) ≡ k
unfolding padded
length-padded zero n = refl
length-padded (suc k) n = length-append (padded k (n / 10)) (digit (n % 10) ∷ []) ∙ omega (arith, length-padded k (n / 10))

digits-padded : (k n : ℕ) → n < 10 ^ suc k → digits (suc k) n ≡ padded (length (digits (suc k) n)) n
unfolding digits padded
digits-padded zero n h = rw (lt-ltb n 10 h) (ap (λ (d : ℕ). digit d ∷ []) {x = n} {y = n % 10} (omega arith))
digits-padded (suc k) n h = go (ltb n 10) refl (digits-padded k (n / 10) (omega (arith, pow-suc 10 (suc k))))
  where
    go : (t : Bool) → ltb n 10 ≡ t → {s : List ℕ} → s ≡ padded (length s) (n / 10)
        → pick t (digit n ∷ []) (s ++ (digit (n % 10) ∷ [])) ≡ padded (length (pick t (digit n ∷ []) (s ++ (digit (n % 10) ∷ [])))) n
    go true e l = ap (λ (d : ℕ). digit d ∷ []) {x = n} {y = n % 10} (let h = ltb-true n 10 e in omega arith)
    go false e {s} l =
        ap (λ (x : List ℕ). x ++ (digit (n % 10) ∷ [])) l
        ∙ ap (λ (m : ℕ). padded m n) {x = suc (length s)} {y = length (s ++ (digit (n % 10) ∷ []))}
        (omega (arith, length-append s (digit (n % 10) ∷ [])))

pub decimal-padded : (n : ℕ) → n < 10 ^ 20 → decimal n ≡ padded (length (decimal n)) n
unfolding decimal
decimal-padded n h = digits-padded 19 n h

pub length-item : (n : ℕ) (word : List ℕ) → length (item n word) ≡ length (decimal n) + length word
unfolding item
length-item n word = length-append (decimal n) word

-- with nothing after it
pub item_alone : (n : ℕ) → item n [] ≡ decimal n
unfolding item
item_alone n = append-nil (decimal n)
