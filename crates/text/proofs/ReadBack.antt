-- What was written in decimal is a field, and says the same number. Assumes nothing.
use mathlib.Core.Path.{◌≡◌, refl, ap, ◌∙◌, subst}
use mathlib.Core.Bool.{Bool, true, false}
use mathlib.Core.List.{List, [], ◌∷◌, ◌++◌, append_assoc}
use Prim.Native.Nat.{ℕ, zero, suc, ◌+◌, ◌-◌, ◌*◌, ◌/◌, ◌%◌, ◌^◌, ◌≤◌, ◌<◌}
use native.Mathlib.Omega.{arith}
use native.Mathlib.Nat.{pow-suc}
use borrow.Author.Tests.{ltb-true, lt-ltb, le-leb}
use lib.ListN.{length, take, drop, length-append}
use lib.Seq.{take-append_seam, drop-append_seam, length-take-le}
use lib.Dec.{ltb}
use Rattle.bits.specs.Bits.{pick}
use Rattle.text.specs.Laying.{laid_at}
use Rattle.text.specs.Decimal.{digit, digits, decimal, item}
use Rattle.text.specs.Field.{is_digit, run, number_from, number_of, field_of, field_at}
use Rattle.std.specs.Prelude.{Some}
use Rattle.text.proofs.Decimals.{within}

-- bytes that are digits, one or more, and say a number
record Says (n : ℕ) (s : List ℕ) : Type 0 where
  pub some : 1 ≤ length s
  pub number : number_of s ≡ n
  pub whole : (rest : List ℕ) → run (s ++ rest) ≡ length s + run rest

one-digit : (d : ℕ) (rest : List ℕ) → d < 10 → run (digit d ∷ rest) ≡ suc (run rest)
unfolding run is_digit
one-digit d rest h = rw (le-leb 48 (digit d) (omega arith), le-leb (digit d) 57 (omega arith))

says-one : (d : ℕ) → d < 10 → Says d (digit d ∷ [])
unfolding number_from
says-one d h = record { some = omega arith; number = omega arith; whole = λ rest. one-digit d rest h ∙ omega arith }

number_from-more : (n : ℕ) (s : List ℕ) (b : ℕ) → number_from n (s ++ (b ∷ [])) ≡ number_from n s * 10 + (b - 48)
unfolding number_from
number_from-more n [] b = refl
number_from-more n (x ∷ s) b = number_from-more (n * 10 + (x - 48)) s b

says-more : (n : ℕ) (s : List ℕ) → Says (n / 10) s → Says n (s ++ (digit (n % 10) ∷ []))
says-more n s p = record {
  some = omega (arith, p.some, length-append s (digit (n % 10) ∷ []));
  number = omega (arith, number_from-more 0 s (digit (n % 10)), p.number);
  whole = λ rest.
      ap run (append_assoc s (digit (n % 10) ∷ []) rest) ∙ p.whole (digit (n % 10) ∷ rest)
      ∙ omega (arith, one-digit (n % 10) rest (omega arith), length-append s (digit (n % 10) ∷ []));
}

says-digits : (k n : ℕ) → n < 10 ^ suc k → Says n (digits (suc k) n)
unfolding digits
says-digits zero n h = rw (lt-ltb n 10 h) (says-one n h)
says-digits (suc k) n h = go (ltb n 10) refl (says-more n _ (says-digits k (n / 10) (omega (arith, pow-suc 10 (suc k)))))
  where
    go : (t : Bool) → ltb n 10 ≡ t → {s : List ℕ} → Says n s → Says n (pick t (digit n ∷ []) s)
    go true e p = says-one n (ltb-true n 10 e)
    go false e p = p

-- a number of at most nine digits, with something behind it that does not begin with a digit
pub field-decimal : (n widest : ℕ) (before rest : List ℕ) → n < 10 ^ 9 → length (decimal n) ≤ widest → run rest ≡ 0
    → field_at (before ++ (decimal n ++ rest)) (length before) widest ≡ Some (n, length before + length (decimal n))
unfolding field_at field_of decimal
field-decimal n widest before rest h w e =
    let at = length before in
    let m = length (decimal n) in
    let p = says-digits 19 n (omega arith) in
    let there = drop-append_seam before (decimal n ++ rest) in
    let all : run (drop at (before ++ (decimal n ++ rest))) ≡ m = ap run there ∙ p.whole rest ∙ omega (arith, e) in
    let number : number_of (take m (drop at (before ++ (decimal n ++ rest)))) ≡ n =
    ap (λ (s : List ℕ). number_of (take m s)) there ∙ ap number_of (take-append_seam (decimal n) rest) ∙ p.number in
    rw (all, le-leb 1 m p.some, le-leb m widest w, le-leb m 9 (within 8 n h), number) refl

-- what `write_item` wrote from a place on is read there as the same number, where what stands behind it does not begin with a digit;
-- so is what `write_number` wrote, which has no word after it (`item_alone`)
pub item-read : (out : List ℕ) (at n widest : ℕ) (word : List ℕ) → at + length (item n word) ≤ length out → n < 10 ^ 9 → length (decimal n) ≤ widest
    → run (word ++ drop (at + length (item n word)) out) ≡ 0
    → field_at (laid_at out at (item n word)) at widest ≡ Some (n, at + length (decimal n))
unfolding laid_at item
item-read out at n widest word room few w e =
    let s : List ℕ = decimal n ++ word in
    let before : List ℕ = take at out in
    let behind : List ℕ = drop (at + length s) out in
    let size : length before ≡ at = length-take-le at out (omega arith) in
    let laid : laid_at out at s ≡ before ++ (decimal n ++ (word ++ behind)) =
    rw (le-leb (at + length s) (length out) room) (ap (λ (x : List ℕ). before ++ x) (append_assoc (decimal n) word behind)) in
    ap (λ (x : List ℕ). field_at x at widest) laid
    ∙ subst (λ (k : ℕ). field_at (before ++ (decimal n ++ (word ++ behind))) k widest ≡ Some (n, k + length (decimal n))) size
    (field-decimal n widest before (word ++ behind) few w e)
