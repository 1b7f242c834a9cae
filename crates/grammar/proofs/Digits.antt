-- Legal digits, many at once. Assumes nothing.
use mathlib.Core.Path.{◌≡◌, refl, sym, ap, ap₂, ◌∙◌}
use mathlib.Core.Bool.{Bool, true, ◌&&◌}
use Prim.Native.Nat.{ℕ, zero, suc, ◌+◌, ◌*◌, ◌/◌, ◌%◌, ◌^◌, ◌<◌}
use native.Mathlib.Nat.{mod-lt, add_comm, div-one}
use native.Mathlib.Omega.{arith}
use lib.Bits.{bit_and, bit_or, and_block, and_mask, and_shr, or_shr, and_mod, or_mod, and_zero_r}
use lib.Dec.{eqb, lit<}
use borrow.Author.Tests.{eqb-true, ne_eqb}
use lib.Pow.{pow_pos, split, shr-shr, mod-mod-pow}
use Rattle.bits.proofs.Tests.{both}
use Rattle.bits.proofs.Table.{at}
use Rattle.grammar.specs.SiteSheet.{digit_of, digit_refusal, all_digits}

-- the lowest bit of each of k digits
abbrev pub marks : ℕ → ℕ
marks zero = 0
marks (suc k) = marks k * 2 ^ 4 + 1

-- at the lowest bit of a digit: it has the bits 8 and 4, and 2 or 1
abbrev pub refusing : ℕ → ℕ
refusing w = bit_and (bit_and (w / 2 ^ 3) (w / 2 ^ 2)) (bit_or (w / 2 ^ 1) w)

-- the sixteen digits, which antt computes in one test
one-digit : (d : ℕ) → d < 16 → eqb (refusing d % 2 ^ 1) 0 ≡ eqb (digit_refusal d) 0
unfolding digit_refusal digit_of
one-digit d h = sym (at (λ n. eqb (refusing n % 2 ^ 1) 0) true 16 d h) ∙ at (λ n. eqb (digit_refusal n) 0) true 16 d h

-- the lowest bit speaks of the lowest digit
lowest : (w : ℕ) → refusing w % 2 ^ 1 ≡ refusing (w % 16) % 2 ^ 1
lowest w = low w ∙ sym (low (w % 16) ∙ ap₂ (λ (x y : ℕ). bit_and x y) (ap₂ bit_and e₃ e₂) (ap₂ bit_or e₁ e₀))
  where
    low : (w : ℕ) → refusing w % 2 ^ 1 ≡ bit_and (bit_and (w / 2 ^ 3 % 2 ^ 1) (w / 2 ^ 2 % 2 ^ 1)) (bit_or (w / 2 ^ 1 % 2 ^ 1) (w % 2 ^ 1))
    low w =
        and_mod (bit_and (w / 2 ^ 3) (w / 2 ^ 2)) (bit_or (w / 2 ^ 1) w) 1
        ∙ ap₂ bit_and (and_mod (w / 2 ^ 3) (w / 2 ^ 2) 1) (or_mod (w / 2 ^ 1) w 1)

    e₃ : w % 16 / 2 ^ 3 % 2 ^ 1 ≡ w / 2 ^ 3 % 2 ^ 1
    e₃ = omega arith

    e₂ : w % 16 / 2 ^ 2 % 2 ^ 1 ≡ w / 2 ^ 2 % 2 ^ 1
    e₂ = omega arith

    e₁ : w % 16 / 2 ^ 1 % 2 ^ 1 ≡ w / 2 ^ 1 % 2 ^ 1
    e₁ = omega arith

    e₀ : w % 16 % 2 ^ 1 ≡ w % 2 ^ 1
    e₀ = omega arith

-- a shift by a digit goes through
above : (w : ℕ) → refusing w / 2 ^ 4 ≡ refusing (w / 2 ^ 4)
above w =
    and_shr (bit_and (w / 2 ^ 3) (w / 2 ^ 2)) (bit_or (w / 2 ^ 1) w) 4
    ∙ ap₂ bit_and
    (and_shr (w / 2 ^ 3) (w / 2 ^ 2) 4 ∙ ap₂ bit_and (swap 3) (swap 2))
    (or_shr (w / 2 ^ 1) w 4 ∙ ap (λ (x : ℕ). bit_or x (w / 2 ^ 4)) (swap 1))
  where
    swap : (k : ℕ) → w / 2 ^ k / 2 ^ 4 ≡ w / 2 ^ 4 / 2 ^ k
    swap k = shr-shr w k 4 ∙ ap (λ (n : ℕ). w / 2 ^ n) (add_comm k 4) ∙ sym (shr-shr w 4 k)

none : (a b : ℕ) → eqb (a * 2 ^ 4 + b) 0 ≡ eqb b 0 && eqb a 0
none zero zero = refl
none (suc a) zero = ne_eqb (suc a * 2 ^ 4 + 0) 0 (omega arith) ∙ sym (ne_eqb (suc a) 0 (omega arith))
none a (suc b) = ne_eqb (a * 2 ^ 4 + suc b) 0 (omega arith) ∙ ap (λ (t : Bool). t && eqb a 0) (sym (ne_eqb (suc b) 0 (omega arith)))

pub digits_marked : (k w : ℕ) → eqb (bit_and (refusing w) (marks k)) 0 ≡ all_digits k w
unfolding all_digits
digits_marked zero w = ap (λ (x : ℕ). eqb x 0) (and_zero_r (refusing w))
digits_marked (suc k) w =
    let r : ℕ = refusing w in
    let parts : bit_and r (marks k * 2 ^ 4 + 1) ≡ bit_and (r / 2 ^ 4) (marks k) * 2 ^ 4 + r % 2 ^ 1 =
    ap (λ (x : ℕ). bit_and x (marks k * 2 ^ 4 + 1)) (sym (split r 4))
    ∙ and_block 4 (r / 2 ^ 4) (marks k) (r % 2 ^ 4) 1 (mod-lt r (pow_pos 4)) (lit< tt)
    ∙ ap (λ (x : ℕ). bit_and (r / 2 ^ 4) (marks k) * 2 ^ 4 + x) (and_mask (r % 2 ^ 4) 1 ∙ mod-mod-pow r 3 1) in
    ap (λ (x : ℕ). eqb x 0) parts
    ∙ none (bit_and (r / 2 ^ 4) (marks k)) (r % 2 ^ 1)
    ∙ ap₂ (λ (x y : Bool). x && y)
    (ap (λ (x : ℕ). eqb x 0) (lowest w) ∙ one-digit (w % 16) (mod-lt w (pow_pos 4)))
    (ap (λ (x : ℕ). eqb (bit_and x (marks k)) 0) (above w) ∙ digits_marked k (w / 16))

-- each of them is
pub digit-legal : (k w i : ℕ) → i < k → all_digits k w ≡ true → digit_refusal (w / 2 ^ (4 * i) % 16) ≡ 0
unfolding all_digits
digit-legal zero w i h e = absurd (omega arith)
digit-legal (suc k) w zero h e =
    ap (λ (x : ℕ). digit_refusal (x % 16)) (div-one w) ∙ eqb-true (digit_refusal (w % 16)) 0 (both (eqb (digit_refusal (w % 16)) 0) (all_digits k (w / 16)) e).0
digit-legal (suc k) w (suc i) h e =
    let next : 4 * suc i ≡ 4 + 4 * i = omega arith in
    ap (λ (x : ℕ). digit_refusal (w / 2 ^ x % 16)) next
    ∙ ap (λ (x : ℕ). digit_refusal (x % 16)) (sym (shr-shr w 4 (4 * i)))
    ∙ digit-legal k (w / 16) i (omega arith) (both (eqb (digit_refusal (w % 16)) 0) (all_digits k (w / 16)) e).1
