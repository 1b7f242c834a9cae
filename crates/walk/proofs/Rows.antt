-- Elements in a row: their numbers are those of one number, and they pass if each does. Assumes nothing.
use Rattle.std.specs.Prelude.{Ok}
use mathlib.Core.Path.{◌≡◌, refl, sym, ap, ap₂, ◌∙◌}
use mathlib.Core.Bool.{Bool, true, ◌&&◌}
use mathlib.Core.List.{List}
use Prim.Native.Nat.{ℕ, zero, suc, ◌+◌, ◌*◌, ◌/◌, ◌%◌, ◌^◌, ◌≤◌, ◌<◌}
use native.Mathlib.Nat.{zero-add, suc-add, add-zero, mul-one, mul-suc, mul-add-div_right, mul-add-mod_self_right, mod-eq_of_lt, div-eq_of_lt}
use native.Mathlib.Omega.{arith}
use borrow.Author.Tests.{eqb-true}
use lib.ListN.{length, take, drop, length-drop}
use lib.Seq.{take-add, drop-drop}
use lib.Pow.{pow_pos}
use lib.Dec.{eqb}
use Rattle.bits.specs.Bits.{value}
use Rattle.bits.proofs.Tests.{both, both⁻¹}
use Rattle.bits.proofs.Lists.{length_part}
use Rattle.bits.proofs.Numbers.{value_append, value-take-fits}
use Rattle.codec.specs.Parts.{number, element}
use Rattle.codec.specs.Reading.{Found, got, read_at, reached}
use Rattle.codec.proofs.Onward.{element-got}
use Rattle.grammar.specs.SiteSheet.{digit_refusal, all_digits}
use Rattle.walk.specs.Inner.{Reached, pass, steps, passing}
use Rattle.walk.proofs.Numbers.{number-there, number-says}
use Rattle.walk.proofs.Passes.{pass-at, steps-last}

-- a number of a + b bits is one of a bits and one of b
run_splits : (a b : ℕ) (l : List Bool) (at : ℕ) → 1 ≤ a → 1 ≤ b → {v q : ℕ} → read_at (number (a + b)) l at ≡ got v q
    → (read_at (number a) l at ≡ got (v / 2 ^ b) (at + a)) × (read_at (number b) l (at + a) ≡ got (v % 2 ^ b) q)
run_splits a b l at first second {v} {q} e =
    let says = number-says (a + b) l at (omega arith) e in
    let x : List Bool = drop at l in
    let high : ℕ = value (take a x) in
    let low : ℕ = value (take b (drop a x)) in
    let inside : a + b ≤ length x = omega (arith, length-drop at l, says.0) in
    let is : v ≡ high * 2 ^ b + low =
    says.1 ∙ ap value (take-add a b x) ∙ value_append (take a x) (take b (drop a x))
    ∙ ap (λ (m : ℕ). high * 2 ^ m + low) (length_part x a b inside) in
    let small : low < 2 ^ b = value-take-fits b b (drop a x) (omega arith) in
    let front : v / 2 ^ b ≡ high =
    ap (λ (m : ℕ). m / 2 ^ b) is ∙ mul-add-div_right (pow_pos b) high low ∙ ap (λ (m : ℕ). high + m) (div-eq_of_lt small) ∙ add-zero high in
    let back : v % 2 ^ b ≡ low = ap (λ (m : ℕ). m % 2 ^ b) is ∙ mul-add-mod_self_right high (2 ^ b) low ∙ mod-eq_of_lt small in (
      number-there a l at first (omega (arith, says.0)) ∙ ap {B = Found ℕ} (λ (m : ℕ). got m (at + a)) (sym front),
      number-there b l (at + a) second (omega (arith, says.0))
          ∙ ap₂ {C = Found ℕ} got (ap (λ (t : List Bool). value (take b t)) (sym (drop-drop a at l)) ∙ sym back) (omega (arith, says.2)),
    )

pub all-passing : (k v : ℕ) → passing digit_refusal 4 k v ≡ all_digits k v
unfolding passing all_digits
all-passing zero v = refl
all-passing (suc k) v = ap (λ (b : Bool). eqb (digit_refusal (v % 16)) 0 && b) (all-passing k (v / 16))

pub steps_add : (f : Reached → Reached) (j k : ℕ) (r : Reached) → steps f k (steps f j r) ≡ steps f (j + k) r
unfolding steps
steps_add f zero k r = ap (λ (m : ℕ). steps f m r) (sym (zero-add k))
steps_add f (suc j) k r = steps_add f j k (f r) ∙ ap (λ (m : ℕ). steps f m r) (sym (suc-add j k))

module _ (refuse : ℕ → ℕ) (w : ℕ) where
  -- of more elements some
  fewer : (k m v : ℕ) → k ≤ m → passing refuse w m v ≡ true → passing refuse w k v ≡ true
  unfolding passing
  fewer zero m v h e = refl
  fewer (suc k) zero v h e = absurd (omega arith)
  fewer (suc k) (suc m) v h e =
      let p = both (eqb (refuse (v % 2 ^ w)) 0) (passing refuse w m (v / 2 ^ w)) e in both⁻¹ p.0 (fewer k m (v / 2 ^ w) (omega arith) p.1)

  last-legal : (k v : ℕ) → passing refuse w (suc k) v ≡ true → (refuse (v % 2 ^ w) ≡ 0) × (passing refuse w k (v / 2 ^ w) ≡ true)
  unfolding passing
  last-legal k v e = let p = both (eqb (refuse (v % 2 ^ w)) 0) (passing refuse w k (v / 2 ^ w)) e in (eqb-true _ _ p.0, p.1)

  module _ (some : 1 ≤ w) (l : List Bool) (at : ℕ) where
    -- the elements of a number
    row : (k : ℕ) {v q : ℕ} → read_at (number (w * suc k)) l at ≡ got v q → passing refuse w (suc k) v ≡ true
        → steps (pass (element w refuse) l) (suc k) (Ok (record { at = at })) ≡ Ok (record { at = q })
    unfolding steps
    row zero {v} {q} e h =
        let one : w * 1 ≡ w = mul-one w in
        let f : read_at (number w) l at ≡ got v q = rw one at e in
        let small : v < 2 ^ w = rw (number-says w l at some f).1 (value-take-fits w w (drop at l) (omega arith)) in
        let z : v % 2 ^ w ≡ v = mod-eq_of_lt small in
        pass-at (element w refuse) l at ∙ ap reached (element-got w refuse l at v q f (rw z at (last-legal 0 v h).0))
    row (suc k) {v} {q} e h =
        let m : w * suc (suc k) ≡ w * suc k + w = mul-suc w (suc k) in
        let f : read_at (number (w * suc k + w)) l at ≡ got v q = rw m at e in
        let many : 1 ≤ w * suc k = omega (arith, mul-suc w k) in
        let parts = run_splits (w * suc k) w l at many some f in
        let legal = last-legal (suc k) v h in
        steps-last (pass (element w refuse) l) (suc k) (Ok (record { at = at }))
        ∙ ap (pass (element w refuse) l) (row k parts.0 legal.1)
        ∙ pass-at (element w refuse) l (at + w * suc k)
        ∙ ap reached (element-got w refuse l (at + w * suc k) (v % 2 ^ w) q parts.1 legal.0)

    -- tested with more
    pub row-passes : (k m : ℕ) → 1 ≤ k → k ≤ m → {v q : ℕ} → read_at (number (w * k)) l at ≡ got v q → passing refuse w m v ≡ true
        → steps (pass (element w refuse) l) k (Ok (record { at = at })) ≡ Ok (record { at = q })
    row-passes zero m h few e t = absurd (omega arith)
    row-passes (suc k) m h few {v} e t = row k e (fewer (suc k) m v few t)
