-- Where parts end, ahead of the PDU's end: one law for each way to build a part. Assumes nothing.
use mathlib.Core.Path.{◌≡◌, refl, sym, ap, ◌∙◌, subst}
use mathlib.Core.Bool.{Bool, true}
use mathlib.Core.List.{List}
use Prim.Native.Nat.{ℕ, suc, ◌+◌, ◌-◌, ◌*◌, ◌/◌, ◌%◌, ◌^◌, ◌≤◌, ◌<◌, min}
use native.Mathlib.Nat.{mul-suc}
use native.Mathlib.Omega.{arith}
use lib.ListN.{length, take, length-take}
use lib.Pow.{shr_mod}
use lib.Seq.{take-take}
use Rattle.bits.specs.Bits.{bits}
use Rattle.bits.specs.Frame.{bits_in}
use Rattle.bits.specs.Element.{window_at}
use Rattle.bits.proofs.Lists.{take_min}
use Rattle.bits.proofs.Windows.{window_lt}
use Rattle.codec.specs.Codec.{Codec}
use Rattle.codec.specs.Parts.{number, element, seq}
use Rattle.codec.specs.Reading.{Found, got, read_at}
use Rattle.codec.proofs.Onward.{element-got}
use Rattle.codec.proofs.Windows.{number_in_window}
use Rattle.walk.specs.Inner.{Reached, pass, steps, passing, Ends, Finds}
use Rattle.walk.proofs.Passes.{pass-then, steps-last}
use Rattle.walk.proofs.Rows.{row-passes}

-- an end that no PDU has says nothing
pub off : (f : List Bool → Reached → Reached) (s : List ℕ) (at most : ℕ) → 4097 ≤ most → Ends f s at most (at + 4097)
off f s at most h = record { after = omega arith; near = omega arith; there = λ n few k. absurd (omega (arith, length-take n (bits s))) }

pub found-off : (f : List Bool → Found ℕ) (s : List ℕ) (at result : ℕ) → Finds f s at result (at + 4097)
found-off f s at result = record { after = omega arith; there = λ n few k. absurd (omega (arith, length-take n (bits s))) }

-- the same in bytes whose first bits are these
pub finds-within : {f : List Bool → Found ℕ} (s t : List ℕ) {at result end : ℕ} → take (length (bits s)) (bits t) ≡ bits s → Finds f t at result end
    → Finds f s at result end
finds-within {f} s t {result = result} {end} e r = record {
  after = r.after;
  there = λ n few i.
      let k : ℕ = length (bits s) in
      let same : bits_in (min n k) t ≡ bits_in n s = sym (take-take (min n k) k (bits t) (omega arith)) ∙ ap (take (min n k)) e ∙ take_min n (bits s) in
      subst (λ (l : List Bool). end ≤ length l → f l ≡ got result end) same (r.there (min n k) (omega arith)) i;
}

-- the same part by another name
pub ends_as : {f g : List Bool → Reached → Reached} {s : List ℕ} {at m k end : ℕ} → ((l : List Bool) (r : Reached) → g l r ≡ f l r) → m ≤ k
    → Ends f s at m end → Ends g s at k end
ends_as same h r = record { after = r.after; near = omega (arith, r.near); there = λ n few i. same _ _ ∙ r.there n few i }

-- one part after another
pub ends-then : {f g : List Bool → Reached → Reached} {s : List ℕ} {at m p k q : ℕ} → Ends f s at m p → Ends g s p k q
    → Ends (λ l r. g l (f l r)) s at (m + k) q
ends-then {g = g} x y = record {
  after = omega (arith, x.after, y.after);
  near = omega (arith, x.near, y.near);
  there = λ n few i. ap (g (bits_in n _)) (x.there n few (omega (arith, y.after))) ∙ y.there n few i;
}

-- no part, and one more
pub ends-none : (f : List Bool → Reached → Reached) (s : List ℕ) (at : ℕ) → Ends (λ l. steps (f l) 0) s at 0 at
unfolding steps
ends-none f s at = record { after = omega arith; near = omega arith; there = λ n few i. refl }

pub ends-empty : (f : List Bool → Reached → Reached) (s : List ℕ) (at : ℕ) {k : ℕ} → k ≡ 0 → Ends (λ l. steps (f l) k) s at 0 at
ends-empty f s at e = ends_as (λ l r. ap (λ (j : ℕ). steps (f l) j r) e) (omega arith) (ends-none f s at)

pub ends_more : {f : List Bool → Reached → Reached} (done k : ℕ) {s : List ℕ} {at m p q : ℕ} → k ≡ done + 1
    → Ends (λ l. steps (f l) done) s at (m * done) p
    → Ends f s p m q → Ends (λ l. steps (f l) k) s at (m * k) q
ends_more {f = f} done k {m = m} e x y =
    let one : k ≡ suc done = omega arith in
    ends_as (λ l r. ap (λ (j : ℕ). steps (f l) j r) one ∙ steps-last (f l) done r) (omega (arith, mul-suc m done, ap (λ (j : ℕ). m * j) one))
    (ends-then x y)

-- ---- numbers in a window

-- the number v of w bits stands at a place, if that is inside the PDU
abbrev pub Holds : List ℕ → ℕ → ℕ → ℕ → Type 0
Holds s at w v = (n : ℕ) → at + w ≤ length (bits_in n s) → read_at (number w) (bits_in n s) at ≡ got v (at + w)

pub in_window : (s : List ℕ) (at k w p : ℕ) → p ≡ at + k → 1 ≤ w → k + w ≤ 57 → {v : ℕ} → v ≡ window_at s at / 2 ^ (57 - k - w) % 2 ^ w → Holds s p w v
in_window s at k w p here some inside e n i =
    number_in_window s n at k w p (p + w) here refl some inside i ∙ ap {B = Found ℕ} (λ (x : ℕ). got x (p + w)) (sym e)

pub in-front : (s : List ℕ) (at w k : ℕ) → w + k ≡ 57 → 1 ≤ w → {v : ℕ} → v ≡ window_at s at / 2 ^ k → Holds s at w v
in-front s at w k size some e =
    let rest : k ≡ 57 - 0 - w = omega arith in
    in_window s at 0 w at (omega arith) some (omega arith)
    (e ∙ sym (shr_mod w k (subst (λ (n : ℕ). window_at s at < 2 ^ n) (sym size) (window_lt s at)))
    ∙ ap (λ (j : ℕ). window_at s at / 2 ^ j % 2 ^ w) rest)

-- an element, and what it says
pub coded-ends : {B : Type 0} (w : ℕ) (refuse : ℕ → ℕ) (d : ℕ → Codec B) {s : List ℕ} {at v m end : ℕ}
    → Holds s at w v → refuse v ≡ 0 → Ends (pass (d v)) s (at + w) m end → Ends (pass (seq (element w refuse) d)) s at (w + m) end
coded-ends w refuse d {s} {at} {v} holds legal r = record {
  after = omega (arith, r.after);
  near = omega (arith, r.near);
  there = λ n few i.
      let l : List Bool = bits_in n s in
      pass-then (element w refuse) d l at (element-got w refuse l at v (at + w) (holds n (omega (arith, r.after))) legal)
      ∙ r.there n few i;
}

-- elements in a row, tested with more
pub row_ends : (refuse : ℕ → ℕ) (w k m : ℕ) → 1 ≤ w → 1 ≤ k → k ≤ m → {s : List ℕ} {at v size : ℕ} → size ≡ w * k → Holds s at size v
    → passing refuse w m v ≡ true → Ends (λ l. steps (pass (element w refuse) l) k) s at size (at + size)
row_ends refuse w k m some one few {s} {at} {v} {size} e holds legal = record {
  after = omega arith;
  near = omega arith;
  there = λ n short i. row-passes refuse w some (bits_in n s) at k m one few
      (subst (λ (j : ℕ). read_at (number j) (bits_in n s) at ≡ got v (at + size)) e (holds n i)) legal;
}
