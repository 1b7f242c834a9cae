-- The refusals of a set line's fields, in the paper's words. Assumes nothing.
use mathlib.Core.Path.{◌≡◌, refl, sym, ap, ◌∙◌, subst}
use mathlib.Core.Bool.{Bool, true, false, not}
use Prim.Native.Nat.{ℕ, ◌+◌, ◌-◌, ◌≤◌}
use native.Mathlib.Omega.{arith}
use borrow.Author.Tests.{leb-true, leb-false, le-leb, lt-ltb, ltb-true}
use lib.Dec.{leb, ltb}
use Rattle.std.specs.Prelude.{Option, Some, None, is_some, Result, Ok, Err}
use Rattle.bits.specs.Bits.{guard}
use Rattle.bits.proofs.Tests.{both, both⁻¹, never, differ}
use Rattle.terminals.specs.Layers.{layer_at}
use Rattle.terminals.specs.Profiles.{is_among, is_value, takes, fields_refusal}
use Rattle.terminals.specs.declared.Refusal.{Refusal}
use Rattle.terminals.specs.declared.Refusal.TheVariants as refuses
use Rattle.terminals.specs.declared.lines.Fields.{Fields}
use Rattle.terminals.proofs.Places.{each}
use Rattle.boc.specs.Serial.{returned}
use Rattle.promises.specs.Terminals as says
use Rattle.promises.specs.Terminals.{Place, in_cc, in_mm, in_sds, in_sds_tl, in-packet-data, BadValue, BadCount}

-- ---- values of a layer

place-value : {i l : ℕ} {third : Option ℕ} → Place i l third → is_value (layer_at l) third ≡ true
unfolding layer_at
place-value (in_cc x h) = both⁻¹ (le-leb 0 x (omega arith)) (lt-ltb x 2 h)
place-value (in_mm x h) = both⁻¹ (le-leb 10 (10 + x) (omega arith)) (lt-ltb (10 + x) 15 (omega arith))
place-value (in_sds x h) = both⁻¹ (le-leb 20 (20 + x) (omega arith)) (lt-ltb (20 + x) 25 (omega arith))
place-value (in_sds_tl x h) = both⁻¹ (le-leb 0 x (omega arith)) (lt-ltb x 256 h)
place-value in-packet-data = refl

-- a value of a layer that takes one has its place
abbrev HasPlace : ℕ → Type 0
HasPlace l = (x : ℕ) → is_value (layer_at l) (Some x) ≡ true → l ≤ 3 → (i : ℕ) × Place i l (Some x)

shifted : {l x y : ℕ} → y ≡ x → (i : ℕ) × Place i l (Some y) → (i : ℕ) × Place i l (Some x)
shifted {l} e p = subst (λ (z : ℕ). (i : ℕ) × Place i l (Some z)) e p

pub has-place : (l : ℕ) → l ≤ 4 → HasPlace l
unfolding layer_at
has-place =
    each HasPlace
    (λ x e h. let k = both (leb 0 x) (ltb x 2) e in (x, in_cc x (ltb-true x 2 k.1)))
    (λ x e h.
    let k = both (leb 10 x) (ltb x 15) e in
    let m = leb-true 10 x k.0 in
    let n = ltb-true x 15 k.1 in
    shifted {y = 10 + (x - 10)} (omega arith) (2 + (x - 10), in_mm (x - 10) (omega arith)))
    (λ x e h.
    let k = both (leb 20 x) (ltb x 25) e in
    let m = leb-true 20 x k.0 in
    let n = ltb-true x 25 k.1 in
    shifted {y = 20 + (x - 20)} (omega arith) (7 + (x - 20), in_sds (x - 20) (omega arith)))
    (λ x e h. let k = both (leb 0 x) (ltb x 256) e in (12 + x, in_sds_tl x (ltb-true x 256 k.1)))
    (λ x e h. absurd (omega arith))

-- the layers that take a third field are 0 to 3
abbrev TakesIt : ℕ → Type 0
TakesIt l = (is_some (layer_at l).first ≡ true → l ≤ 3) × (is_some (layer_at l).first ≡ false → l ≡ 4)

named-layer : (l : ℕ) → l ≤ 4 → TakesIt l
unfolding layer_at
named-layer =
    each TakesIt (λ e. omega arith, λ e. never cc) (λ e. omega arith, λ e. never cc) (λ e. omega arith, λ e. never cc)
    (λ e. omega arith, λ e. never cc)
    (λ e. never cc, λ e. refl)

not_named : is_some (layer_at 4).first ≡ false
unfolding layer_at
not_named = refl

-- ---- what is wrong with the fields

pub data Judged (f : Fields) : Result (Unit {0}) Refusal → Type 0 where
  bad-value : BadValue f → Judged f (Err refuses.BadValue)
  bad-count : (BadValue f → ⊥) → BadCount f → Judged f (Err refuses.SurplusField)
  good : (BadValue f → ⊥) → (BadCount f → ⊥) → Judged f (Ok tt)

module _ (f : Fields) where
  -- a third field that is no value
  no_value : (third : Option ℕ) → f.third ≡ third → f.layer ≤ 4 → is_value (layer_at f.layer) third ≡ false → BadValue f
  no_value None e h v = never cc
  no_value (Some x) e h v = go (layer_at f.layer).first refl
    where
      unnamed : (layer_at f.layer).first ≡ None → is_value (layer_at f.layer) (Some x) ≡ true
      unnamed n = ap (λ (o : Option ℕ). is_among o (layer_at f.layer).count x) n

      taken : is_some (layer_at f.layer).first ≡ true → BadValue f
      taken n =
          says.third x ((named-layer f.layer h).0 n) e
          (λ i p. differ (sym (place-value p) ∙ v))

      go : (o : Option ℕ) → (layer_at f.layer).first ≡ o → BadValue f
      go (Some t) n = taken (ap is_some n)
      go None n = differ (sym (unnamed n) ∙ v)

  values-good : f.profile ≤ 3 → f.layer ≤ 4 → is_value (layer_at f.layer) f.third ≡ true → BadValue f → ⊥
  values-good p h v (says.profile k) = omega arith
  values-good p h v (says.layer k) = omega arith
  values-good p h v (says.third x k e none) =
      let q = has-place f.layer h x (ap (is_value (layer_at f.layer)) (sym e) ∙ v) k in
      none q.0 q.1

  not_taken : (third : Option ℕ) → f.third ≡ third → f.layer ≤ 4 → takes (layer_at f.layer) third ≡ false → BadCount f
  not_taken None e h v = never cc
  not_taken (Some x) e h v = says.third x ((named-layer f.layer h).1 v) e

  counts-good : takes (layer_at f.layer) f.third ≡ true → f.fourth ≡ false → BadCount f → ⊥
  counts-good v o (says.third x l e) =
      differ
      (sym v ∙ ap (takes (layer_at f.layer)) e ∙ ap (λ (k : ℕ). is_some (layer_at k).first) l ∙ not_named)
  counts-good v o (says.fourth k) = differ (sym k ∙ o)

  pub judged : Judged f (fields_refusal f)
  unfolding fields_refusal
  judged =
      go (leb f.profile 3) refl (leb f.layer 4) refl (is_value (layer_at f.layer) f.third) refl
      (takes (layer_at f.layer) f.third) refl f.fourth refl
    where
      go : (p : Bool) → leb f.profile 3 ≡ p → (l : Bool) → leb f.layer 4 ≡ l → (v : Bool) → is_value (layer_at f.layer) f.third ≡ v
          → (t : Bool) → takes (layer_at f.layer) f.third ≡ t → (o : Bool) → f.fourth ≡ o
          → Judged f
          (guard p (Err refuses.BadValue)
          (guard l (Err refuses.BadValue)
          (guard v (Err refuses.BadValue) (guard t (Err refuses.SurplusField) (guard (not o) (Err refuses.SurplusField) (Ok tt))))))
      go false p l' l v' v t' t o' o = bad-value (says.profile (leb-false f.profile 3 p))
      go true p false l v' v t' t o' o = bad-value (says.layer (leb-false f.layer 4 l))
      go true p true l false v t' t o' o = bad-value (no_value f.third refl (leb-true f.layer 4 l) v)
      go true p true l true v false t o' o =
          bad-count (values-good (leb-true f.profile 3 p) (leb-true f.layer 4 l) v) (not_taken f.third refl (leb-true f.layer 4 l) t)
      go true p true l true v true t true o =
          bad-count (values-good (leb-true f.profile 3 p) (leb-true f.layer 4 l) v) (says.fourth o)
      go true p true l true v true t false o =
          good (values-good (leb-true f.profile 3 p) (leb-true f.layer 4 l) v) (counts-good t o)

-- where 0 is returned, nothing is wrong
pub passes : {f : Fields} {k : Result (Unit {0}) Refusal} → Judged f k → returned k ≡ 0 → k ≡ Ok tt
passes (bad-value b) e = absurd (omega arith)
passes (bad-count n b) e = absurd (omega arith)
passes (good n m) e = refl

-- what is wrong gives the number
pub gives-16 : {f : Fields} {k : Result (Unit {0}) Refusal} → Judged f k → BadValue f → k ≡ Err refuses.BadValue
gives-16 (bad-value b) h = refl
gives-16 (bad-count n b) h = absurd (n h)
gives-16 (good n m) h = absurd (n h)

pub gives-17 : {f : Fields} {k : Result (Unit {0}) Refusal} → Judged f k → (BadValue f → ⊥) → BadCount f → k ≡ Err refuses.SurplusField
gives-17 (bad-value b) h c = absurd (h b)
gives-17 (bad-count n b) h c = refl
gives-17 (good n m) h c = absurd (m c)

pub gives-0 : {f : Fields} {k : Result (Unit {0}) Refusal} → Judged f k → (BadValue f → ⊥) → (BadCount f → ⊥) → k ≡ Ok tt
gives-0 (bad-value b) h c = absurd (h b)
gives-0 (bad-count n b) h c = absurd (c b)
gives-0 (good n m) h c = refl
