-- Tests joined, and what is picked by a test. Assumes nothing.
use mathlib.Core.Path.{◌≡◌, refl, sym, ◌∙◌}
use mathlib.Core.Bool.{Bool, true, false, ◌&&◌, true≢false, and-eq-true_iff}
use Prim.Native.Nat.{ℕ}
use native.Mathlib.Omega.{arith}
use Rattle.bits.specs.Bits.{pick}

pub differ : {A : Type 0} → true ≡ false → A
differ e = absurd (true≢false e)

-- where an equation joins two constructors: `never cc`
pub never : {A : Type 0} → ◌≡◌ {A = ℕ} 0 1 → A
never e = absurd (omega arith)

pub false-unless : (p : Bool) → (p ≡ true → ⊥) → p ≡ false
false-unless true f = absurd (f refl)
false-unless false f = refl

pub both : (a b : Bool) → a && b ≡ true → (a ≡ true) × (b ≡ true)
both a b = (and-eq-true_iff a b).0

pub both⁻¹ : {a b : Bool} → a ≡ true → b ≡ true → a && b ≡ true
both⁻¹ p q = rw (p, q)

pub and-false : (a : Bool) {b : Bool} → b ≡ false → a && b ≡ false
and-false true p = p
and-false false p = refl

-- a call's answer that is ensured to be x, and the branch taken on it, say x
module _ {r x : Bool} (e : r ≡ x) where
  pub said-no : r ≡ false → x ≡ false
  said-no t = sym e ∙ t

  pub said-yes : r ≡ true → x ≡ true
  said-yes t = sym e ∙ t

-- ---- one of two, by a test

-- what the second is not was picked first
pub picked : {A : Type 0} (t : Bool) {a b x : A} → pick t a b ≡ x → (b ≡ x → ⊥) → (t ≡ true) × (a ≡ x)
picked true e f = (refl, e)
picked false e f = absurd (f e)

-- what holds of both holds of the one picked
pub by-test {ℓ} : {A : Type 0} (P : A → Type ℓ) (t : Bool) {a b : A} → P a → P b → P (pick t a b)
by-test P true h k = h
by-test P false h k = k

pub same-pick : {A : Type 0} (t : Bool) (a : A) → pick t a a ≡ a
same-pick t a = by-test (λ x. x ≡ a) t refl refl

pub pick-ap : {A B : Type 0} (f : A → B) (t : Bool) (a b : A) → f (pick t a b) ≡ pick t (f a) (f b)
pick-ap f true a b = refl
pick-ap f false a b = refl

-- a test that the first passes and the second does not is the one by which it was picked
pub pick-told : {A : Type 0} (f : A → Bool) (t : Bool) {a b : A} → f a ≡ true → f b ≡ false → f (pick t a b) ≡ t
pick-told f true h k = h
pick-told f false h k = k
