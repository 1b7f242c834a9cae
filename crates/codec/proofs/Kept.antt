-- A property that numbers have and that every way to build a part keeps: every part has it (grammar/proofs/Parts.antt). Assumes nothing.
use mathlib.Core.Path.{◌≡◌}
use mathlib.Core.Bool.{true}
use mathlib.Core.List.{List}
use Prim.Native.Nat.{ℕ}
use Rattle.codec.specs.Codec.{Codec}
use Rattle.codec.specs.Parts.{number, absent, seq, tested, shaped}
use Rattle.codec.specs.Places.{nil, cons}

-- where a test answers only with numbers that are a Code
pub record Kept {ℓ} (Code : ℕ → Type 0) (P : (A : Type 0) → Codec A → Type ℓ) : Type (1 ⊔ ℓ) where
  pub number : (w : ℕ) → P ℕ (number w)
  pub absent : P ℕ absent
  pub tested : {A : Type 0} (c : Codec A) (test into : A → ℕ) → ((a : A) → Code (test a)) → P A c → P A (tested c test into)
  pub seq : {A B : Type 0} (c : Codec A) (d : A → Codec B) → P A c → ((a : A) → P B (d a)) → P (A × B) (seq c d)
  pub nil : {A : Type 0} → P (List A) nil
  pub cons : {A : Type 0} (c : Codec A) (d : Codec (List A)) → P A c → P (List A) d → P (List A) (cons c d)
  pub shaped : {A B : Type 0} (c : Codec A) (to : A → B) (from : B → A) (there : (a : A) → c.clean a ≡ true → c.fault a ≡ 0 → from (to a) ≡ a)
      (back : (b : B) → to (from b) ≡ b) → P A c → P B (shaped c to from there back)
