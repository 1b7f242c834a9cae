-- Answers as document 01 numbers them: 0 for success, otherwise the refusal number.
use Rattle.std.specs.Prelude.{◌≡◌, ◌↔◌, Bool, true, false, ◌||◌, List, [], ◌∷◌, ℕ, eqb}

-- ---- one of these numbers

abbrev pub is_one_of : List ℕ → ℕ → Bool
is_one_of [] n = false
is_one_of (k ∷ ks) n = eqb n k || is_one_of ks n

abbrev pub OneOf : List ℕ → ℕ → Type 0
OneOf ks n = is_one_of ks n ≡ true

-- ---- a call keeps its table

-- the number of its answer is one of these, and each answer, a number or a number with entry and place, is given exactly then
pub record Exactly {ℓ} {A : Type 0} (number : A → ℕ) (answer : A) (numbers : List ℕ) (Given : A → Type ℓ) : Type ℓ where
  pub listed : OneOf numbers (number answer)
  pub exactly : (a : A) → (answer ≡ a) ↔ Given a
