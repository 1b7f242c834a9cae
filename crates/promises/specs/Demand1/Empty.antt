-- Demand 1, the empty archive: "9, 8. Each is given exactly then."
use Rattle.std.specs.Prelude.{◌≡◌, refl, List, [], ◌∷◌, ℕ, ◌/◌, ◌%◌, ◌≤◌, ◌<◌, length, Ok, Err}
use Rattle.archive.specs.Keeping.{stored_refusal, over, empty_is, empty_out}
use Rattle.archive.specs.declared.refusal.Refusal.{Refusal}
use Rattle.promises.specs.Answers.{Exactly}

abbrev pub number : ℕ → ℕ → ℕ
number home room = (stored_refusal (empty_is home room)).number

-- the home network in three bytes, the most significant first, and the entry count 0 in two
abbrev pub header : ℕ → List ℕ
header home = home / 65536 ∷ home / 256 % 256 ∷ home % 256 ∷ 0 ∷ 0 ∷ []

-- the table of refusals, as far as the empty archive goes
pub data Given (home room : ℕ) : ℕ → Type 0 where
  success : home < 16777216 → 5 ≤ room → Given home room 0
  -- 9: a home network out of its range
  unranged : 16777216 ≤ home → Given home room 9
  -- 8: the result exceeds the lent buffer
  no_room : home < 16777216 → room < 5 → Given home room 8

-- each number is met, and of two the first in order is given
met : (number 1 5 ≡ 0) × (number 16777216 5 ≡ 9) × (number 1 4 ≡ 8) × (number 16777216 4 ≡ 9)
unfolding empty_is
met = (refl, refl, refl, refl)

-- Proved in proofs/Demand1/Empty.antt.
pub record Promise : Type 0 where
  pub table : (home room : ℕ) → Exactly (λ k. k) (number home room) (0 ∷ 9 ∷ 8 ∷ []) (Given home room)
  -- "Success returns the length written; output bytes after those that hold that length stay."
  pub success : (home : ℕ) (out : List ℕ) → number home (length out) ≡ 0
      → (empty_is home (length out) ≡ Ok 5) × (empty_out home out ≡ over (header home) out)
  -- "A refusal returns its number only and changes no byte."
  pub refusal : (home : ℕ) (out : List ℕ) (f : Refusal) → empty_is home (length out) ≡ Err f → empty_out home out ≡ out
