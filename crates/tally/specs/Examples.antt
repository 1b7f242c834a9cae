-- Worked cases: words that are no record's, none of them and one too few or too many.
use Rattle.std.specs.Prelude.{◌≡◌, refl, false, ℕ, replicate}
use Rattle.tally.specs.Tally.{TalliesWords}
use Rattle.tally.specs.declared.Tally.{Tally}

-- not clean, no refusal, no length
abbrev Nothing : ℕ → Type 0
Nothing words = (t : Tally) → TalliesWords (replicate words 0) t → t ≡ record { clean = false; refusal = 0; bits = 0 }

no_record : Nothing 0 × Nothing 519 × Nothing 521
no_record = (λ t h. h.of_others refl, λ t h. h.of_others refl, λ t h. h.of_others refl)
