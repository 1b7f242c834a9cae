-- Places that are read as they stand, and those that the PDU does not carry. Assumes nothing.
use mathlib.Core.Path.{◌≡◌, ◌∙◌}
use mathlib.Core.Bool.{Bool}
use mathlib.Core.List.{List, [], ◌∷◌, ◌++◌}
use Prim.Native.Nat.{ℕ, zero, suc, ◌≤◌, ◌<◌}
use native.Mathlib.Omega.{arith}
use lib.ListN.{length, get_or, replicate}
use Rattle.codec.specs.Codec.{Codec}
use Rattle.codec.specs.Places.{places}
use Rattle.codec.specs.Reading.{Found, got, and_next, read_at}
use Rattle.codec.proofs.Reading.{read_at-nil, read_at-cons}

-- entries in hand before those that an answer has
abbrev pub behind : {A : Type 0} → List A → Found (List A) → Found (List A)
behind xs o = and_next o (λ l at. got (xs ++ l) at)

module _ {A : Type 0} (c z : Codec A) (s : List Bool) where
  -- the places that the PDU does not carry
  pub places-rest : (x : A) → ((at : ℕ) → read_at z s at ≡ got x at) → (m at : ℕ) → read_at (places c z m 0) s at ≡ got (replicate m x) at
  unfolding places
  places-rest x h zero at = read_at-nil s at
  places-rest x h (suc m) at = read_at-cons z (places c z m 0) s at ∙ rw (h at, places-rest x h m at)

  -- entries whose values and places are known are read as they stand
  pub places-each : (d : A) (m n : ℕ) (place : ℕ → ℕ) (l : List A) → length l ≡ m → n ≤ m
      → ((i : ℕ) → i < n → read_at c s (place i) ≡ got (get_or l i d) (place (suc i)))
      → ((i at : ℕ) → n ≤ i → i < m → read_at z s at ≡ got (get_or l i d) at)
      → read_at (places c z m n) s (place 0) ≡ got l (place n)
  unfolding places
  places-each d zero zero place [] e h used unused = read_at-nil s (place 0)
  places-each d zero (suc n) place [] e h used unused = absurd (omega arith)
  places-each d zero n place (a ∷ l) e h used unused = absurd (omega arith)
  places-each d (suc m) n place [] e h used unused = absurd (omega arith)
  places-each d (suc m) zero place (a ∷ l) e h used unused =
      read_at-cons z (places c z m 0) s (place 0)
      ∙ rw (
        unused 0 (place 0) (omega arith) (omega arith),
        places-each d m 0 (λ i. place 0) l (omega arith) (omega arith) (λ i h. absurd (omega arith))
            (λ i at h k. unused (suc i) at (omega arith) (omega arith)),
      )
  places-each d (suc m) (suc n) place (a ∷ l) e h used unused =
      read_at-cons c (places c z m n) s (place 0)
      ∙ rw (
        used 0 (omega arith),
        places-each d m n (λ i. place (suc i)) l (omega arith) (omega arith) (λ i h. used (suc i) (omega arith))
            (λ i at h k. unused (suc i) at (omega arith) (omega arith)),
      )
