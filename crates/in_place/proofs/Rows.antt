-- Numbers of one width in a row, and nothing in the places after them: each of them, and where they end. Assumes nothing.
use mathlib.Core.Path.{◌≡◌, ap, ◌∙◌, subst}
use mathlib.Core.Bool.{Bool}
use mathlib.Core.List.{List, ◌∷◌}
use Prim.Native.Nat.{ℕ, zero, suc, ◌+◌, ◌*◌, ◌≤◌, ◌<◌}
use native.Mathlib.Omega.{arith}
use lib.ListN.{length, get_or}
use Rattle.codec.specs.Codec.{Codec}
use Rattle.codec.specs.Parts.{number, absent, element}
use Rattle.codec.specs.Places.{places}
use Rattle.codec.proofs.Reading.{read_at-absent, read_at-legal}
use Rattle.codec.proofs.Legality.{legal-length}
use Rattle.codec.proofs.Filling.{places-rest}
use Rattle.walk.proofs.Numbers.{element-says}
use Rattle.reader.specs.Inner.{Read}
use Rattle.reader.proofs.Elements.{number-end}
use Rattle.in_place.proofs.Splits.{split-cons}

module _ (s : List Bool) (w : ℕ) (refuse : ℕ → ℕ) where
  abbrev row : ℕ → ℕ → Codec (List ℕ)
  row m n = places (element w refuse) absent m n

  -- each of them
  pub row_number : (m n : ℕ) {at end : ℕ} {l : List ℕ} → n ≤ m → Read (row m n) s at l end → (i : ℕ) → i < n
      → Read (number w) s (at + w * i) (get_or l i 0) (at + w * i + w)
  unfolding places
  row_number m zero h r i k = absurd (omega arith)
  row_number zero (suc n) h r i k = absurd (omega arith)
  row_number (suc m) (suc n) {at} {end} {l} h r i k =
      let x = split-cons (element w refuse) (row m n) r in
      let first = (element-says w refuse s at x.first.same).0 in
      rw x.is (go i k x.entry x.others (record { same = first }) (number-end s at w first) (row_number m n (omega arith) x.then))
    where
      go : (i : ℕ) → i < suc n → (a : ℕ) (t : List ℕ) {middle : ℕ} → Read (number w) s at a middle → middle ≡ at + w
          → ((j : ℕ) → j < n → Read (number w) s (middle + w * j) (get_or t j 0) (middle + w * j + w))
          → Read (number w) s (at + w * i) (get_or (a ∷ t) i 0) (at + w * i + w)
      go zero k a t r e more =
          let z : at ≡ at + w * 0 = omega arith in
          let y : at + w ≡ at + w * 0 + w = omega arith in
          rw (← y, ← z) (rw e at r)
      go (suc j) k a t {middle} r e more =
          let z : middle + w * j ≡ at + w * suc j = omega arith in
          subst (λ (p : ℕ). Read (number w) s p (get_or t j 0) (p + w)) z (more j (omega arith))

  -- and where they end
  pub row-end : (m n : ℕ) {at end : ℕ} {l : List ℕ} → n ≤ m → Read (row m n) s at l end → end ≡ at + w * n
  unfolding places
  row-end m zero {at} h r =
      let none = places-rest (element w refuse) absent s 0 (read_at-absent s) m at in
      let z : at ≡ at + w * 0 = omega arith in
      cc (r.same, none) ∙ z
  row-end zero (suc n) h r = absurd (omega arith)
  row-end (suc m) (suc n) {at} h r =
      let x = split-cons (element w refuse) (row m n) r in
      let first = number-end s at w (element-says w refuse s at x.first.same).0 in
      let z : at + w + w * n ≡ at + w * suc n = omega arith in
      row-end m n (omega arith) x.then ∙ ap (λ (p : ℕ). p + w * n) first ∙ z

  pub row-length : (m n : ℕ) {at end : ℕ} {l : List ℕ} → Read (row m n) s at l end → length l ≡ m
  row-length m n {at} {end} {l} r = legal-length (element w refuse) absent m n l (read_at-legal (row m n) s at l end r.same).0
