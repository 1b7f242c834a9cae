-- How long a part of a list is; a count beyond the entries that there are takes them all, and leaves none. Assumes nothing.
use mathlib.Core.Path.{◌≡◌, ap}
use mathlib.Core.List.{List, [], ◌∷◌}
use Prim.Native.Nat.{ℕ, zero, suc, ◌+◌, min, ◌≤◌}
use native.Mathlib.Nat.{zero-min, min-zero, suc-min-suc}
use native.Mathlib.Omega.{arith}
use lib.ListN.{length, take, drop, length-drop}
use lib.Seq.{slice, take_all, length-take-le}

module _ {A : Type 0} where
  pub length_part : (l : List A) (at n : ℕ) → at + n ≤ length l → length (take n (drop at l)) ≡ n
  length_part l at n h = length-take-le n (drop at l) (omega (arith, length-drop at l))

  pub take_min : (n : ℕ) (l : List A) → take (min n (length l)) l ≡ take n l
  take_min zero l = rw zero-min
  take_min (suc n) [] = rw min-zero
  take_min (suc n) (a ∷ l) = rw suc-min-suc (ap (λ (t : List A). a ∷ t) (take_min n l))

  pub drop_min : (n : ℕ) (l : List A) → drop (min n (length l)) l ≡ drop n l
  drop_min zero l = rw zero-min
  drop_min (suc n) [] = rw min-zero
  drop_min (suc n) (a ∷ l) = rw suc-min-suc (drop_min n l)

  -- a count beyond the places of an array uses them all
  pub take-used : (l : List A) (n : ℕ) {m u : ℕ} → length l ≡ m → u ≡ min n m → take u l ≡ take n l
  take-used l n h e = rw (e, ← h) (take_min n l)

  pub drop-used : (l : List A) (n : ℕ) {m u : ℕ} → length l ≡ m → u ≡ min n m → slice u m l ≡ drop n l
  drop-used l n {m} h e = rw (take_all m l (omega arith), e, ← h) (drop_min n l)
