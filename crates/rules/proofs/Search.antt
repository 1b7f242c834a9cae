-- A loop that tests the elements of a list in order: what is left to test decides what the whole list gives. Assumes nothing.
use mathlib.Core.Path.{◌≡◌, refl, sym, ap, ◌∙◌}
use mathlib.Core.Bool.{Bool, true, false, ◌&&◌, ◌||◌}
use mathlib.Core.List.{List, [], ◌∷◌}
use Prim.Native.Nat.{ℕ, zero, suc, ◌+◌, ◌≤◌, ◌<◌}
use native.Mathlib.Nat.{zero-add}
use native.Mathlib.Numerals.{add-one}
use native.Mathlib.Omega.{arith}
use lib.ListN.{length, get_or, take, length-take, drop_of_length-le}
use lib.Dec.{eqb}
use borrow.Author.Tests.{ne_eqb}
use lib.Seq.{slice, slice-cons}
use Rattle.std.specs.List.{list_any}
use Rattle.bits.specs.Lists.{some, every}
use Rattle.rules.specs.Matching.{same}

-- std's word for the same test
pub any-some : {A : Type 0} (f : A → Bool) (l : List A) → list_any f l ≡ some f l
unfolding some
any-some f [] = refl
any-some f (a ∷ l) = ap (λ (t : Bool). f a || t) (any-some f l)

-- a sum is zero if what it was and what is added are
more : {x : Bool} (sum v : ℕ) (rest : Bool) → eqb sum 0 && (eqb v 0 && rest) ≡ x → eqb (sum + v) 0 && rest ≡ x
more zero v rest q = rw zero-add q
more (suc sum) v rest q = rw (ne_eqb (suc sum + v) 0 (λ e. omega arith)) (rw (ne_eqb (suc sum) 0 (λ e. omega arith)) at q)

module _ {A : Type 0} (f : A → Bool) (l : List A) (d : A) {i n : ℕ} (h : i < n) (k : n ≤ length l) {x : Bool} where
  -- a search goes on past an element that does not pass, and ends at one that does
  pub passed : f (get_or l i d) ≡ false → some f (slice i n l) ≡ x → some f (slice (i + 1) n l) ≡ x
  unfolding some
  passed e q = rw (add-one i) (rw (slice-cons i n l d h k, e) at q)

  pub found : f (get_or l i d) ≡ true → some f (slice i n l) ≡ x → true ≡ x
  unfolding some
  found e q = rw (slice-cons i n l d h k, e) at q

  -- a test of all by a sum, to which what passes adds nothing: past an element
  pub summed : (sum v : ℕ) → f (get_or l i d) ≡ eqb v 0 → eqb sum 0 && every f (slice i n l) ≡ x → eqb (sum + v) 0 && every f (slice (i + 1) n l) ≡ x
  unfolding every
  summed sum v e q = rw (add-one i) (more sum v (every f (slice (suc i) n l)) (rw (slice-cons i n l d h k, e) at q))

-- two lists are compared past elements that are equal, up to two that differ
module _ (s t : List ℕ) {i n : ℕ} (h : i < n) (k : n ≤ length s) (m : n ≤ length t) {x : Bool} where
  pub agrees : eqb (get_or s i 0) (get_or t i 0) ≡ true → same (slice i n s) (slice i n t) ≡ x → same (slice (i + 1) n s) (slice (i + 1) n t) ≡ x
  unfolding same
  agrees e q = rw (add-one i) (rw (slice-cons i n s 0 h k, slice-cons i n t 0 h m, e) at q)

  pub differs : eqb (get_or s i 0) (get_or t i 0) ≡ false → same (slice i n s) (slice i n t) ≡ x → false ≡ x
  unfolding same
  differs e q = rw (slice-cons i n s 0 h k, slice-cons i n t 0 h m, e) at q

-- at the end nothing is left to test
none_left : {A : Type 0} (l : List A) {i n : ℕ} → n ≤ i → slice i n l ≡ []
none_left l {i} {n} h = drop_of_length-le (take n l) {i = i} (omega (arith, length-take n l))

module _ {i n : ℕ} (h : n ≤ i) {x : Bool} where
  pub some_end : {A : Type 0} (f : A → Bool) (l : List A) → some f (slice i n l) ≡ x → false ≡ x
  unfolding some
  some_end f l q = rw (none_left l h) at q

  pub sum-end : {A : Type 0} (f : A → Bool) (l : List A) (sum : ℕ) → eqb sum 0 && every f (slice i n l) ≡ x → eqb sum 0 ≡ x
  unfolding every
  sum-end f l sum q = sym (whole (eqb sum 0)) ∙ (rw (none_left l h) at q)
    where
      whole : (t : Bool) → t && true ≡ t
      whole true = refl
      whole false = refl

  pub same_end : (s t : List ℕ) → same (slice i n s) (slice i n t) ≡ x → true ≡ x
  unfolding same
  same_end s t q = rw (none_left s h, none_left t h) at q
