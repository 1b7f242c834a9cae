-- How long the writing of a part can be: a law for each way to build one. Assumes nothing.
use mathlib.Core.Path.{◌≡◌}
use mathlib.Core.Bool.{true}
use mathlib.Core.List.{List, [], ◌∷◌}
use Prim.Native.Nat.{ℕ, zero, suc, ◌+◌, ◌*◌, ◌≤◌}
use native.Mathlib.Nat.{suc-mul}
use native.Mathlib.Omega.{arith}
use lib.ListN.{length, length-append}
use Rattle.bits.proofs.Numbers.{length-bits_of}
use Rattle.codec.specs.Codec.{Codec}
use Rattle.codec.specs.Parts.{number, absent, element, seq, tested, shaped}
use Rattle.codec.specs.Places.{nil, cons, places}

-- no writing of the part is longer than n bits
pub record Within {A : Type 0} (n : ℕ) (c : Codec A) : Type 0 where
  pub size : (a : A) → length (c.print a) ≤ n

pub size_number : (w : ℕ) → Within w (number w)
unfolding number
size_number w = record { size = λ v. omega (arith, length-bits_of w v) }

pub size-absent : Within 0 absent
unfolding absent
size-absent = record { size = λ v. omega arith }

pub size-more : {A : Type 0} {c : Codec A} {m n : ℕ} → Within m c → m ≤ n → Within n c
size-more {c} h l = record { size = λ a. omega (arith, h.size a) }

pub size-seq : {A B : Type 0} {c : Codec A} {d : A → Codec B} {m n : ℕ} → Within m c → ((a : A) → Within n (d a)) → Within (m + n) (seq c d)
unfolding seq
size-seq {c} {d} h k =
    record { size = λ p. omega (arith, h.size p.0, (k p.0).size p.1, length-append (c.print p.0) ((d p.0).print p.1)) }

pub size-tested : {A : Type 0} (c : Codec A) (refuse into : A → ℕ) {m : ℕ} → Within m c → Within m (tested c refuse into)
unfolding tested
size-tested c refuse into h = record { size = h.size }

pub size-element : (w : ℕ) (refuse : ℕ → ℕ) → Within w (element w refuse)
unfolding element
size-element w refuse = size-tested (number w) refuse (λ v. 0) (size_number w)

pub size-shaped : {A B : Type 0} (c : Codec A) (to : A → B) (from : B → A) (there : (a : A) → c.clean a ≡ true → c.fault a ≡ 0 → from (to a) ≡ a)
    (back : (b : B) → to (from b) ≡ b) {m : ℕ} → Within m c → Within m (shaped c to from there back)
unfolding shaped
size-shaped c to from there back h = record { size = λ b. h.size (from b) }

cons-size : {A : Type 0} (c : Codec A) (d : Codec (List A)) (k n : ℕ) → Within k c → Within n d
    → (l : List A) → length ((cons c d).print l) ≤ k + n
unfolding cons
cons-size c d k n h hd [] = omega arith
cons-size c d k n h hd (a ∷ t) = omega (arith, h.size a, hd.size t, length-append (c.print a) (d.print t))

size-cons : {A : Type 0} (c : Codec A) (d : Codec (List A)) (k n : ℕ) → Within k c → Within n d → Within (k + n) (cons c d)
size-cons c d k n h hd = record { size = cons-size c d k n h hd }

pub size-places : {A : Type 0} (c z : Codec A) (k : ℕ) → Within k c → Within k z → (m n : ℕ) → Within (m * k) (places c z m n)
unfolding places nil
size-places c z k h hz zero n = record { size = λ l. omega arith }
size-places c z k h hz (suc m) zero = size-more (size-cons z (places c z m zero) k (m * k) hz (size-places c z k h hz m zero)) (omega (arith, suc-mul m k))
size-places c z k h hz (suc m) (suc n) = size-more (size-cons c (places c z m n) k (m * k) h (size-places c z k h hz m n)) (omega (arith, suc-mul m k))
