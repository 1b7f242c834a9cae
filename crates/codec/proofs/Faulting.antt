-- A clean value has a fault exactly where a part of it is refused. Assumes nothing.
use mathlib.Core.Path.{◌≡◌, refl, sym}
use mathlib.Core.Bool.{Bool, true, false}
use mathlib.Core.List.{List, [], ◌∷◌}
use Prim.Native.Nat.{ℕ, zero, suc, ◌^◌}
use lib.Dec.{ltb}
use borrow.Author.Tests.{ltb-false, le-ltb}
use Rattle.bits.specs.Bits.{pick}
use Rattle.bits.proofs.Tests.{both}
use Rattle.codec.specs.Codec.{Codec, Legal, first}
use Rattle.codec.specs.Parts.{number, absent, seq, tested, shaped}
use Rattle.codec.specs.Places.{nil, cons}
use Rattle.codec.specs.Faults.{Faults, wide, refused, untested, second, entries, shape}
use Rattle.codec.specs.Faults as faults
use Rattle.codec.proofs.Kept.{Kept}

-- ---- what is refused has that fault

-- the refusal k, which is not 0
data Is (k : ℕ) : ℕ → Type 0 where
  is : {m : ℕ} → k ≡ suc m → Is k (suc m)

is-first : {k m : ℕ} (n : ℕ) → Is k m → Is k (first m n)
is-first n (is e) = is e

is-fault : {A : Type 0} {c : Codec A} {a : A} {k : ℕ} → Faults A c a k → Is k (c.fault a)
unfolding number seq tested shaped cons
is-fault (wide w v h) = rw (le-ltb v (2 ^ w) h) (is refl)
is-fault (refused c test into a k l e) = rw (l.faultless, e) (is refl)
is-fault (untested c test into a k h) = is-first (test a) (is-fault h)
is-fault (faults.first c d a b k h) = is-first ((d a).fault b) (is-fault h)
is-fault (second c d a b k l h) = rw l.faultless (is-fault h)
is-fault (entries c d a l k h) = is-fault h
is-fault (shape c to from there back b k h) = is-fault h

pub faults-refused : {A : Type 0} {c : Codec A} {a : A} {k : ℕ} → Faults A c a k → c.fault a ≡ k
faults-refused h = go (is-fault h)
  where
    go : {k m : ℕ} → Is k m → m ≡ k
    go (is e) = sym e

-- ---- a fault is refused

abbrev pub Faulted : (A : Type 0) → Codec A → A → ℕ → Type 1
Faulted A c a zero = Unit {1}
Faulted A c a (suc k) = Faults A c a (suc k)

abbrev pub Faulting : (A : Type 0) → Codec A → Type 1
Faulting A c = (a : A) → c.clean a ≡ true → Faulted A c a (c.fault a)

faults-number : (w : ℕ) → Faulting ℕ (number w)
unfolding number
faults-number w v clean = go (ltb v (2 ^ w)) refl
  where
    go : (t : Bool) → ltb v (2 ^ w) ≡ t → Faulted ℕ (number w) v (pick t 0 3)
    go true e = tt
    go false e = wide w v (ltb-false v (2 ^ w) e)

module _ {A : Type 0} (c : Codec A) where
  legal : {a : A} → c.clean a ≡ true → c.fault a ≡ 0 → Legal c a
  legal k f = record { clean = k; faultless = f }

  faults-tested : (test into : A → ℕ) → Faulting A c → Faulting A (tested c test into)
  unfolding tested
  faults-tested test into h a clean = go (c.fault a) refl (h a clean) (test a) refl
    where
      go : (m : ℕ) → c.fault a ≡ m → Faulted A c a m → (n : ℕ) → test a ≡ n → Faulted A (tested c test into) a (first m n)
      go zero e x zero f = tt
      go zero e x (suc n) f = refused c test into a n (legal clean e) f
      go (suc m) e x n f = untested c test into a (suc m) x

  faults-seq : {B : Type 0} (d : A → Codec B) → Faulting A c → ((a : A) → Faulting B (d a)) → Faulting (A × B) (seq c d)
  unfolding seq
  faults-seq {B} d h k (a, b) clean = go (c.fault a) refl (h a cleans.0) ((d a).fault b) (k a b cleans.1)
    where
      cleans : (c.clean a ≡ true) × ((d a).clean b ≡ true)
      cleans = both (c.clean a) ((d a).clean b) clean

      go : (m : ℕ) → c.fault a ≡ m → Faulted A c a m → (n : ℕ) → Faulted B (d a) b n → Faulted (A × B) (seq c d) (a, b) (first m n)
      go zero e x zero y = tt
      go zero e x (suc n) y = second c d a b (suc n) (legal cleans.0 e) y
      go (suc m) e x n y = faults.first c d a b (suc m) x

  faults-cons : (d : Codec (List A)) → Faulting A c → Faulting (List A) d → Faulting (List A) (cons c d)
  unfolding seq cons
  faults-cons d h k [] clean = tt
  faults-cons d h k (a ∷ l) clean = go ((seq c (λ x. d)).fault (a, l)) (faults-seq (λ x. d) h (λ x. k) (a, l) clean)
    where
      go : (m : ℕ) → Faulted (A × List A) (seq c (λ x. d)) (a, l) m → Faulted (List A) (cons c d) (a ∷ l) m
      go zero x = tt
      go (suc m) x = entries c d a l (suc m) x

  faults-shaped : {B : Type 0} (to : A → B) (from : B → A) (there : (a : A) → c.clean a ≡ true → c.fault a ≡ 0 → from (to a) ≡ a)
      (back : (b : B) → to (from b) ≡ b) → Faulting A c → Faulting B (shaped c to from there back)
  unfolding shaped
  faults-shaped {B} to from there back h b clean = go (c.fault (from b)) (h (from b) clean)
    where
      go : (m : ℕ) → Faulted A c (from b) m → Faulted B (shaped c to from there back) b m
      go zero x = tt
      go (suc m) x = shape c to from there back b (suc m) x

-- every part does, whatever its tests answer
pub faulting : (Code : ℕ → Type 0) → Kept Code Faulting
unfolding absent nil
faulting Code = record {
  number = faults-number;
  absent = λ v clean. tt;
  tested = λ c test into codes. faults-tested c test into;
  seq = λ c d. faults-seq c d;
  nil = λ l clean. tt;
  cons = faults-cons;
  shaped = λ c to from there back. faults-shaped c to from there back;
}
