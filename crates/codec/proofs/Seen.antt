-- A value that stands at a place whether it is legal or not: it is what is read there, or reading is refused by its fault. Assumes nothing.
use mathlib.Core.Path.{◌≡◌, refl, sym, ap, ◌∙◌}
use mathlib.Core.Bool.{Bool, true}
use mathlib.Core.List.{List}
use Prim.Native.Nat.{ℕ, zero, suc, ◌+◌}
use native.Mathlib.Omega.{arith}
use Rattle.bits.proofs.Tests.{never}
use Rattle.codec.specs.Codec.{Codec}
use Rattle.codec.specs.Parts.{first-none, number_fault, number, absent, element, seq, tested, shaped}
use Rattle.codec.specs.Reading.{got, refused, read_at}
use Rattle.codec.proofs.Reading.{read_at-absent, read_at-seq, read_at-shaped, read_at-tested}
use Rattle.codec.proofs.Onward.{element-got}

pub data Seen {A : Type 0} (c : Codec A) (l : List Bool) (at : ℕ) (a : A) (end : ℕ) : Type 0 where
  read : read_at c l at ≡ got a end → Seen c l at a end
  faulty : (k p : ℕ) → read_at c l at ≡ refused k p → (c.fault a ≡ 0 → ⊥) → Seen c l at a end

module _ {A : Type 0} {c : Codec A} {l : List Bool} {at : ℕ} {a : A} {end : ℕ} where
  -- without a fault it is read
  pub seen-legal : Seen c l at a end → c.fault a ≡ 0 → read_at c l at ≡ got a end
  seen-legal (read e) h = e
  seen-legal (faulty k p e f) h = absurd (f h)

  -- and whatever is read is it
  pub seen_read : Seen c l at a end → (b : A) (q : ℕ) → read_at c l at ≡ got b q → read_at c l at ≡ got a end
  seen_read (read e) b q r = e
  seen_read (faulty k p e f) b q r = never cc

module _ {l : List Bool} {at v end : ℕ} where
  pub seen-number : (w : ℕ) → read_at (number w) l at ≡ got v end → Seen (number w) l at v end
  seen-number w e = read e

  pub seen-element : (w : ℕ) (refuse : ℕ → ℕ) → read_at (number w) l at ≡ got v end → Seen (element w refuse) l at v end
  unfolding element tested number
  seen-element w refuse e = go (refuse v) refl
    where
      go : (k : ℕ) → refuse v ≡ k → Seen (element w refuse) l at v end
      go zero h = read (element-got w refuse l at v end e h)
      go (suc k) h =
          faulty (suc k) (at + 0) (read_at-tested (number w) refuse (λ v. 0) l at ∙ rw (e, h))
          (λ f. omega (arith, (first-none (number_fault w v) (refuse v) f).1))

pub seen-absent : (l : List Bool) (at : ℕ) → Seen absent l at 0 at
seen-absent l at = read (read_at-absent l at)

pub seen-seq : {A B : Type 0} {c : Codec A} (d : A → Codec B) {l : List Bool} {at m end : ℕ} {a : A} {b : B}
    → Seen c l at a m → Seen (d a) l m b end → Seen (seq c d) l at (a, b) end
unfolding seq
seen-seq {c = c} d {l} {at} (read e) (read f) = read (read_at-seq c d l at ∙ rw (e, f))
seen-seq {c = c} d {l} {at} {a = a} {b} (read e) (faulty k p f h) =
    faulty k p (read_at-seq c d l at ∙ rw (e, f)) (λ n. h (first-none (c.fault a) ((d a).fault b) n).1)
seen-seq {c = c} d {l} {at} {a = a} {b} (faulty k p e h) s =
    faulty k p (read_at-seq c d l at ∙ rw e) (λ n. h (first-none (c.fault a) ((d a).fault b) n).0)

pub seen-shaped : {A B : Type 0} (c : Codec A) (to : A → B) (from : B → A) (there : (a : A) → c.clean a ≡ true → c.fault a ≡ 0 → from (to a) ≡ a)
    (back : (b : B) → to (from b) ≡ b) {l : List Bool} {at end : ℕ} {a : A} → from (to a) ≡ a → Seen c l at a end
    → Seen (shaped c to from there back) l at (to a) end
unfolding shaped
seen-shaped c to from there back {l} {at} same (read e) = read (read_at-shaped c to from there back l at ∙ rw e)
seen-shaped c to from there back {l} {at} {a = a} same (faulty k p e h) =
    faulty k p (read_at-shaped c to from there back l at ∙ rw e) (λ n. h (ap c.fault (sym same) ∙ n))
