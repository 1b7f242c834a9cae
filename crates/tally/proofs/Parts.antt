-- What the parts of a record come to, and that they fit: one law for each way to build a codec. Assumes nothing.
use mathlib.Core.Path.{◌≡◌, refl, sym, ap, ◌∙◌, subst}
use mathlib.Core.Bool.{Bool, true, ◌&&◌, and-true, and_assoc}
use Prim.Native.Nat.{ℕ, zero, suc, ◌+◌, ◌*◌, ◌/◌, ◌^◌, ◌≤◌, ◌<◌}
use native.Mathlib.Nat.{lt-div-mul-add}
use native.Mathlib.Omega.{arith}
use borrow.Author.Tests.{lt-ltb}
use lib.ListN.{length-append}
use lib.Pow.{pow_pos}
use Rattle.bits.proofs.Numbers.{length-bits_of}
use Rattle.codec.specs.Codec.{Codec, first}
use Rattle.codec.specs.Parts.{number_fault, number, element, seq, tested, shaped}
use Rattle.tally.specs.Tally.{Tallies}
use Rattle.tally.specs.Inner.{Fits}
use Rattle.tally.specs.declared.Tally.{Tally}

pub first-zero : (n : ℕ) → first n 0 ≡ n
first-zero zero = refl
first-zero (suc n) = refl

first_assoc : (k m n : ℕ) → first (first k m) n ≡ first k (first m n)
first_assoc zero m n = refl
first_assoc (suc k) m n = refl

-- ---- an element

-- a number of which nothing is left where it is shifted by its width
pub in_width : (w v : ℕ) → v / 2 ^ w ≡ 0 → number_fault w v ≡ 0
in_width w v e =
    let h : v < 0 * 2 ^ w + 2 ^ w = rw e at (lt-div-mul-add {a = v} {b = 2 ^ w} (pow_pos w)) in
    rw (lt-ltb v (2 ^ w) (omega arith))

pub element-is : (t : Tally) (v w refusal : ℕ) {k own : ℕ} → own ≡ first (number_fault w v) refusal → k ≡ first t.refusal own
    → Tallies (element w (λ x. refusal)) v t (record { clean = t.clean; refusal = k; bits = t.bits + w })
unfolding element tested number
element-is t v w refusal e f = record {
  clean = sym (and-true t.clean);
  refusal = f ∙ ap (first t.refusal) e;
  bits = ap (λ (n : ℕ). t.bits + n) (sym (length-bits_of w v));
}

module _ (w : ℕ) {v : ℕ} {t s : Tally} where
  -- an element by its own refusal number
  pub refusing : {k : ℕ} (refuse : ℕ → ℕ) → Tallies (element w (λ x. k)) v t s → k ≡ refuse v → Tallies (element w refuse) v t s
  unfolding element tested number
  refusing refuse h e = record {
    clean = h.clean;
    refusal = h.refusal ∙ ap
        (λ (n : ℕ). first t.refusal (first (number_fault w v) n)) e;
    bits = h.bits;
  }

  -- an element none of whose values is refused
  pub numbered : Tallies (element w (λ x. 0)) v t s → Tallies (number w) v t s
  unfolding element tested number
  numbered h = record { clean = h.clean; refusal = h.refusal ∙ ap (first t.refusal) (first-zero (number_fault w v)); bits = h.bits }

-- a number that is not refused
pub legal : (w : ℕ) {v : ℕ} (t : Tally) → v / 2 ^ w ≡ 0
    → Tallies (number w) v t (record { clean = t.clean; refusal = t.refusal; bits = t.bits + w })
legal w {v} t e = numbered w (element-is t v w 0 {own = 0} (sym (ap (λ (n : ℕ). first n 0) (in_width w v e))) (sym (first-zero t.refusal)))

pub fits-number : (w : ℕ) {v : ℕ} {t : Tally} → Fits (number w) v t → t.bits + w ≤ 4096
unfolding number
fits-number w {v} h = omega (arith, h.short, length-bits_of w v)

pub fits-element : (w : ℕ) (refuse : ℕ → ℕ) {v : ℕ} {t : Tally} → Fits (element w refuse) v t → t.bits + w ≤ 4096
unfolding element tested number
fits-element w refuse {v} h = omega (arith, h.short, length-bits_of w v)

-- ---- one part after another

module _ {A B : Type 0} {c : Codec A} (d : A → Codec B) {a : A} {b : B} {t : Tally} where
  pub then : {s r : Tally} → Tallies c a t s → Tallies (d a) b s r → Tallies (seq c d) (a, b) t r
  unfolding seq
  then h k = record {
    clean = k.clean ∙ ap (λ (x : Bool). x && (d a).clean b) h.clean ∙ and_assoc t.clean (c.clean a) ((d a).clean b);
    refusal = k.refusal ∙ ap (λ (n : ℕ). first n ((d a).fault b)) h.refusal ∙ first_assoc t.refusal (c.fault a) ((d a).fault b);
    bits = omega (arith, h.bits, k.bits, length-append (c.print a) ((d a).print b));
  }

  -- where the whole fits its first part does, and after that the second
  pub fits-first : Fits (seq c d) (a, b) t → Fits c a t
  unfolding seq
  fits-first h = record { short = omega (arith, h.short, length-append (c.print a) ((d a).print b)) }

  pub fits_next : {s : Tally} → Fits (seq c d) (a, b) t → Tallies c a t s → Fits (d a) b s
  unfolding seq
  fits_next h k = record { short = omega (arith, h.short, k.bits, length-append (c.print a) ((d a).print b)) }

-- ---- a part under another shape, and a part with a test after it

module _ {A B : Type 0} {c : Codec A} (to : A → B) (from : B → A) (there : (a : A) → c.clean a ≡ true → c.fault a ≡ 0 → from (to a) ≡ a)
    (back : (b : B) → to (from b) ≡ b) {b : B} {t : Tally} where
  pub shape : {r : Tally} → Tallies c (from b) t r → Tallies (shaped c to from there back) b t r
  unfolding shaped
  shape h = record { clean = h.clean; refusal = h.refusal; bits = h.bits }

  pub fits-shape : Fits (shaped c to from there back) b t → Fits c (from b) t
  unfolding shaped
  fits-shape h = record { short = h.short }

module _ {A : Type 0} {c : Codec A} (refuse into : A → ℕ) {a : A} {t : Tally} where
  pub test : {s : Tally} {k n : ℕ} → Tallies c a t s → k ≡ refuse a → n ≡ first s.refusal k
      → Tallies (tested c refuse into) a t (record { clean = s.clean; refusal = n; bits = s.bits })
  unfolding tested
  test {k = k} h e f = record {
    clean = h.clean;
    refusal = f ∙ ap (λ (m : ℕ). first m k) h.refusal ∙ ap (first (first t.refusal (c.fault a))) e ∙ first_assoc t.refusal (c.fault a)
        (refuse a);
    bits = h.bits;
  }

  pub fits-test : Fits (tested c refuse into) a t → Fits c a t
  unfolding tested
  fits-test h = record { short = h.short }

-- ---- a part by another name

module _ {A : Type 0} {c d : Codec A} (e : c ≡ d) {a : A} {t : Tally} where
  pub tallies_as : {r : Tally} → Tallies c a t r → Tallies d a t r
  tallies_as {r} h = subst (λ (x : Codec A). Tallies x a t r) e h

  pub fits_as : Fits d a t → Fits c a t
  fits_as h = subst (λ (x : Codec A). Fits x a t) (sym e) h
