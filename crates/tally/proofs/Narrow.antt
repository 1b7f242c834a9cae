-- A word that is wider than a byte becomes 255 in a record: every test of a length or a digit decides it as it decides the word. Assumes nothing.
use mathlib.Core.Path.{◌≡◌, refl, sym, ap, ◌∙◌}
use mathlib.Core.Bool.{Bool, true, false}
use Prim.Native.Nat.{ℕ, zero, suc, ◌+◌, ◌≤◌, ◌<◌}
use native.Mathlib.Omega.{arith}
use lib.Dec.{leb, ltb}
use borrow.Author.Tests.{leb-true, leb-false, le-leb, lt-leb, ltb-true, ltb-false, lt-ltb, le-ltb}
use Rattle.bits.proofs.Numbers.{length-bits_of}
use Rattle.codec.specs.Codec.{first}
use Rattle.codec.specs.Parts.{is_zero, number_fault, number, element, tested}
use Rattle.grammar.specs.SiteSheet.{length_refusal}
use Rattle.words.specs.RecordWords.{narrow}
use Rattle.tally.specs.Tally.{Tallies}
use Rattle.tally.specs.declared.Tally.{Tally}

module _ (x b : ℕ) where
  pub narrow-leb : b < 255 → leb (narrow x) b ≡ leb x b
  narrow-leb h = go (leb x b) refl
    where
      go : (t : Bool) → leb x b ≡ t → leb (narrow x) b ≡ t
      go true e = le-leb (narrow x) b (omega (arith, leb-true x b e))
      go false e = lt-leb (narrow x) b (omega (arith, leb-false x b e))

  leb-narrow : b ≤ 255 → leb b (narrow x) ≡ leb b x
  leb-narrow h = go (leb b x) refl
    where
      go : (t : Bool) → leb b x ≡ t → leb b (narrow x) ≡ t
      go true e = le-leb b (narrow x) (omega (arith, leb-true b x e))
      go false e = lt-leb b (narrow x) (omega (arith, leb-false b x e))

  narrow-ltb : b ≤ 255 → ltb (narrow x) b ≡ ltb x b
  narrow-ltb h = go (ltb x b) refl
    where
      go : (t : Bool) → ltb x b ≡ t → ltb (narrow x) b ≡ t
      go true e = lt-ltb (narrow x) b (omega (arith, ltb-true x b e))
      go false e = le-ltb (narrow x) b (omega (arith, ltb-false x b e))

pub zero-leb : (d : ℕ) → is_zero d ≡ leb d 0
zero-leb zero = refl
zero-leb (suc d) = sym (lt-leb (suc d) 0 (omega arith))

-- ---- the length of a number

length-fault : (x : ℕ) → first (number_fault 5 (narrow x)) (length_refusal (narrow x)) ≡ first (number_fault 5 x) (length_refusal x)
length-fault x = rw (narrow-ltb x 32 (omega arith), leb-narrow x 1 (omega arith), narrow-leb x 24 (omega arith))

pub length-narrowed : {x k : ℕ} {t s : Tally} → Tallies (element 5 (λ v. k)) x t s → k ≡ length_refusal x → Tallies (element 5 length_refusal)
    (narrow x) t s
unfolding element tested number
length-narrowed {x} {t = t} h e = record {
  clean = h.clean;
  refusal = h.refusal ∙ ap (λ (n : ℕ). first t.refusal (first (number_fault 5 x) n)) e ∙ ap (first t.refusal) (sym (length-fault x));
  bits = h.bits ∙ ap (λ (n : ℕ). t.bits + n) (length-bits_of 5 x ∙ sym (length-bits_of 5 (narrow x)));
}
