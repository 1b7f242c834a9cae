-- The first n of m places, the others zero: how a list of entries stands in an array.
use Rattle.std.specs.Prelude.{◌≡◌, refl, Bool, true, false, List, [], ◌∷◌, ◌++◌, ℕ, zero, suc, ◌+◌, length}
use Rattle.std.proofs.Common.{sym, add-zero}
use Rattle.bits.proofs.Tests.{never}
use Rattle.codec.specs.Codec.{Outcome, ok, no, and_then, Faithful, Codec}
use Rattle.codec.specs.Parts.{seq_clean, seq_fault, seq_print, seq_parse, seq-reads, seq-sound}

-- ---- no places

abbrev pub is_nil : {A : Type 0} → List A → Bool
is_nil [] = true
is_nil (a ∷ l) = false

pub is-nil : {A : Type 0} (l : List A) → is_nil l ≡ true → l ≡ []
is-nil [] e = refl
is-nil (a ∷ l) e = never cc

pub nil-reads : {A : Type 0} (l : List A) → is_nil l ≡ true → (at : ℕ) (r : List Bool) → ◌≡◌ {A = Outcome (List A)} (ok [] at r) (ok l (at + 0) r)
nil-reads l h at r = rw (is-nil l h, add-zero)

unfoldable pub nil : {A : Type 0} → Codec (List A)
nil = record {
  clean = is_nil;
  fault = λ l. 0;
  print = λ l. [];
  parse = λ at s. ok [] at s;
  reads = λ l c f. nil-reads l c;
  sound = λ at s. (refl, refl, refl, sym (add-zero at));
}

-- ---- one place before others: one part after another, as a list

module _ {A : Type 0} (c : Codec A) (d : Codec (List A)) where
  abbrev pub cons_clean : List A → Bool
  cons_clean [] = false
  cons_clean (a ∷ l) = seq_clean c (λ x. d) (a, l)

  abbrev pub cons_fault : List A → ℕ
  cons_fault [] = 0
  cons_fault (a ∷ l) = seq_fault c (λ x. d) (a, l)

  abbrev pub cons_print : List A → List Bool
  cons_print [] = []
  cons_print (a ∷ l) = seq_print c (λ x. d) (a, l)

  abbrev pub cons_parse : ℕ → List Bool → Outcome (List A)
  cons_parse at s = and_then (seq_parse c (λ x. d) at s) (λ p at' s'. ok (p.0 ∷ p.1) at' s')

  pub cons-reads : (l : List A) → cons_clean l ≡ true → cons_fault l ≡ 0 → (at : ℕ) (r : List Bool)
      → cons_parse at (cons_print l ++ r) ≡ ok l (at + length (cons_print l)) r
  cons-reads [] hc hf at r = never cc
  cons-reads (a ∷ l) hc hf at r = rw (seq-reads c (λ x. d) (a, l) hc hf at r)

  cons_right : (at : ℕ) (s : List Bool) (o : Outcome (A × List A)) → Faithful (seq_clean c (λ x. d)) (seq_fault c (λ x. d)) (seq_print c (λ x. d)) at s o
      → Faithful cons_clean cons_fault cons_print at s (and_then o (λ p at' s'. ok (p.0 ∷ p.1) at' s'))
  cons_right at s (ok p at' s') h = h
  cons_right at s (no n p) h = tt

  pub cons-sound : (at : ℕ) (s : List Bool) → Faithful cons_clean cons_fault cons_print at s (cons_parse at s)
  cons-sound at s = cons_right at s (seq_parse c (λ x. d) at s) (seq-sound c (λ x. d) at s)

  unfoldable pub cons : Codec (List A)
  cons = record { clean = cons_clean; fault = cons_fault; print = cons_print; parse = cons_parse; reads = cons-reads; sound = cons-sound }

-- ---- m places, of which the PDU carries the first n, each by c; the others are as z says of what is not carried

unfoldable pub places : {A : Type 0} → Codec A → Codec A → ℕ → ℕ → Codec (List A)
places c z zero n = nil
places c z (suc m) zero = cons z (places c z m zero)
places c z (suc m) (suc n) = cons c (places c z m n)
