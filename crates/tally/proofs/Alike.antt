-- Identities that are alike: what one comes to, and what several do. Assumes nothing.
use mathlib.Core.Path.{◌≡◌, refl, sym, subst}
use mathlib.Core.Bool.{and-true}
use mathlib.Core.List.{List}
use Prim.Native.Nat.{ℕ, zero, suc, ◌+◌, ◌*◌, ◌/◌, ◌^◌, ◌≤◌}
use native.Mathlib.Nat.{mul-zero, mul-suc}
use native.Mathlib.Omega.{arith}
use borrow.Author.Tests.{eq-eqb, ne_eqb}
use lib.Bits.{bit_or, bit_xor, or_add_and, xor_add_and, and_le_l, and_le_r}
use Rattle.codec.specs.Codec.{Codec}
use Rattle.codec.specs.Parts.{absent}
use Rattle.codec.specs.Places.{places}
use Rattle.grammar.specs.Grammar.{identity, no_identity, extension}
use Rattle.grammar.specs.declared.record.Identity.{Identity}
use Rattle.words.specs.RecordWords.{entries_from}
use Rattle.tally.specs.Tally.{nothing, Tallies}
use Rattle.tally.specs.Inner.{Fits, Plain, Wide, Alike}
use Rattle.tally.specs.declared.Tally.{Tally}
use Rattle.tally.proofs.Parts.{first-zero, legal, then, shape}
use Rattle.tally.proofs.Entries.{Tallying, tallying-start, tallying-next}

-- ---- words that have no bit, and no other

or-none : (a b : ℕ) → bit_or a b ≡ 0 → (a ≡ 0) × (b ≡ 0)
or-none a b e = (omega (arith, or_add_and a b, and_le_r a b), omega (arith, or_add_and a b, and_le_l a b))

xor-none : (a b : ℕ) → bit_xor a b ≡ 0 → a ≡ b
xor-none a b e = omega (arith, xor_add_and a b, and_le_l a b, and_le_r a b)

pub none_other : (other p : ℕ) (e : Identity)
    → bit_or (bit_or (bit_or other (e.ssi / 2 ^ 24)) (bit_xor e.present p)) (e.extension / 2 ^ (24 * p)) ≡ 0 → (other ≡ 0) × Plain p e
none_other other p e h =
    let a = or-none _ _ h in
    let b = or-none _ _ a.0 in
    let c = or-none _ _ b.0 in
    (c.0, record { ssi = c.1; same = xor-none _ _ b.1; extension = a.1 })

-- ---- what they come to

-- so many bits more
abbrev further : Tally → ℕ → Tally
further t n = record { clean = t.clean; refusal = t.refusal; bits = t.bits + n }

unused : (t : Tally) {v : ℕ} → v ≡ 0 → Tallies absent v t t
unfolding absent
unused t e = record { clean = rw (e, and-true); refusal = sym (first-zero t.refusal); bits = omega arith }

plain : (t : Tally) (p : ℕ) {e : Identity} → p ≤ 1 → Plain p e → Tallies identity e t (further t (25 + 24 * p))
unfolding identity extension
plain t zero {e} few h =
    let size : t.bits + 24 + 1 ≡ t.bits + (25 + 24 * 0) = omega arith in
    subst (λ (n : ℕ). Tallies identity e t (record { clean = t.clean; refusal = t.refusal; bits = n })) size
    (shape _ _ _ _ (then _ (legal 24 t h.ssi) (then _ (legal 1 _ (omega (arith, h.same)))
    (rw (ne_eqb e.present 1 (λ x. omega (arith, h.same))) (unused _ (omega (arith, h.extension)))))))
plain t (suc zero) {e} few h =
    let size : t.bits + 24 + 1 + 24 ≡ t.bits + (25 + 24 * 1) = omega arith in
    subst (λ (n : ℕ). Tallies identity e t (record { clean = t.clean; refusal = t.refusal; bits = n })) size
    (shape _ _ _ _ (then _ (legal 24 t h.ssi) (then _ (legal 1 _ (omega (arith, h.same)))
    (rw (eq-eqb e.present 1 h.same) (legal 24 _ h.extension)))))
plain t (suc (suc p)) few h = absurd (omega arith)

-- so an identity is legal, of so many bits
pub plain-wide : (p : ℕ) {e : Identity} → p ≤ 1 → Plain p e → Wide identity (25 + 24 * p) e
plain-wide p few h =
    let t = plain nothing p few h in
    record { legal = record { clean = sym t.clean; faultless = sym t.refusal }; size = omega (arith, t.bits) }

-- ---- entries of so many bits each

wide-tallied : {A : Type 0} {c : Codec A} {width : ℕ} {a : A} (t : Tally) → Wide c width a → Tallies c a t (further t width)
wide-tallied t h = record {
  clean = rw (h.legal.clean, and-true);
  refusal = rw (h.legal.faultless) (sym (first-zero t.refusal));
  bits = omega (arith, h.size);
}

module _ {A : Type 0} {c : Codec A} (z : Codec A) {f : List ℕ → A} {k n width : ℕ} {words : List ℕ} {start : Tally} (few : n ≤ 8)
    (alike : Alike c f k n width words) (fits : Fits (places c z 8 n) (entries_from f k 8 words) start) where
  -- so many are counted, with so many bits
  abbrev pub Counted : ℕ → ℕ → Type 0
  Counted i size = Tallying c z f k 8 n words start i (record { clean = start.clean; refusal = start.refusal; bits = size })

  moved : {i j a b : ℕ} → i ≡ j → a ≡ b → Counted i a → Counted j b
  moved {i} {j} {a} {b} p r h = subst (λ (k : ℕ). Counted k b) p (subst (λ (k : ℕ). Counted i k) r h)

  pub alike-counted : (i : ℕ) → i ≤ n → Counted i (start.bits + width * i)
  alike-counted zero h = moved refl (omega (arith, mul-zero width)) (tallying-start fits)
  alike-counted (suc i) h =
      moved (omega arith) (omega (arith, mul-suc width i))
      (tallying-next (alike-counted i (omega arith)) (omega arith) few (wide-tallied _ (alike.each i (omega arith))))

  pub alike-fit : start.bits + width * n ≤ 4096
  alike-fit = let h = (alike-counted n (omega arith)).fits in omega (arith, h.short)
