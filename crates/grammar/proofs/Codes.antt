-- Laws of the site sheet's codes and of the ends of a range. Assumes nothing.
use mathlib.Core.Path.{◌≡◌, refl, sym, ap}
use mathlib.Core.Bool.{Bool, true, false, ◌&&◌}
use mathlib.Core.List.{List}
use Prim.Native.Nat.{ℕ, zero, suc, ◌≤◌, ◌<◌}
use Rattle.std.specs.Prelude.{Option, Some, None}
use native.Mathlib.Omega.{arith}
use borrow.Author.Tests.{eqb-false, leb-true, leb-false, eq-eqb, ne_eqb, le-leb, lt-leb}
use lib.Dec.{eqb, leb}
use Rattle.bits.specs.Bits.{pick}
use Rattle.bits.proofs.Tests.{both, picked, by-test}
use Rattle.codec.specs.Parts.{is_zero}
use Rattle.grammar.specs.SiteSheet.{range_type, row_of_type, row_of, entries_of, refusal_in, range_refusal, digit_of, digit_refusal, between}
use Rattle.grammar.specs.Grammar.{range_ends}
use Rattle.grammar.specs.declared.record.Identity.{Identity}
use Rattle.grammar.specs.declared.site.RangeType.{RangeType}
use Rattle.grammar.specs.declared.site.RangeType.TheVariants.{Empty, Single, FirstAndLast}
use Rattle.grammar.specs.declared.site.ListKind.{ListKind}
use Rattle.grammar.specs.declared.site.ListKind.TheVariants as of

-- no range type has more than eight entries
pub entries_of_le : (code : ℕ) → entries_of code ≤ 8
unfolding row_of range_type
entries_of_le code = go (eqb code 0) (leb code 8) refl (eqb code 9)
  where
    go : (a b : Bool) → leb code 8 ≡ b → (d : Bool)
        → (row_of_type (pick a (Some Empty) (pick b (Some (Single code)) (pick d (Some FirstAndLast) None)))).entries ≤ 8
    go true b e d = omega arith
    go false true e d = leb-true code 8 e
    go false false e true = omega arith
    go false false e false = omega arith

-- range types 0 to 8 may stand before identities and before numbers, and have as many entries; 9 before identities only; the others nowhere
pub single : (code : ℕ) → code ≤ 8 → (range_refusal of.Identities code ≡ 0) × (range_refusal of.Numbers code ≡ 0) × (entries_of code ≡ code)
unfolding range_refusal row_of range_type
single zero h = (refl, refl, refl)
single (suc k) h =
    let e : range_type (suc k) ≡ Some (Single (suc k)) = rw (ne_eqb (suc k) 0 (λ e. omega arith), le-leb (suc k) 8 h) in
    (ap (refusal_in of.Identities) e, ap (refusal_in of.Numbers) e, ap (λ (t : Option RangeType). (row_of_type t).entries) e)

pub above-nine : (list : ListKind) (code : ℕ) → 9 < code → range_refusal list code ≡ 3
unfolding range_refusal range_type
above-nine list code h = rw (ne_eqb code 0 (λ e. omega arith), lt-leb code 8 (omega arith), ne_eqb code 9 (λ e. omega arith)) refl

pub not-single : (code : ℕ) → 8 < code → range_refusal of.Numbers code ≡ 3
unfolding range_refusal range_type
not-single code h = rw (ne_eqb code 0 (λ e. omega arith), lt-leb code 8 h) (by-test (λ (t : Option RangeType). refusal_in of.Numbers t ≡ 3) (eqb code 9) refl refl)

-- only range type 9 has two ends
pub not-nine : (code : ℕ) → (code ≡ 9 → ⊥) → (l : List Identity) → range_ends code l ≡ 0
unfolding range_ends
not-nine code h l = rw (ne_eqb code 9 h)

-- a value that is not outside its bounds
pub between_le : (low high v : ℕ) → between low high v ≡ 0 → v ≤ high
between_le low high v h = leb-true v high (both (leb low v) (leb v high) (picked (leb low v && leb v high) h (λ e. omega arith)).0).1

-- ---- digits

module _ (d : ℕ) where
  third : (b : Bool) → d ≤ 12 → leb d 9 ≡ false → eqb d 10 ≡ false → eqb d 11 ≡ b → digit_refusal d ≡ 0
  unfolding digit_refusal digit_of
  third true h e f g = rw (e, f, g)
  third false h e f g = rw (e, f, g, eq-eqb d 12 (omega (arith, leb-false d 9 e, eqb-false d 10 f, eqb-false d 11 g)))

  second : (b : Bool) → d ≤ 12 → leb d 9 ≡ false → eqb d 10 ≡ b → digit_refusal d ≡ 0
  unfolding digit_refusal digit_of
  second true h e f = rw (e, f)
  second false h e f = third (eqb d 11) h e f refl

  legal : (b : Bool) → d ≤ 12 → leb d 9 ≡ b → digit_refusal d ≡ 0
  unfolding digit_refusal digit_of
  legal true h e = rw e
  legal false h e = second (eqb d 10) h e refl

  refused : 12 < d → digit_refusal d ≡ 3
  unfolding digit_refusal digit_of
  refused h = rw (lt-leb d 9 (omega arith), ne_eqb d 10 (omega arith), ne_eqb d 11 (omega arith), ne_eqb d 12 (omega arith))

-- 0 to 12, and no other
pub digit-refusal : (d : ℕ) → digit_refusal d ≡ pick (leb d 12) 0 3
digit-refusal d = go (leb d 12) refl
  where
    go : (b : Bool) → leb d 12 ≡ b → digit_refusal d ≡ pick b 0 3
    go true e = legal d (leb d 9) (leb-true d 12 e) refl
    go false e = refused d (leb-false d 12 e)

-- ---- zero

pub not-zero : (v : ℕ) → (v ≡ 0 → ⊥) → is_zero v ≡ false
not-zero zero h = absurd (h refl)
not-zero (suc v) h = refl

pub zero_test : (v : ℕ) → is_zero v ≡ eqb v 0
zero_test zero = refl
zero_test (suc v) = sym (ne_eqb (suc v) 0 (λ e. omega arith))
