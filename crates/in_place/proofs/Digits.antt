-- The digits of a number that is read, one after the other, beside those of another. Assumes nothing.
use mathlib.Core.Path.{◌≡◌, refl, sym, ◌∙◌}
use mathlib.Core.Bool.{Bool, true, false}
use mathlib.Core.List.{List}
use Prim.Native.Nat.{ℕ, ◌+◌, ◌*◌, ◌/◌, ◌^◌, ◌≤◌, ◌<◌}
use native.Mathlib.Omega.{arith}
use lib.ListN.{length, get_or, take}
use lib.Seq.{slice}
use borrow.Author.Tests.{eq-eqb, ne_eqb}
use Rattle.bits.specs.Bits.{bits}
use Rattle.bits.specs.Element.{window_at}
use Rattle.bits.proofs.Bytes.{length-bits}
use Rattle.codec.specs.Codec.{Codec}
use Rattle.codec.specs.Parts.{number, absent, element}
use Rattle.codec.specs.Places.{places}
use Rattle.grammar.specs.SiteSheet.{digit_refusal, length_refusal}
use Rattle.grammar.specs.Grammar.{external}
use Rattle.reader.specs.Inner.{Read, Reads}
use Rattle.walk.proofs.Sights.{within}
use Rattle.reader.proofs.Elements.{number-there}
use Rattle.rules.specs.Matching.{same, is_number}
use Rattle.rules.proofs.Search.{agrees, differs, same_end}
use Rattle.in_place.specs.Inner.{Says}
use Rattle.in_place.proofs.Splits.{says_is, Headed, split-headed, split-shaped}
use Rattle.in_place.proofs.Rows.{row_number, row-end, row-length}
use Rattle.in_place.proofs.Windows.{front-is}

abbrev row : ℕ → Codec (List ℕ)
row count = places (element 4 digit_refusal) absent 24 count

-- The loop's invariant: of so many digits, i were compared; what is left to compare decides.
pub record Compared (s : List ℕ) (at count : ℕ) (digits : List ℕ) (i : ℕ) : Type 0 where
  pub within : i ≤ count
  pub few : count ≤ 24
  pub list : List ℕ
  pub end : ℕ
  pub all : Read (row count) (bits s) at list end
  pub left : same (slice i count list) (slice i count digits) ≡ same (take count list) (take count digits)

pub compared-none : {s : List ℕ} {at count : ℕ} {digits : List ℕ} → count ≤ 24 → Reads (row count) (bits s) at → Compared s at count digits 0
compared-none h r = record { within = omega arith; few = h; list = r.value; end = r.end; all = r.read; left = refl }

module _ {s : List ℕ} {at count : ℕ} {digits : List ℕ} {i : ℕ} (c : Compared s at count digits i) where
  said : {t : Bool} → t ≡ same (take count c.list) (take count digits)
      → Says (row count) (λ l. same (take count l) (take count digits)) (bits s) at t (at + 4 * count)
  said e = record { value = c.list; read = rw (row-end (bits s) 4 digit_refusal 24 count c.few c.all) at c.all; says = e }

  pub compared-all : count ≤ i → Says (row count) (λ l. same (take count l) (take count digits)) (bits s) at true (at + 4 * count)
  compared-all h = said (same_end h c.list digits c.left)

  pub compared-near : i < count → length s ≤ 512 → at + 4 * i + 4 ≤ 4096
  compared-near k h =
      let there = number-there (bits s) (at + 4 * i) 4 (omega arith) (row_number (bits s) 4 digit_refusal 24 count c.few c.all i k).same in
      omega (arith, length-bits s)

  module _ (k : i < count) (long : length digits ≡ 24) {x : ℕ} (e : x ≡ window_at s (at + 4 * i)) where
    digit : x / 2 ^ 53 ≡ get_or c.list i 0
    digit = front-is s (at + 4 * i) e 4 (omega arith) (omega arith) (row_number (bits s) 4 digit_refusal 24 count c.few c.all i k)

    whole : count ≤ length c.list
    whole = omega (arith, c.few, row-length (bits s) 4 digit_refusal 24 count c.all)

    pub compared-more : x / 2 ^ 53 ≡ get_or digits i 0 → Compared s at count digits (i + 1)
    compared-more q = record {
      within = omega arith;
      few = c.few;
      list = c.list;
      end = c.end;
      all = c.all;
      left = agrees c.list digits k whole (omega (arith, c.few)) (eq-eqb _ _ (sym digit ∙ q)) c.left;
    }

    pub compared-other : (x / 2 ^ 53 ≡ get_or digits i 0 → ⊥)
        → Says (row count) (λ l. same (take count l) (take count digits)) (bits s) at false (at + 4 * count)
    compared-other q = said (differs c.list digits k whole (omega (arith, c.few)) (ne_eqb _ _ (λ z. q (digit ∙ z))) c.left)

-- ---- a number, by its length and its digits

module _ (s : List ℕ) (at : ℕ) (r : Reads external (bits s) at) where
  parts : Headed 5 length_refusal row (bits s) at r.value.length.0 r.value.digits r.end
  unfolding external
  parts = split-headed 5 length_refusal row (split-shaped _ _ _ _ _ r.read)

  pub length-read : Read (number 5) (bits s) at r.value.length.0 (at + 5)
  length-read = parts.head

  module _ {count : ℕ} (e : count ≡ r.value.length.0) where
    pub length-few : count ≤ 24
    length-few = rw e (within 24 r.value.length.0 parts.legal).1

    digits_are : Read (row count) (bits s) (at + 5) r.value.digits r.end
    digits_are = rw e parts.rest

    pub digits-reads : Reads (row count) (bits s) (at + 5)
    digits-reads = record { value = _; end = _; read = digits_are }

    number_read : Read external (bits s) at r.value (at + 5 + 4 * count)
    number_read = rw (row-end (bits s) 4 digit_refusal 24 count length-few digits_are) at r.read

    pub other_length : {length : ℕ} (digits : List ℕ) → (count ≡ length → ⊥)
        → Says external (is_number length digits) (bits s) at false (at + 5 + 4 * count)
    unfolding is_number
    other_length {length} digits h = record { value = r.value; read = number_read; says = rw (← e, ne_eqb count length h) }

    pub same_length : {length : ℕ} (digits : List ℕ) {has : Bool} {end : ℕ} → count ≡ length
        → Says (row count) (λ l. same (take count l) (take count digits)) (bits s) (at + 5) has end
        → Says external (is_number length digits) (bits s) at has (at + 5 + 4 * count)
    unfolding is_number
    same_length {length} digits h p =
        record { value = r.value; read = number_read; says = rw (← h, ← e, eq-eqb count count refl) (says_is p digits_are).0 }
