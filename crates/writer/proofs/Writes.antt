-- Writing by cases: which refusal is given, and when there is none. Assumes nothing.
use mathlib.Core.Path.{◌≡◌, refl, ap}
use mathlib.Core.List.{List}
use mathlib.Core.Bool.{Bool, true, false, ◌&&◌, and-false}
use Prim.Native.Nat.{ℕ, zero, suc, ◌≤◌}
use native.Mathlib.Omega.{arith}
use borrow.Author.Tests.{leb-true, eq-eqb}
use lib.ListN.{length}
use lib.Dec.{leb}
use Rattle.std.specs.Prelude.{Result, Ok, Err}
use Rattle.bits.specs.Bits.{pick}
use Rattle.bits.specs.Frame.{bytes_for}
use Rattle.bits.proofs.Tests.{never, both, picked}
use Rattle.bits.specs.declared.BitCount.{BitCount}
use Rattle.codec.specs.Codec.{first, Legal}
use Rattle.codec.specs.Parts.{is_zero, first-none}
use Rattle.grammar.specs.SiteSheet.{kind_refusal}
use Rattle.grammar.specs.Grammar.{pdu}
use Rattle.words.specs.RecordWords.{record_words, put_record}
use Rattle.words.specs.Sized.{SizedRecord}
use Rattle.words.proofs.RecordInverse.{record-long, record-back}
use Rattle.writer.specs.Write.{record_refusal, length_of, write_refusal, written, write_is, out_is, write_words_is, write_words_out}
use Rattle.grammar.specs.declared.record.Record.{Record}

not-zero : (v : ℕ) → (v ≡ 0 → ⊥) → is_zero v ≡ false
not-zero zero h = absurd (h refl)
not-zero (suc v) h = refl

module _ (r : Record) (room : ℕ) where
  pub other-kind : (kind_refusal r.kind ≡ 0 → ⊥) → write_refusal r room ≡ 3
  unfolding write_refusal record_refusal
  other-kind h = rw (not-zero (kind_refusal r.kind) h)

  pub not-clean : pdu.clean r ≡ false → write_refusal r room ≡ 3
  unfolding write_refusal record_refusal
  not-clean e = rw (e, and-false (is_zero (kind_refusal r.kind)))

  pub then-fault : kind_refusal r.kind ≡ 0 → pdu.clean r ≡ true → write_refusal r room ≡ first (pdu.fault r)
      (pick (leb (bytes_for (length_of r)) room) 0 8)
  unfolding write_refusal record_refusal
  then-fault kind clean = rw (kind, clean)

  -- what is not refused has room
  pub has_room : write_refusal r room ≡ 0 → bytes_for (length_of r) ≤ room
  unfolding write_refusal
  has_room e =
      let fits = leb (bytes_for (length_of r)) room in
      leb-true (bytes_for (length_of r)) room (picked fits (first-none (record_refusal r) (pick fits 0 8) e).1 (λ x. omega arith)).0

  -- and is legal
  pub is-legal : write_refusal r room ≡ 0 → Legal pdu r
  unfolding write_refusal record_refusal
  is-legal e =
      let kind = is_zero (kind_refusal r.kind) in
      let h = picked (kind && pdu.clean r) (first-none (record_refusal r) (pick (leb (bytes_for (length_of r)) room) 0 8) e).0 (λ x. omega arith) in
      record { clean = (both kind (pdu.clean r) h.0).1; faultless = h.1 }

-- ---- the answer of a refusal number

pub written-first : (bits m n : ℕ) → (m ≡ 0 → ⊥) → written bits (first m n) ≡ Err m
written-first bits zero n h = absurd (h refl)
written-first bits (suc m) n h = refl

pub refused-some : (bits n : ℕ) {k : ℕ} → written bits n ≡ Err k → is_zero n ≡ false
refused-some bits zero e = never cc
refused-some bits (suc n) e = refl

pub bits_none : (bits n : ℕ) {k : BitCount} → written bits n ≡ Ok k → n ≡ 0
bits_none bits zero e = refl
bits_none bits (suc n) e = never cc

pub bits-length : (bits n : ℕ) {k : BitCount} → written bits n ≡ Ok k → k.0 ≡ bits
bits-length bits zero e = cc
bits-length bits (suc n) e = never cc

-- for want of room, and where there is room
pub room-refused : (bits : ℕ) (fits : Bool) {k : ℕ} → pick {A = Result Unit ℕ} fits (Ok tt) (Err 8) ≡ Err k → written bits (pick fits 0 8) ≡ Err k
room-refused bits true e = never cc
room-refused bits false e = let n : 8 ≡ _ = cc e in ap (λ (k : ℕ). Err k) n

pub room-there : (bits : ℕ) (fits : Bool) → pick {A = Result Unit ℕ} fits (Ok tt) (Err 8) ≡ Ok tt
    → written bits (pick fits 0 8) ≡ Ok (record { 0 = bits })
room-there bits true e = refl
room-there bits false e = never cc

-- ---- a record by its words

module _ (r : Record) (sized : SizedRecord r) {words : List ℕ} (spelt : words ≡ record_words r) (out : List ℕ) where
  pub answer_back : write_words_is words out ≡ write_is r out
  unfolding write_words_is
  answer_back = rw (spelt, eq-eqb (length (record_words r)) 520 (record-long r sized), record-back r sized)

  pub out-back : write_words_out words out ≡ out_is r out
  unfolding write_words_out
  out-back = rw (spelt, eq-eqb (length (record_words r)) 520 (record-long r sized), record-back r sized)

pub put-spelt : (r : Record) (words : List ℕ) → length words ≡ 520 → put_record r words ≡ record_words r
unfolding put_record
put-spelt r words e = rw (eq-eqb (length words) 520 e)
