-- Demand 2: exactly the writings of legal records are accepted, each as its one record and with its one bit length; what was read is written
-- as the same bits, and what was written is read as the same record. Assumes nothing.
use Rattle.std.specs.Prelude.{Option, Some, None, ℕ, Ok}
use mathlib.Core.Path.{◌≡◌, refl, sym, ap, ap₂, ◌∙◌}
use mathlib.Core.Logic.{◌↔◌}
use mathlib.Core.Bool.{Bool, true, ◌&&◌}
use mathlib.Core.List.{List, ◌++◌}
use Prim.Native.Nat.{ℕ, zero, suc, ◌≤◌}
use native.Mathlib.Nat.{zero-add}
use native.Mathlib.Omega.{arith}
use borrow.Author.Tests.{le-leb}
use lib.ListN.{length, take, drop, take-append-drop}
use lib.Seq.{take_at}
use lib.Dec.{leb}
use Rattle.bits.specs.Bits.{pick, bits, Bytes}
use Rattle.bits.specs.Frame.{bytes_for, bits_in, framed, Framed, pack}
use Rattle.bits.proofs.Frames.{framed-says, framed_is, framed-pack, length-bits_in, length-pack, pack-bits_in, bits_in-pack}
use Rattle.bits.proofs.Tests.{never, both, both⁻¹, picked}
use Rattle.bits.specs.declared.BitCount.{BitCount}
use Rattle.codec.specs.Codec.{Outcome, ok, no, Legal, first}
use Rattle.codec.specs.Parts.{first-none, number_fault, number, seq, tested, element, shaped, mark, only, is_zero}
use Rattle.codec.specs.Whole.{whole_parse}
use Rattle.codec.proofs.Whole.{whole-reads, whole-sound}
use Rattle.grammar.specs.SiteSheet.{ss_type, pdu_type, kind_refusal}
use Rattle.grammar.specs.Grammar.{pdu, rest_of, from_record}
use Rattle.grammar.specs.declared.record.Record.{Record}
use Rattle.grammar.proofs.Sizes.{pdu-size}
use Rattle.reader.specs.Read.{found_in, refusing, answered, read_is}
use Rattle.writer.specs.Write.{record_refusal, length_of, write_refusal, written, write_is, out_is}
use Rattle.pdu.specs.Accepted.{accepted_as, WritingOf}

-- ---- what is accepted

refusing-not : {A : Type 0} (k : ℕ) (p : Option ℕ) (r : Record) → refusing k p ≡ accepted_as r → A
refusing-not k p r e = never cc

read_as : (l : List Bool) (r : Record) (o : Outcome Record) → whole_parse pdu l ≡ o → answered o ≡ accepted_as r → Legal pdu r × (l ≡ pdu.print r)
read_as l r (ok a at left) e f =
    let q : a ≡ r = ap found_in f in
    rw q at (whole-sound pdu l a at left e)
read_as l r (no k p) e f = refusing-not k (Some p) r f

framed-first : (s : List ℕ) (n : ℕ) (r : Record) → read_is s n ≡ accepted_as r → framed s n ≡ true
unfolding read_is
framed-first s n r e = (picked (framed s n) e (refusing-not 1 None r)).0

pub accepted-framed : (s : List ℕ) (n : ℕ) (r : Record) → read_is s n ≡ accepted_as r → Framed s n
accepted-framed s n r e = framed-says s n (framed-first s n r e)

read-bits : (s : List ℕ) (n : ℕ) (r : Record) → read_is s n ≡ accepted_as r → Legal pdu r × (bits_in n s ≡ pdu.print r)
unfolding read_is
read-bits s n r e =
    let e' : answered (whole_parse pdu (bits_in n s)) ≡ accepted_as r = rw (framed-first s n r e) at e in
    read_as (bits_in n s) r (whole_parse pdu (bits_in n s)) refl e'

pub accepted-legal : (s : List ℕ) (n : ℕ) (r : Record) → read_is s n ≡ accepted_as r → Legal pdu r
accepted-legal s n r e = (read-bits s n r e).0

accepted-size : (s : List ℕ) (n : ℕ) (r : Record) → read_is s n ≡ accepted_as r → n ≡ length_of r
accepted-size s n r e = sym (length-bits_in s n (accepted-framed s n r e)) ∙ ap length (read-bits s n r e).1

accepted-writing : (s : List ℕ) (n : ℕ) (r : Record) → Bytes s → read_is s n ≡ accepted_as r → WritingOf s n r
accepted-writing s n r b e =
    let k = read-bits s n r e in
    record { legal = k.0; size = accepted-size s n r e; bytes = sym (pack-bits_in s n b (accepted-framed s n r e)) ∙ ap pack k.1 }

writing-accepted : (s : List ℕ) (n : ℕ) (r : Record) → WritingOf s n r → read_is s n ≡ accepted_as r
unfolding read_is
writing-accepted s n r w =
    let fr : Framed (pack (pdu.print r)) (length_of r) = framed-pack (pdu.print r) (omega (arith, pdu-size r)) in
    ap₂ read_is w.bytes w.size
    ∙ rw (framed_is (pack (pdu.print r)) (length_of r) fr, bits_in-pack (pdu.print r), whole-reads pdu r w.legal)

-- exactly the writings of legal records are accepted
pub accepted_iff : (s : List ℕ) (n : ℕ) (r : Record) → Bytes s → (read_is s n ≡ accepted_as r) ↔ WritingOf s n r
accepted_iff s n r b = (accepted-writing s n r b, writing-accepted s n r)

-- and a PDU is the writing of one record only
pub record_unique : (s : List ℕ) (n : ℕ) (r q : Record) → WritingOf s n r → WritingOf s n q → r ≡ q
record_unique s n r q a b =
    ap found_in (sym (writing-accepted s n r a) ∙ writing-accepted s n q b)

-- bytes that are accepted with n bits begin with that record, and it ends there, whatever stands behind it
begins : (s : List ℕ) (n : ℕ) (r : Record) → read_is s n ≡ accepted_as r → pdu.parse 0 (bits s) ≡ ok r n (drop n (bits s))
begins s n r e =
    let k = read-bits s n r e in
    let layout : bits s ≡ pdu.print r ++ drop n (bits s) =
    sym (take-append-drop n (bits s)) ∙ ap (λ (l : List Bool). l ++ drop n (bits s)) k.1 in
    ap (pdu.parse 0) layout
    ∙ pdu.reads r k.0.clean k.0.faultless 0 (drop n (bits s))
    ∙ ap (λ (m : ℕ). ok r m (drop n (bits s))) (zero-add (length_of r) ∙ sym (accepted-size s n r e))

-- so they are accepted with one bit length only
pub length_unique : (s : List ℕ) (n m : ℕ) (r q : Record) → read_is s n ≡ accepted_as r → read_is s m ≡ accepted_as q → n ≡ m
length_unique s n m r q e f =
    let same : ok r n (drop n (bits s)) ≡ ok q m (drop m (bits s)) = sym (begins s n r e) ∙ begins s m q f in
    cc

-- ---- what is written

kind-read : (r : Record) → pdu.fault r ≡ 0 → kind_refusal r.kind ≡ 0
unfolding pdu mark shaped seq element tested number
kind-read r e =
    let tail = (rest_of (pdu_type r.kind)).fault (from_record r).1 in
    let kind = first (number_fault 5 r.kind) (kind_refusal r.kind) in
    let a = first-none (first (number_fault 6 ss_type) (only ss_type ss_type)) (first kind tail) e in
    let b = first-none kind tail a.1 in
    (first-none (number_fault 5 r.kind) (kind_refusal r.kind) b.0).1

-- 3 and 4 are given exactly to the records that are not legal
pub legal_iff : (r : Record) → (record_refusal r ≡ 0) ↔ Legal pdu r
unfolding record_refusal
legal_iff r = (
  λ e. let k = picked (is_zero (kind_refusal r.kind) && pdu.clean r) e (λ x. omega arith) in
      record { clean = (both (is_zero (kind_refusal r.kind)) (pdu.clean r) k.0).1; faultless = k.1 },
  λ h. let q : is_zero (kind_refusal r.kind) ≡ true = ap is_zero (kind-read r h.faultless) in
      let t : is_zero (kind_refusal r.kind) && pdu.clean r ≡ true = both⁻¹ q h.clean in
      rw t h.faultless,
)

module _ (r : Record) (out : List ℕ) where
  -- a legal record that has room is written, and the bytes after it stay
  pub written-legal : Legal pdu r → bytes_for (length_of r) ≤ length out
      → (write_is r out ≡ Ok (record { 0 = length_of r })) × (out_is r out ≡ pack (pdu.print r) ++ drop (bytes_for (length_of r)) out)
  unfolding write_is out_is write_refusal
  written-legal h room =
      let e : write_refusal r (length out) ≡ 0 = rw ((legal_iff r).1 h, le-leb (bytes_for (length_of r)) (length out) room) in
      (rw e, rw e)

  written-fits : (k n : ℕ) → written (length_of r) k ≡ Ok (record { 0 = n }) → (k ≡ 0) × (n ≡ length_of r)
  written-fits zero n e = let q : ◌≡◌ {A = BitCount} (record { 0 = length_of r }) (record { 0 = n }) = cc in (refl, sym (ap (λ (b : BitCount). b.0) q))
  written-fits (suc k) n e = never cc

  -- reading what was written gives the same record
  pub read-written : (n : ℕ) → write_is r out ≡ Ok (record { 0 = n }) → read_is (take (bytes_for n) (out_is r out)) n ≡ accepted_as r
  unfolding write_is out_is write_refusal
  read-written n e =
      let k = written-fits (write_refusal r (length out)) n e in
      let h : Legal pdu r = (legal_iff r).0 (first-none (record_refusal r) (pick (leb (bytes_for (length_of r)) (length out)) 0 8) k.0).0 in
      let o : out_is r out ≡ pack (pdu.print r) ++ drop (bytes_for (length_of r)) out = rw k.0 in
      let size : length (pack (pdu.print r)) ≡ bytes_for n = length-pack (pdu.print r) ∙ ap bytes_for (sym k.1) in
      writing-accepted (take (bytes_for n) (out_is r out)) n r (record {
        legal = h;
        size = k.1;
        bytes = ap (take (bytes_for n)) o ∙ take_at (pack (pdu.print r)) (drop (bytes_for (length_of r)) out) (bytes_for n) size;
      })

-- writing what was read gives the same bits, in the same bytes
pub written_read : (s : List ℕ) (n : ℕ) (r : Record) (out : List ℕ) → Bytes s → read_is s n ≡ accepted_as r → length s ≤ length out
    → (write_is r out ≡ Ok (record { 0 = n })) × (out_is r out ≡ s ++ drop (length s) out)
written_read s n r out b e room =
    let w = accepted-writing s n r b e in
    let l : length s ≡ bytes_for (length_of r) = ap length w.bytes ∙ length-pack (pdu.print r) in
    let k = written-legal r out w.legal (omega arith) in
    (k.0 ∙ ap (λ (m : ℕ). Ok (record { 0 = m })) (sym w.size), k.1 ∙ ap₂ (λ (x : List ℕ) (m : ℕ). x ++ drop m out) (sym w.bytes) (sym l))
