-- What the walk's answer says of reading: the same refusal, or a legal record whose bits those of the PDU are. Assumes nothing.
use Rattle.std.specs.Prelude.{None, ℕ, Result, Ok, Err, Some}
use mathlib.Core.Path.{◌≡◌, refl, sym, ap, ◌∙◌}
use mathlib.Core.Bool.{Bool, true, false}
use mathlib.Core.List.{List, ◌++◌}
use Prim.Native.Nat.{ℕ, ◌+◌, ◌≤◌}
use native.Mathlib.Omega.{arith}
use borrow.Author.Tests.{eq-eqb}
use lib.ListN.{length, drop, replicate, take-append-drop}
use Rattle.bits.specs.Bits.{bits, pick}
use Rattle.bits.specs.Frame.{bits_in, framed}
use Rattle.bits.proofs.Tests.{never}
use Rattle.bits.proofs.Frames.{framed-says}
use Rattle.codec.specs.Codec.{Outcome, ok, no, Legal}
use Rattle.codec.specs.Whole.{whole_parse}
use Rattle.codec.specs.Reading.{answer, read_at}
use Rattle.codec.proofs.Whole.{whole-sound}
use Rattle.grammar.specs.Grammar.{pdu}
use Rattle.grammar.specs.Zero.{zero_record}
use Rattle.grammar.specs.declared.record.Record.{Record}
use Rattle.walk.specs.Walk as walk
use Rattle.walk.specs.declared.Head.{Head}
use Rattle.walk.specs.declared.Refusal.{Refusal}
use Rattle.words.specs.RecordWords.{record_words, given_record, records}
use Rattle.words.proofs.Given.{record-found}
use Rattle.words.proofs.LegalRecords.{record-sized}
use Rattle.words.proofs.RecordInverse.{record-long, record-back}
use Rattle.reader.specs.Inner.{Read}
use Rattle.reader.specs.Read.{answer_of, found_in, refusing, answered, read_is}
use Rattle.reader.specs.Words.{if_accepted, read_words}

-- an accepted PDU of n bits in s: its record, which is what the bits of s begin with
pub record Accepts (s : List ℕ) (n : ℕ) : Type 0 where
  pub found : Record
  pub end : ℕ
  pub few : length s ≤ 512
  pub read : Read pdu (bits s) 0 found end
  pub same : read_is s n ≡ Ok found

-- an answer without its record, and that record
pub with-found : (r : Result Record Refusal) → answer_of r ≡ Ok tt → r ≡ Ok (found_in r)
with-found (Ok r) e = refl
with-found (Err f) e = never cc

pub only_refused : {A : Type 0} (r : Result A Refusal) {f : Refusal} → answer_of r ≡ Err f → r ≡ Err f
only_refused (Ok a) e = never cc
only_refused (Err g) e = cc

module _ (s : List ℕ) (n : ℕ) where
  pub same_answer : answer_of (read_is s n) ≡ answer_of (walk.walk_is s n)
  unfolding read_is walk.walk_is
  same_answer = go (framed s n) (whole_parse pdu (bits_in n s))
    where
      go : (t : Bool) (o : Outcome Record)
          → answer_of (pick t (answered o) (refusing 1 None)) ≡ answer_of (pick t (walk.walked_of o) (walk.refusing 1 None))
      go true (ok r at left) = refl
      go true (no k p) = refl
      go false o = refl

  pub same_head : {h : Head} → walk.walk_is s n ≡ Ok h → h ≡ walk.head_of (found_in (read_is s n))
  unfolding read_is walk.walk_is
  same_head {h} = go (framed s n) (whole_parse pdu (bits_in n s))
    where
      go : (t : Bool) (o : Outcome Record) → pick t (walk.walked_of o) (walk.refusing 1 None) ≡ Ok h
          → h ≡ walk.head_of (found_in (pick t (answered o) (refusing 1 None)))
      go true (ok r at left) e = cc
      go true (no k p) e = never cc
      go false o e = never cc

  whole-read : (r : Record) (at : ℕ) (left : List Bool) → whole_parse pdu (bits_in n s) ≡ ok r at left
      → Read pdu (bits s) 0 r (0 + length (pdu.print r))
  unfolding read_at
  whole-read r at left e =
      let w = whole-sound pdu (bits_in n s) r at left e in
      let split : bits s ≡ pdu.print r ++ drop n (bits s) =
      sym (take-append-drop n (bits s)) ∙ ap (λ (x : List Bool). x ++ drop n (bits s)) w.1 in
      record {
        same =
            ap (λ (x : List Bool). answer (pdu.parse 0 x)) split
            ∙ ap answer (pdu.reads r w.0.clean w.0.faultless 0 (drop n (bits s)));
      }

  read_is_lem : (r : Record) (at : ℕ) (left : List Bool) → framed s n ≡ true → whole_parse pdu (bits_in n s) ≡ ok r at left
      → read_is s n ≡ Ok r
  unfolding read_is
  read_is_lem r at left f w = ap (λ (t : Bool). pick t (answered (whole_parse pdu (bits_in n s))) (refusing 1 None)) f ∙ ap answered w

  pub accepts : {h : Head} → walk.walk_is s n ≡ Ok h → Accepts s n
  unfolding walk.walk_is
  accepts {h} = go (framed s n) refl (whole_parse pdu (bits_in n s)) refl
    where
      go : (t : Bool) → framed s n ≡ t → (o : Outcome Record) → whole_parse pdu (bits_in n s) ≡ o
          → pick t (walk.walked_of o) (walk.refusing 1 None) ≡ Ok h → Accepts s n
      go true f (ok r at left) w e =
          let b = framed-says s n f in
          record {
            found = r;
            end = 0 + length (pdu.print r);
            few = omega (arith, b.short, b.count);
            read = whole-read r at left w;
            same = read_is_lem r at left f w;
          }
      go true f (no k p) w e = never cc
      go false f o w e = never cc

-- ---- the record that the words give back

given-zeros : given_record (replicate 520 0) ≡ Some zero_record
unfolding given_record records
given-zeros = refl

-- what reading accepts is read back from its words, and zeros are read back as the record that stands for a refusal
pub found_back : (s : List ℕ) (n : ℕ) → given_record (read_words s n (replicate 520 0)) ≡ Some (found_in (read_is s n))
unfolding read_is read_words
found_back s n = go (framed s n) (whole_parse pdu (bits_in n s)) refl
  where
    given_back : (r : Record) → Legal pdu r → given_record (record_words r) ≡ Some r
    given_back r l =
        let f = record-sized r l in
        record-found (record_words r) (eq-eqb _ 520 (record-long r f)) ∙ ap (λ (x : Record). Some x) (record-back r f)

    go : (t : Bool) (o : Outcome Record) → whole_parse pdu (bits_in n s) ≡ o → let q = pick t (answered o) (refusing 1 None) in
        given_record (if_accepted (answer_of q) (record_words (found_in q)) (replicate 520 0)) ≡ Some (found_in q)
    go true (ok r at left) e = given_back r (whole-sound pdu (bits_in n s) r at left e).0
    go true (no k p) e = given-zeros
    go false o e = given-zeros
