-- What boc_read left in the words, boc_write writes as the bits that were read. Assumes nothing.
use mathlib.Core.Path.{◌≡◌}
use mathlib.Core.List.{List, ◌++◌}
use Prim.Native.Nat.{ℕ, ◌≤◌}
use borrow.Author.Tests.{eq-eqb}
use lib.ListN.{length, drop}
use Rattle.std.specs.Prelude.{Ok}
use Rattle.bits.specs.Bits.{Bytes}
use Rattle.grammar.specs.declared.record.Record.{Record}
use Rattle.reader.specs.Read.{answer_of, found_in, read_is}
use Rattle.reader.proofs.Walked.{with-found}
use Rattle.pdu.specs.Accepted.{accepted_as}
use Rattle.pdu.proofs.RoundTrip.{accepted-legal, written_read}
use Rattle.words.specs.Places.{record_width}
use Rattle.words.specs.RecordWords.{record_words}
use Rattle.words.specs.Sized.{SizedRecord}
use Rattle.words.proofs.RecordInverse.{record-long, record-back}
use Rattle.words.proofs.LegalRecords.{record-sized}
use Rattle.reader.specs.Words.{read_words}
use Rattle.boc.specs.Calls.{write_number, write_out, write_bits}

module _ (s : List ℕ) (n : ℕ) (words : List ℕ) (l : length words ≡ record_width) (a : answer_of (read_is s n) ≡ Ok tt) where
  abbrev found : Record
  found = found_in (read_is s n)

  whole : read_is s n ≡ accepted_as found
  whole = with-found (read_is s n) a

  sized : SizedRecord found
  sized = record-sized found (accepted-legal s n found whole)

  left : read_words s n words ≡ record_words found
  unfolding read_words
  left = rw (eq-eqb (length words) record_width l, a)

  pub written_again : (out : List ℕ) (old : ℕ) → Bytes s → length s ≤ length out
      → let w = read_words s n words in (write_number w out ≡ 0) × (write_out w out ≡ s ++ drop (length s) out) × (write_bits w out old ≡ n)
  unfolding write_number write_out write_bits
  written_again out old y h =
      let w = written_read s n found out y whole h in
      let e = eq-eqb (length (record_words found)) record_width (record-long found sized) in
      let b = record-back found sized in
      (rw (left, e, b, w.0), rw (left, e, b, w.1), rw (left, e, b, w.0))
