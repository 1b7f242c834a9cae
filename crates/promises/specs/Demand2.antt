-- Demand 2: exactly the legal PDUs are read, each as its one record and with its one bit length; what was read is written as the same bits,
-- and what was written is read as the same record.
use Rattle.std.specs.Prelude.{◌≡◌, ◌↔◌, List, ◌++◌, ℕ, ◌≤◌, length, take, drop, Ok}
use Rattle.bits.specs.Bits.{Bytes}
use Rattle.bits.specs.Frame.{bytes_for}
use Rattle.codec.specs.Codec.{Legal}
use Rattle.grammar.specs.Grammar.{pdu}
use Rattle.grammar.specs.declared.record.Record.{Record}
use Rattle.reader.specs.Read.{read_is}
use Rattle.writer.specs.Write.{length_of, write_is, out_is}
use Rattle.pdu.specs.Accepted.{accepted_as, WritingOf}
use Rattle.pdu.proofs.RoundTrip as trip

-- A PDU of n bits in the bytes s is accepted with a record exactly if it is the writing of that record, and the record is legal.
pub read-exactly-legal : (s : List ℕ) (n : ℕ) (r : Record) → Bytes s → (read_is s n ≡ accepted_as r) ↔ WritingOf s n r
read-exactly-legal = trip.accepted_iff

-- It is the writing of one record only.
pub one-record : (s : List ℕ) (n : ℕ) (r q : Record) → WritingOf s n r → WritingOf s n q → r ≡ q
one-record = trip.record_unique

-- Bytes are accepted with one bit length only, so with at most one of the eight that they could have.
pub one-length : (s : List ℕ) (n m : ℕ) (r q : Record) → read_is s n ≡ accepted_as r → read_is s m ≡ accepted_as q → n ≡ m
one-length = trip.length_unique

-- A legal record is written wherever there is room; its length is the sum of its element lengths.
pub legal-written : (r : Record) (out : List ℕ) → Legal pdu r → bytes_for (length_of r) ≤ length out → write_is r out ≡ Ok (record { 0 = length_of r })
legal-written r out l h = (trip.written-legal r out l h).0

-- Writing what was read gives the same bits, in the same bytes, and leaves the bytes after them.
pub write-gives_the-bits : (s : List ℕ) (n : ℕ) (r : Record) (out : List ℕ) → Bytes s → read_is s n ≡ accepted_as r → length s ≤ length out
    → (write_is r out ≡ Ok (record { 0 = n })) × (out_is r out ≡ s ++ drop (length s) out)
write-gives_the-bits = trip.written_read

-- Reading what was written gives the same record.
pub read-gives_the-record : (r : Record) (out : List ℕ) (n : ℕ)
    → write_is r out ≡ Ok (record { 0 = n })
    → read_is (take (bytes_for n) (out_is r out)) n ≡ accepted_as r
read-gives_the-record = trip.read-written
