-- A PDU that is accepted with a record, and a PDU that is the writing of a legal record: Demand 2 says that these are the same.
use Rattle.std.specs.Prelude.{◌≡◌, List, ℕ, Result, Ok}
use Rattle.bits.specs.Frame.{pack}
use Rattle.codec.specs.Codec.{Legal}
use Rattle.grammar.specs.Grammar.{pdu}
use Rattle.grammar.specs.declared.record.Record.{Record}
use Rattle.walk.specs.declared.Refusal.{Refusal}
use Rattle.writer.specs.Write.{length_of}

-- reading's answer: an accepted PDU and its record
abbrev pub accepted_as : Record → Result Record Refusal
accepted_as r = Ok r

-- the PDU of n bits in the bytes s is the writing of a record: the record is legal, its elements' lengths come to n, and s holds its bits
pub record WritingOf (s : List ℕ) (n : ℕ) (r : Record) : Type 0 where
  pub legal : Legal pdu r
  pub size : n ≡ length_of r
  pub bytes : s ≡ pack (pdu.print r)
