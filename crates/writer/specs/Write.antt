-- Writing a record: its length in bits and the bytes of its PDU, or a refusal number and no byte changed.
use Rattle.std.specs.Prelude.{◌&&◌, List, ◌++◌, ℕ, zero, suc, length, drop, leb, Result, Ok, Err}
use Rattle.bits.specs.Bits.{pick}
use Rattle.bits.specs.Frame.{bytes_for, pack}
use Rattle.bits.specs.declared.BitCount.{BitCount}
use Rattle.codec.specs.Codec.{first}
use Rattle.codec.specs.Parts.{is_zero}
use Rattle.grammar.specs.SiteSheet.{kind_refusal}
use Rattle.grammar.specs.Grammar.{pdu}
use Rattle.grammar.specs.declared.record.Record.{Record}
use Rattle.words.specs.RecordWords.{are_record, record_from}

-- 3 for a PDU type that we do not read, or for anything that a record must hold as zero and does not;
-- then 3 and 4 in the order of reading; 0 for none
unfoldable pub record_refusal : Record → ℕ
record_refusal r = pick (is_zero (kind_refusal r.kind) && pdu.clean r) (pdu.fault r) 3

-- a PDU's length is the sum of its elements' lengths
abbrev pub length_of : Record → ℕ
length_of r = length (pdu.print r)

-- then 8, where the lent buffer has not the bytes that hold the PDU
unfoldable pub write_refusal : Record → ℕ → ℕ
write_refusal r room = first (record_refusal r) (pick (leb (bytes_for (length_of r)) room) 0 8)

-- document 01's number of an answer: 0 for success, otherwise the refusal number
abbrev pub written_number : Result BitCount ℕ → ℕ
written_number (Ok n) = 0
written_number (Err k) = k

-- the answer with a refusal number, 0 for none: then it is the length
abbrev pub written : ℕ → ℕ → Result BitCount ℕ
written bits zero = Ok (record { 0 = bits })
written bits (suc n) = Err (suc n)

unfoldable pub write_is : Record → List ℕ → Result BitCount ℕ
write_is r out = written (length_of r) (write_refusal r (length out))

-- the lent buffer at exit: the PDU and the bytes after it as they were; on a refusal as it was
unfoldable pub out_is : Record → List ℕ → List ℕ
out_is r out = pick (is_zero (write_refusal r (length out))) (pack (pdu.print r) ++ drop (bytes_for (length_of r)) out) out

-- ---- from words: another number of them than a record's gives 9, before anything else

unfoldable pub write_words_is : List ℕ → List ℕ → Result BitCount ℕ
write_words_is words out = pick (are_record (length words)) (write_is (record_from words) out) (Err 9)

unfoldable pub write_words_out : List ℕ → List ℕ → List ℕ
write_words_out words out = pick (are_record (length words)) (out_is (record_from words) out) out
