-- Reading a PDU: the record of an accepted one, or a refusal number and the bit place of the element at fault.
use Rattle.std.specs.Prelude.{List, ℕ, Result, Ok, Err, Option, Some, None}
use Rattle.bits.specs.Bits.{pick}
use Rattle.bits.specs.Frame.{bits_in, framed}
use Rattle.codec.specs.Codec.{Outcome, ok, no}
use Rattle.codec.specs.Whole.{whole_parse}
use Rattle.grammar.specs.Grammar.{pdu}
use Rattle.grammar.specs.Zero.{zero_record}
use Rattle.grammar.specs.declared.record.Record.{Record}
use Rattle.walk.specs.declared.Refusal.{Refusal}

-- the answer alone, without what is read
abbrev pub answer_of : {A : Type 0} → Result A Refusal → Result Unit Refusal
answer_of (Ok a) = Ok tt
answer_of (Err f) = Err f

-- document 01's number of an answer and its place (document 02, 2026-03): 0 and none for an accepted PDU
abbrev pub refusal_of : Result Unit Refusal → Refusal
refusal_of (Ok a) = record { number = 0; place = None }
refusal_of (Err f) = f

-- the record of an accepted PDU; of a refused one all of it is zero
abbrev pub found_in : Result Record Refusal → Record
found_in (Ok r) = r
found_in (Err f) = zero_record

abbrev pub refusing : ℕ → Option ℕ → Result Record Refusal
refusing n p = Err (record { number = n; place = p })

abbrev pub answered : Outcome Record → Result Record Refusal
answered (ok r at left) = Ok r
answered (no n p) = refusing n (Some p)

-- reading the PDU of n bits in the bytes s: 1 first, at no place; then element by element, 5 last
unfoldable pub read_is : List ℕ → ℕ → Result Record Refusal
read_is s n = pick (framed s n) (answered (whole_parse pdu (bits_in n s))) (refusing 1 None)
