-- Walking a PDU: refusal 1 first, then element by element, 5 last. An accepted PDU gives its head, a refused one the number and the bit place.
use Rattle.std.specs.Prelude.{List, ℕ, Result, Ok, Err, Option, Some, None}
use Rattle.bits.specs.Bits.{pick}
use Rattle.bits.specs.Frame.{bits_in, framed}
use Rattle.codec.specs.Codec.{Outcome, ok, no}
use Rattle.codec.specs.Whole.{whole_parse}
use Rattle.grammar.specs.Grammar.{user_of, pdu}
use Rattle.grammar.specs.declared.record.Record.{Record}
use Rattle.walk.specs.declared.Head.{Head}
use Rattle.walk.specs.declared.Refusal.{Refusal}

-- what steers the reading of a PDU: PDU type, range type of the affected users, the first of them, interrogation result
abbrev pub head_of : Record → Head
head_of r = record { kind = r.kind; code = r.affected.code; user = user_of r; result = r.figures.result }

abbrev pub refusing : ℕ → Option ℕ → Result Head Refusal
refusing k p = Err (record { number = k; place = p })

-- what is said of reading the whole of a PDU: its head, or the number and the place of what is refused
abbrev pub walked_of : Outcome Record → Result Head Refusal
walked_of (ok r at left) = Ok (head_of r)
walked_of (no k p) = refusing k (Some p)

-- walking the PDU of n bits in the bytes s; a PDU that is not framed is refused with 1, at no place
unfoldable pub walk_is : List ℕ → ℕ → Result Head Refusal
walk_is s n = pick (framed s n) (walked_of (whole_parse pdu (bits_in n s))) (refusing 1 None)
