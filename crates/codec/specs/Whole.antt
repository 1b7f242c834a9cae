-- The whole of a PDU: nothing is left over.
use Rattle.std.specs.Prelude.{List, Bool}
use Rattle.bits.specs.Bits.{pick}
use Rattle.codec.specs.Codec.{Outcome, ok, no, and_then, Codec}
use Rattle.codec.specs.Places.{is_nil}

-- reading from the first bit on; bits left after the last element give 5, at the first of them
abbrev pub whole_parse : {A : Type 0} → Codec A → List Bool → Outcome A
whole_parse c s = and_then (c.parse 0 s) (λ a at r. pick (is_nil r) (ok a at r) (no 5 at))
