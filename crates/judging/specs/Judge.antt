-- Which accepted PDUs an archive may hold, and what judging one says of it.
use Rattle.std.specs.Prelude.{Bool, ◌&&◌, ℕ, leb, eqb, Option, Some, None}
use Rattle.bits.specs.Bits.{pick}
use Rattle.grammar.specs.declared.record.Record.{Record}
use Rattle.walk.specs.Walk.{head_of}
use Rattle.walk.specs.declared.Head.{Head}
use Rattle.grammar.specs.declared.record.Identity.{Identity}

-- an INTERROGATE ACK (PDU type 12), accepting (interrogation result 1 or 2), with affected range type 1
abbrev pub holdable : Head → Bool
holdable h = eqb h.kind 12 && (leb 1 h.result && (leb h.result 2 && eqb h.code 1))

abbrev pub may_hold : Record → Bool
may_hold r = holdable (head_of r)

-- its user and its part, if an archive may hold it
unfoldable pub judged_is : Head → Option (Identity × ℕ)
judged_is h = pick (holdable h) (Some (h.user, h.result)) None
