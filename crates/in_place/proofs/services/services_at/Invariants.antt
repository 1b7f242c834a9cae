-- The number of services, then each of them until one covers the call's. Assumes nothing.
use mathlib.Core.Bool.{false}
use Prim.Native.Nat.{◌+◌, ◌*◌}
use Rattle.bits.specs.Bits.{bits}
use Rattle.codec.specs.Parts.{absent, element}
use Rattle.grammar.specs.SiteSheet.{service_refusal}
use Rattle.rules.specs.Matching.{is_covering}
use Rattle.in_place.proofs.Among.{Along}
use Rattle.in_place.proofs.services.services_at.Given as goal

abbrev pub invariant-loop-i : goal.invariant-loop-i
invariant-loop-i l =
    Along (element 3 service_refusal) absent (is_covering l.service) 7 l.count (bits l.s) (l.at + 3) l.i (l.at + 3 + 3 * l.i) false
