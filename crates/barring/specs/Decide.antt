-- The decision: 9 for a request out of its range; then 7; otherwise what the held part that judges the destination says, or "not held".
use Rattle.std.specs.Prelude.{ℕ, List, eqb, Option, None, Some, Result, Ok, Err}
use Rattle.bits.specs.Bits.{guard}
use Rattle.reader.specs.Read.{found_in, read_is}
use Rattle.rules.specs.Request.{request_refusal}
use Rattle.rules.specs.Rule.{ruling}
use Rattle.rules.specs.declared.request.Destination.{Destination}
use Rattle.rules.specs.declared.request.Destination.TheVariants.{Identity, Number}
use Rattle.rules.specs.declared.request.Request.{Request}
use Rattle.archive.specs.Model.{Held}
use Rattle.archive.specs.Reading.{reading}
use Rattle.archive.specs.Refusals.{plain}
use Rattle.archive.specs.Checking.{check_is, if_archive}
use Rattle.archive.specs.Restoring.{fetch_is, lookup}
use Rattle.archive.specs.declared.contents.Key.{Key}
use Rattle.archive.specs.declared.Body.{Body}
use Rattle.archive.specs.declared.refusal.Refusal.{Refusal}
use Rattle.barring.specs.Decision.{decision_of}
use Rattle.barring.specs.declared.Decision.{Decision}
use Rattle.barring.specs.declared.Decision.TheVariants.{NotHeld}
use Rattle.barring.specs.declared.JudgingPart.{JudgingPart}

-- an identity is judged by the user's identity part, an external number by the number part
unfoldable pub part_for : Destination → ℕ
part_for (Identity u) = 1
part_for (Number length) = 2

-- if that part isn't held, the answer is "not held"
abbrev pub judged_by : ℕ → Request → Option Held → Decision
judged_by home q None = NotHeld
judged_by home q (Some h) = decision_of (ruling home (found_in (read_is h.body h.entry.bits.0)) q)

-- the request's user, and the part that judges its destination
abbrev pub key_for : Request → Key
key_for q = record { network = q.user.network; ssi = q.user.ssi; part = part_for q.destination }

-- that part, as an archive holds it
abbrev pub part_in : List ℕ → Request → Option Held
part_in b q = lookup (key_for q) (reading b).held

-- where the body stands that is fetched, if one is held
abbrev pub judged_at : Result (Option Body) Refusal → Result (Option JudgingPart) Refusal
judged_at (Ok (Some body)) = Ok (Some (record { at = body.off; length = body.bits }))
judged_at (Ok None) = Ok None
judged_at (Err f) = Err f

unfoldable pub judging_part : List ℕ → Request → Result (Option JudgingPart) Refusal
judging_part b q = guard (eqb (request_refusal q) 0) (Err (plain (request_refusal q))) (judged_at (fetch_is b (key_for q)))

unfoldable pub decide_is : List ℕ → Request → Result Decision Refusal
decide_is b q =
    guard (eqb (request_refusal q) 0) (Err (plain (request_refusal q)))
    (if_archive (check_is b) Err
    (Ok (judged_by (reading b).home q (part_in b q))))
