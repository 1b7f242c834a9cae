-- What a check says of bytes: an archive; 7 where header, contents or file length are wrong; 7 with the first entry whose body is at fault.
use Rattle.std.specs.Prelude.{Bool, true, ◌&&◌, List, [], ◌∷◌, ℕ, suc, length, ltb, eqb, Result, Ok, Err, Option}
use Rattle.bits.specs.Bits.{pick, guard}
use Rattle.reader.specs.Read.{refusal_of, answer_of, read_is}
use Rattle.archive.specs.Model.{Held, rank, in_range, is_day, length_of, within_limits}
use Rattle.archive.specs.Filing.{body_agrees}
use Rattle.archive.specs.Reading.{reading}
use Rattle.archive.specs.Refusals.{plain, of_body}
use Rattle.archive.specs.declared.refusal.Refusal.{Refusal}

-- every key is in range, they rise strictly, from above a rank on, and every entry has a day, as two bytes always do
unfoldable pub in_order : ℕ → List Held → Bool
in_order last [] = true
in_order last (h ∷ hs) = ltb last (rank h) && (in_range h.entry.key && (is_day h.entry.day && in_order (rank h) hs))

-- header, contents and file length are right, whatever the bodies
unfoldable pub has_shape : List ℕ → Bool
has_shape b =
    ltb (reading b).home 16777216 && (within_limits (length (reading b).held) (length_of (reading b))
    && (in_order 0 (reading b).held && eqb (length_of (reading b)) (length b)))

-- where a body is refused: nowhere if it is a legal PDU, and where it is not framed
abbrev pub body_place : Held → Option ℕ
body_place h = (refusal_of (answer_of (read_is h.body h.entry.bits.0))).place

-- the first body at fault, from the entry at an index on
unfoldable pub bodies_from : ℕ → ℕ → List Held → Result (Unit {0}) Refusal
bodies_from home i [] = Ok tt
bodies_from home i (h ∷ hs) = pick (body_agrees home h) (bodies_from home (suc i) hs) (Err (of_body i (body_place h)))

unfoldable pub check_is : List ℕ → Result (Unit {0}) Refusal
check_is b = guard (has_shape b) (Err (plain 7)) (bodies_from (reading b).home 0 (reading b).held)

-- go on with an archive, or pass the refusal on
abbrev pub if_archive : {A : Type 0} → Result (Unit {0}) Refusal → (Refusal → A) → A → A
if_archive (Ok _) refused rest = rest
if_archive (Err f) refused rest = refused f
