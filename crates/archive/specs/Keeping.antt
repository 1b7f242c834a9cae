-- What `empty` and `capture` answer, and what they leave in the lent buffer.
use Rattle.std.specs.Prelude.{◌&&◌, List, [], ◌∷◌, ◌++◌, ℕ, length, drop, ltb, leb, eqb, Result, Ok, Err}
use Rattle.bits.specs.Bits.{pick, guard}
use Rattle.walk.specs.declared.Refusal as pdu
use Rattle.reader.specs.Read.{answer_of, found_in, read_is}
use Rattle.judging.specs.Judge.{may_hold}
use Rattle.archive.specs.Model.{Held, Archive, rank, is_day, header_width, bytes_of, length_of, within_limits}
use Rattle.archive.specs.Filing.{filed_key}
use Rattle.archive.specs.Reading.{reading}
use Rattle.archive.specs.Refusals.{plain, of_pdu}
use Rattle.archive.specs.Checking.{check_is, if_archive}
use Rattle.archive.specs.declared.contents.Entry.{Entry}
use Rattle.archive.specs.declared.refusal.Refusal.{Refusal}

-- document 01's number of an answer, 0 for success, with its entry and its place
abbrev pub stored_refusal : Result ℕ Refusal → Refusal
stored_refusal (Ok n) = plain 0
stored_refusal (Err f) = f

-- these bytes first, and the buffer's own after them
abbrev pub over : List ℕ → List ℕ → List ℕ
over w out = w ++ drop (length w) out

-- a refusal changes no byte
abbrev pub leaves : Result ℕ Refusal → List ℕ → List ℕ → List ℕ
leaves (Ok n) w out = over w out
leaves (Err f) w out = out

-- ---- empty: 9 for a home network out of range, then 8

abbrev pub empty_of : ℕ → Archive
empty_of home = record { home = home; held = [] }

unfoldable pub empty_is : ℕ → ℕ → Result ℕ Refusal
empty_is home room = guard (ltb home 16777216) (Err (plain 9)) (guard (leb header_width room) (Err (plain 8)) (Ok header_width))

unfoldable pub empty_out : ℕ → List ℕ → List ℕ
empty_out home out = leaves (empty_is home (length out)) (bytes_of (empty_of home)) out

-- ---- capture

-- a PDU in its place, instead of the one of its key if there is one
abbrev pub put : Held → List Held → List Held
put h [] = h ∷ []
put h (x ∷ xs) = pick (ltb (rank x) (rank h)) (x ∷ put h xs) (pick (eqb (rank x) (rank h)) (h ∷ xs) (h ∷ x ∷ xs))

abbrev pub with : Archive → Held → Archive
with a h = record { home = a.home; held = put h a.held }

-- the entry of a PDU of n bits, taken on a day, and what it is held as
abbrev pub entry_for : ℕ → List ℕ → ℕ → ℕ → Entry
entry_for home s n day = record { key = filed_key home (found_in (read_is s n)); bits = record { 0 = n }; day = day }

abbrev pub held_for : ℕ → List ℕ → ℕ → ℕ → Held
held_for home s n day = record { entry = entry_for home s n day; body = s }

-- the archive after the capture: the day given is kept, even when lower than the old one
unfoldable pub captured : List ℕ → List ℕ → ℕ → ℕ → Archive
captured b s n day = with (reading b) (held_for (reading b).home s n day)

-- the reader's refusal is passed on
abbrev pub if_accepted : Result Unit pdu.Refusal → Result ℕ Refusal → Result ℕ Refusal
if_accepted (Ok tt) r = r
if_accepted (Err f) r = Err (of_pdu f)

-- 8 for one entry too many, or a result over the limit or the lent buffer
unfoldable pub placed : Archive → ℕ → Result ℕ Refusal
placed a room = guard (within_limits (length a.held) (length_of a) && leb (length_of a) room) (Err (plain 8)) (Ok (length_of a))

-- 9 for a day above 65,535, 7, the PDU's own, 6, 8
unfoldable pub capture_is : List ℕ → List ℕ → ℕ → ℕ → ℕ → Result ℕ Refusal
capture_is b s n day room =
    guard (is_day day) (Err (plain 9))
    (if_archive (check_is b) Err
    (if_accepted (answer_of (read_is s n))
    (guard (may_hold (found_in (read_is s n))) (Err (plain 6))
    (placed (captured b s n day) room))))

unfoldable pub capture_out : List ℕ → List ℕ → ℕ → ℕ → List ℕ → List ℕ
capture_out b s n day out = leaves (capture_is b s n day (length out)) (bytes_of (captured b s n day)) out
