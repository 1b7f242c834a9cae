-- What `entry`, `fetch` and `restore` answer, and what `restore` leaves in the lent buffer.
use Rattle.std.specs.Prelude.{List, [], ◌∷◌, ℕ, zero, suc, ◌+◌, length, leb, eqb, Result, Ok, Err, Option, None, Some}
use Rattle.bits.specs.Bits.{pick, guard}
use Rattle.archive.specs.Model.{Held, rank_of, rank, in_range, body_size}
use Rattle.archive.specs.Reading.{bodies_at, reading}
use Rattle.archive.specs.Refusals.{plain}
use Rattle.archive.specs.Checking.{check_is, if_archive}
use Rattle.archive.specs.Keeping.{over}
use Rattle.archive.specs.declared.contents.Key.{Key}
use Rattle.archive.specs.declared.Body.{Body}
use Rattle.archive.specs.declared.refusal.Refusal.{Refusal}
use Rattle.archive.specs.declared.Restored.{Restored}
use Rattle.archive.specs.declared.contents.Entry.{Entry}

-- ---- entry: the contents entry at an index, from 0; 7, then 11 for an index that is not below the count

-- the PDU held at an index
unfoldable pub held_nth : List Held → ℕ → Option Held
held_nth [] i = None
held_nth (h ∷ hs) zero = Some h
held_nth (h ∷ hs) (suc i) = held_nth hs i

abbrev pub listed_as : Option Held → Result Entry Refusal
listed_as None = Err (plain 11)
listed_as (Some h) = Ok h.entry

unfoldable pub entry_is : List ℕ → ℕ → Result Entry Refusal
entry_is b i = if_archive (check_is b) Err (listed_as (held_nth (reading b).held i))

-- document 01's number of an answer, 0 for success, with its entry and its place
abbrev pub listed_refusal : Result Entry Refusal → Refusal
listed_refusal (Ok e) = plain 0
listed_refusal (Err f) = f

-- ---- fetch: where the body of a user and part begins, its bit length, and its day

abbrev pub body_from : Key → ℕ → List Held → Option Body
body_from k off [] = None
body_from k off (h ∷ hs) =
    pick (eqb (rank h) (rank_of k)) (Some (record { off = off; bits = h.entry.bits; day = h.entry.day })) (body_from k (off + body_size h) hs)

unfoldable pub fetch_is : List ℕ → Key → Result (Option Body) Refusal
fetch_is b k = if_archive (check_is b) Err (Ok (guard (in_range k) None (body_from k (bodies_at b) (reading b).held)))

-- ---- restore

-- document 01's number of an answer, 0 for success, with its entry and its place
abbrev pub restored_refusal : Result Restored Refusal → Refusal
restored_refusal (Ok r) = plain 0
restored_refusal (Err f) = f

-- the PDU held for a key
abbrev pub lookup : Key → List Held → Option Held
lookup k [] = None
lookup k (h ∷ hs) = pick (eqb (rank h) (rank_of k)) (Some h) (lookup k hs)

-- 11 for a PDU that is not held, then 8
abbrev pub delivered : Option Held → ℕ → Result Restored Refusal
delivered None room = Err (plain 11)
delivered (Some h) room = guard (leb (body_size h) room) (Err (plain 8)) (Ok (record { bits = h.entry.bits; day = h.entry.day }))

abbrev pub body_of : Option Held → List ℕ
body_of None = []
body_of (Some h) = h.body

-- 9, 7, 11, 8
unfoldable pub restore_is : List ℕ → Key → ℕ → Result Restored Refusal
restore_is b k room = guard (in_range k) (Err (plain 9)) (if_archive (check_is b) Err (delivered (lookup k (reading b).held) room))

-- a refusal changes no byte
abbrev pub restores : Result Restored Refusal → List ℕ → List ℕ → List ℕ
restores (Ok r) w out = over w out
restores (Err f) w out = out

unfoldable pub restore_out : List ℕ → Key → List ℕ → List ℕ
restore_out b k out = restores (restore_is b k (length out)) (body_of (lookup k (reading b).held)) out
