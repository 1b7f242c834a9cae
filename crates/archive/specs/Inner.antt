-- What private functions give: a PDU's filing; the shape of what is left; where a key stands in an archive's bytes; the bytes of a capture as parts of the old archive
-- around the new entry and body; the lines of a listing.
use Rattle.std.specs.Prelude.{Bool, ◌&&◌, List, [], ◌∷◌, ◌++◌, ℕ, zero, suc, ◌+◌, ◌-◌, ◌*◌, ◌≤◌, ◌<◌, length, take, drop, ltb, leb, eqb, Result, Err, Option, Some, None, Ok}
use Rattle.bits.specs.Bits.{pick, guard}
use Rattle.bits.specs.Frame.{bytes_for}
use Rattle.grammar.specs.Grammar.{network_of}
use Rattle.walk.specs.declared.Head.{Head}
use Rattle.judging.specs.Judge.{holdable}
use Rattle.archive.specs.Model.{Held, Archive, rank_of, rank, in_range, header_width, entry_width, header_bytes, entry_bytes, body_size, sizes}
use Rattle.archive.specs.Reading.{home_of, count_of, entry_at, held_from, reading}
use Rattle.archive.specs.Refusals.{plain, of_body}
use Rattle.archive.specs.Filing.{body_agrees}
use Rattle.archive.specs.Checking.{body_place, in_order}
use Rattle.archive.specs.Keeping.{with}
use Rattle.archive.specs.Listing.{line}
use Rattle.archive.specs.declared.contents.Key.{Key}
use Rattle.archive.specs.declared.contents.Entry.{Entry}
use Rattle.archive.specs.declared.checking.Place.{Place}
use Rattle.archive.specs.declared.refusal.Refusal.{Refusal}

-- ---- filing

-- the key of an accepted PDU with this head; nowhere if no archive entry may hold it
unfoldable pub filing_under : ℕ → Head → Option Key
filing_under home h = pick (holdable h) (Some (record { network = network_of home h.user; ssi = h.user.ssi; part = h.result })) None

-- whether a body agrees with its entry, and the place of its refusal if not
unfoldable pub agreement_is : ℕ → Held → Result (Unit {0}) (Option ℕ)
agreement_is home h = pick (body_agrees home h) (Ok tt) (Err (body_place h))

-- the archive of some bytes with a body under an entry
abbrev pub filed_in : List ℕ → Entry → List ℕ → Archive
filed_in b e body = with (reading b) (record { entry = e; body = body })

-- ---- the shape

-- an entry may stand behind one of a rank, with so many bytes left for its body
unfoldable pub may_follow : Entry → ℕ → ℕ → Bool
may_follow e last room = ltb last (rank_of e.key) && leb (bytes_for e.bits.0) room

-- the n entries from a place on are in order, and their bodies, from another place on, end with the bytes
unfoldable pub rest_shape : List ℕ → ℕ → ℕ → ℕ → ℕ → Bool
rest_shape b last n at off = in_order last (held_from b n at off) && eqb (off + sizes (held_from b n at off)) (length b)

-- what a body at fault comes to, for the entry of a key at an index, before the n entries from a place on
unfoldable pub fault_is : List ℕ → Key → ℕ → ℕ → ℕ → ℕ → Option ℕ → Result (Unit {0}) Refusal
fault_is b k n at off index place =
    guard (in_range k && rest_shape b (rank_of k) n at off) (Err (plain 7)) (Err (of_body index place))

-- ---- the place of a key, by its rank

-- a place with an entry, and one with none
abbrev pub place_of : ℕ → ℕ → Entry → Place
place_of at off e = record { at = at; off = off; entry = Some e }

abbrev pub gap_at : ℕ → ℕ → Place
gap_at at off = record { at = at; off = off; entry = None }

-- the search, by order: the entry of the key, or the gap where it would go
unfoldable pub seek : ℕ → ℕ → ℕ → List Held → Place
seek r at off [] = gap_at at off
seek r at off (h ∷ hs) =
    pick (ltb (rank h) r)
    (seek r (at + entry_width) (off + body_size h) hs)
    (pick (eqb (rank h) r) (place_of at off h.entry) (gap_at at off))

-- ---- a new entry and body for those at a place

-- how many entries stand at a place, and how many bytes their bodies have
abbrev pub entries_in : Option Entry → ℕ
entries_in None = 0
entries_in (Some e) = 1

abbrev pub size_in : Option Entry → ℕ
size_in None = 0
size_in (Some e) = bytes_for e.bits.0

-- where the contents and the bodies go on after the place
abbrev pub next_at : Place → ℕ
next_at p = p.at + entry_width * entries_in p.entry

abbrev pub rest_at : Place → ℕ
rest_at p = p.off + size_in p.entry

-- the place lies within an archive's bytes
pub record Within (p : Place) (b : List ℕ) : Type 0 where
  pub first : header_width ≤ p.at
  pub contents : next_at p ≤ p.off
  pub bodies : rest_at p ≤ length b
  pub small : length b ≤ 65536

-- a key's numbers, and an entry's, fit their bytes
pub record KeyFits (k : Key) : Type 0 where
  pub network : k.network < 16777216
  pub ssi : k.ssi < 16777216
  pub part : k.part < 256

pub record EntryFits (e : Entry) : Type 0 where
  pub key : KeyFits e.key
  pub bits : e.bits.0 < 65536
  pub day : e.day < 65536

-- header, contents before the place, the new entry
unfoldable pub front_of : List ℕ → ℕ → ℕ → Entry → List ℕ
front_of b at count e = header_bytes (home_of b) count ++ take (at - header_width) (drop header_width b) ++ entry_bytes e

-- contents after it and bodies before it, which stand side by side; the new body; bodies after it
unfoldable pub back_of : List ℕ → Place → List ℕ → List ℕ
back_of b p body =
    take (p.off - next_at p) (drop (next_at p) b) ++ body ++ take (length b - rest_at p) (drop (rest_at p) b)

abbrev pub spliced : List ℕ → Place → ℕ → Entry → List ℕ → List ℕ
spliced b p count e body = front_of b p.at count e ++ back_of b p body

-- its length, from the place on and in all
abbrev pub back_length : List ℕ → Place → ℕ → ℕ
back_length b p size = p.off - next_at p + size + (length b - rest_at p)

abbrev pub spliced_length : List ℕ → Place → ℕ → ℕ
spliced_length b p size = p.at + entry_width + back_length b p size

-- ---- the listing

-- the lines of n entries whose contents begin at a place of an archive's bytes
unfoldable pub lines_from : List ℕ → ℕ → ℕ → List ℕ
lines_from b zero at = []
lines_from b (suc n) at = line (entry_at b at) ++ lines_from b n (at + entry_width)

-- the lines of all entries
abbrev pub lines_in : List ℕ → List ℕ
lines_in b = lines_from b (count_of b) header_width
