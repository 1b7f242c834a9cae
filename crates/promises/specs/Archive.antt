-- An archive in document 01's words, with plain numbers: which archives keep the rules, which bytes are one (otherwise 7), that they have one
-- reading and a true count, and what is held for a user and part.
use Rattle.std.specs.Prelude.{◌≡◌, ◌↔◌, ◌⊎◌, true, false, ℕ, ◌+◌, ◌*◌, ◌/◌, ◌≤◌, ◌<◌, length, get_or, take, drop, None, Some, Ok}
use mathlib.Core.List.{List, [], ◌∷◌, ◌++◌, Memᴰ}
use Rattle.bits.specs.Bits.{Bytes}
use Rattle.bits.specs.Frame.{Framed, bits_in}
use Rattle.bits.specs.Lists.{Each}
use Rattle.codec.specs.Codec.{Legal}
use Rattle.grammar.specs.Grammar.{pdu, zero_identity}
use Rattle.grammar.specs.declared.record.Identity.{Identity}
use Rattle.grammar.specs.declared.record.Record.{Record}
use Rattle.reader.specs.Read.{answer_of, found_in, read_is}
use Rattle.pdu.specs.Accepted.{accepted_as}
use Rattle.judging.specs.Judge.{may_hold}
use Rattle.archive.specs.Model.{Held, Archive, bytes_of, in_range}
use Rattle.archive.specs.Filing.{body_agrees, well_formed}
use Rattle.archive.specs.Reading.{reading, is_archive, Counted}
use Rattle.archive.specs.Restoring.{lookup}
use Rattle.archive.specs.declared.contents.Key.{Key}
use Rattle.archive.specs.declared.contents.Entry.{Entry}
use Rattle.promises.specs.Held.{Holdable}

-- ---- "entries rise strictly by network, then SSI, then part"

pub data Before (k l : Key) : Type 0 where
  by-network : k.network < l.network → Before k l
  by-ssi : k.network ≡ l.network → k.ssi < l.ssi → Before k l
  by_part : k.network ≡ l.network → k.ssi ≡ l.ssi → k.part < l.part → Before k l

-- each before the next
abbrev pub Rising : List Held → Type 0
Rising [] = Unit
Rising (h ∷ []) = Unit
Rising (h ∷ g ∷ hs) = Before h.entry.key g.entry.key × Rising (g ∷ hs)

-- ---- "each body is a legal accepted INTERROGATE ACK with affected range type 1; its part agrees, its SSI agrees, and its network .."

-- a legal PDU of n bits in the bytes s: the framed writing of a legal record
pub record LegalPdu (s : List ℕ) (n : ℕ) (r : Record) : Type 0 where
  pub framed : Framed s n
  pub legal : Legal pdu r
  pub bits : bits_in n s ≡ pdu.print r

-- "is the extension if present, otherwise the home network"
pub record NetworkOf (home : ℕ) (u : Identity) (network : ℕ) : Type 0 where
  pub extended : u.present ≡ 1 → network ≡ u.extension
  pub otherwise : (u.present ≡ 1 → ⊥) → network ≡ home

-- its affected user
abbrev pub affected_user : Record → Identity
affected_user r = get_or r.affected.entries 0 zero_identity

pub record Agrees (home : ℕ) (h : Held) (r : Record) : Type 0 where
  pub body : LegalPdu h.body h.entry.bits.0 r
  pub accepting : Holdable r
  pub part : h.entry.key.part ≡ r.figures.result
  pub ssi : h.entry.key.ssi ≡ (affected_user r).ssi
  pub network : NetworkOf home (affected_user r) h.entry.key.network

-- ---- an archive that keeps the rules

pub record WellFormed (a : Archive) : Type 0 where
  pub home : a.home < 16777216
  pub few : length a.held ≤ 512
  pub rising : Rising a.held
  pub days : Each (λ h. h.entry.day < 65536) a.held
  pub bodies : Each (λ h. (r : Record) × Agrees a.home h r) a.held
  pub small : length (bytes_of a) ≤ 65536

-- ---- bytes that are an archive: "all numbers are most significant byte first"

abbrev pub two_bytes : List ℕ → ℕ → ℕ
two_bytes b at = get_or b at 0 * 256 + get_or b (at + 1) 0

abbrev pub three_bytes : List ℕ → ℕ → ℕ
three_bytes b at = get_or b at 0 * 65536 + get_or b (at + 1) 0 * 256 + get_or b (at + 2) 0

-- "Contents, 11 bytes an entry: network (3), SSI (3), part (1), bit length (2)", and document 02's day (2)
pub record EntryAt (b : List ℕ) (at : ℕ) (e : Entry) : Type 0 where
  pub network : e.key.network ≡ three_bytes b at
  pub ssi : e.key.ssi ≡ three_bytes b (at + 3)
  pub part : e.key.part ≡ get_or b (at + 6) 0
  pub bits : e.bits.0 ≡ two_bytes b (at + 7)
  pub day : e.day ≡ two_bytes b (at + 9)

-- "Bodies, in contents order, each in its rounded-up bytes, nothing between or after": entries from one place on, bodies from another
abbrev pub Laid : List ℕ → ℕ → ℕ → List Held → Type 0
Laid b at off [] = off ≡ length b
Laid b at off (h ∷ hs) =
    EntryAt b at h.entry
    × (h.body ≡ take ((h.entry.bits.0 + 7) / 8) (drop off b))
    × Laid b (at + 11) (off + (h.entry.bits.0 + 7) / 8) hs

-- "Header, 5 bytes: home network (3), entry count (2)", then contents and bodies
pub record IsArchive (b : List ℕ) : Type 0 where
  pub archive : Archive
  pub formed : WellFormed archive
  pub home : archive.home ≡ three_bytes b 0
  pub count : length archive.held ≡ two_bytes b 3
  pub laid : Laid b 5 (5 + 11 * length archive.held) archive.held

-- ---- a user and part

-- network and SSI below 16,777,216, part 1 or 2
pub record Ranged (k : Key) : Type 0 where
  pub network : k.network < 16777216
  pub ssi : k.ssi < 16777216
  pub part : (k.part ≡ 1) ⊎ (k.part ≡ 2)

-- an entry among these has that network, SSI and part
pub record HeldFor (hs : List Held) (k : Key) (h : Held) : Type 0 where
  pub among : Memᴰ h hs
  pub for : h.entry.key ≡ k

-- it stands among these at an index, from 0
pub record StandsAt (hs : List Held) (index : ℕ) (h : Held) : Type 0 where
  pub before : List Held
  pub after : List Held
  pub split : hs ≡ before ++ (h ∷ after)
  pub standing : length before ≡ index

-- ---- the tests of the calls say the same. Proved in proofs/Archive.antt.

pub record Promise : Type 0 where
  pub legal : (s : List ℕ) (n : ℕ) (r : Record) → (read_is s n ≡ accepted_as r) ↔ LegalPdu s n r
  pub agrees : (home : ℕ) (h : Held) → (body_agrees home h ≡ true) ↔ ((r : Record) × Agrees home h r)
  pub well-formed : (a : Archive) → (well_formed a ≡ true) ↔ WellFormed a
  pub is-archive : (b : List ℕ) → (is_archive b ≡ true) ↔ IsArchive b
  -- "An archive has one reading."
  pub one-reading : (b : List ℕ) (k : IsArchive b) → k.archive ≡ reading b
  -- The bytes of well-formed archives are archives, and there are no others.
  pub archive-bytes : (b : List ℕ) → Bytes b → IsArchive b ↔ ((a : Archive) × WellFormed a × (bytes_of a ≡ b))
  pub one-archive : (a a' : Archive) → WellFormed a → WellFormed a' → bytes_of a ≡ bytes_of a' → a ≡ a'
  -- The entry count is the number of keys held, and the length is that of header, contents and bodies.
  pub counts : (b : List ℕ) → is_archive b ≡ true → Counted b
  pub in-range : (k : Key) → (in_range k ≡ true) ↔ Ranged k
  -- A lookup finds the entry of that network, SSI and part, or there is none.
  pub found : (b : List ℕ) → is_archive b ≡ true → (k : Key) → Ranged k → (h : Held)
      → (lookup k (reading b).held ≡ Some h) ↔ HeldFor (reading b).held k h
  pub not_found : (b : List ℕ) → is_archive b ≡ true → (k : Key) → Ranged k
      → (lookup k (reading b).held ≡ None) ↔ ((h : Held) → HeldFor (reading b).held k h → ⊥)
  -- A legal PDU may not be held exactly if it agrees with no entry of its bit length, whatever the home network.
  pub no-entry : (s : List ℕ) (n : ℕ) → answer_of (read_is s n) ≡ Ok tt → (may_hold (found_in (read_is s n)) ≡ false)
      ↔ ((home : ℕ) (e : Entry) → e.bits.0 ≡ n → body_agrees home (record { entry = e; body = s }) ≡ false)
