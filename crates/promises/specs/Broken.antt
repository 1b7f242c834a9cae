-- What is no archive (document 02, 2026-03): refusal 7 brings neither entry nor place where header, contents or file length are wrong; otherwise
-- the index, from 0, of the first entry whose body is at fault, and the place where that body's refusal has one.
use Rattle.std.specs.Prelude.{◌≡◌, ◌↔◌, true, List, ◌∷◌, ◌++◌, ℕ, ◌+◌, ◌*◌, ◌≤◌, ◌<◌, length, Ok, Err, Option, None}
use Rattle.bits.specs.Lists.{Each}
use Rattle.grammar.specs.declared.record.Record.{Record}
use Rattle.walk.specs.declared.Refusal as pdu
use Rattle.reader.specs.Read.{answer_of, read_is}
use Rattle.archive.specs.Model.{Held, Archive}
use Rattle.archive.specs.Refusals.{plain, of_body}
use Rattle.archive.specs.Checking.{has_shape, check_is}
use Rattle.archive.specs.declared.refusal.Refusal.{Refusal}
use Rattle.promises.specs.Archive.{Rising, Ranged, LegalPdu, Agrees, three_bytes, two_bytes, Laid, IsArchive}

-- document 01's number of a refusal
abbrev pub number_of : Refusal → ℕ
number_of f = f.number

-- header, contents and file length are right, whatever the bodies: 5 bytes and at most 65,536, at most 512 entries, all there, their keys in range
-- (so every part is 1 or 2) and rising, their days in two bytes, and nothing after the bodies
pub record HasShape (b : List ℕ) : Type 0 where
  pub archive : Archive
  pub network : archive.home < 16777216
  pub few : length archive.held ≤ 512
  pub small : length b ≤ 65536
  pub keys : Each (λ h. Ranged h.entry.key) archive.held
  pub rising : Rising archive.held
  pub days : Each (λ h. h.entry.day < 65536) archive.held
  pub home : archive.home ≡ three_bytes b 0
  pub count : length archive.held ≡ two_bytes b 3
  pub laid : Laid b 5 (5 + 11 * length archive.held) archive.held

-- a body at fault is refused in reading, with that refusal's place; or it is a legal PDU that does not agree with its entry, which has no place
pub data AtFault (home : ℕ) (h : Held) : Option ℕ → Type 0 where
  refused : (f : pdu.Refusal) → answer_of (read_is h.body h.entry.bits.0) ≡ Err f → AtFault home h f.place
  unfit : (r : Record) → LegalPdu h.body h.entry.bits.0 r → (Agrees home h r → ⊥) → AtFault home h None

-- the first body at fault: all before it agree with their entries
pub record FirstFault (home : ℕ) (hs : List Held) (index : ℕ) (place : Option ℕ) : Type 0 where
  pub before : List Held
  pub here : Held
  pub after : List Held
  pub split : hs ≡ before ++ (here ∷ after)
  pub standing : length before ≡ index
  pub agree : Each (λ h. (r : Record) × Agrees home h r) before
  pub fault : AtFault home here place

-- refusal 7, with what it brings
pub data Broken (b : List ℕ) : Refusal → Type 0 where
  shape : (HasShape b → ⊥) → Broken b (plain 7)
  body : (k : HasShape b) (index : ℕ) (place : Option ℕ) → FirstFault k.archive.home k.archive.held index place → Broken b (of_body index place)

-- The check says the same. Proved in proofs/Broken.antt.
pub record Promise : Type 0 where
  pub has-shape : (b : List ℕ) → (has_shape b ≡ true) ↔ HasShape b
  pub passes : (b : List ℕ) → (check_is b ≡ Ok tt) ↔ IsArchive b
  pub refuses : (b : List ℕ) (f : Refusal) → (check_is b ≡ Err f) ↔ Broken b f
