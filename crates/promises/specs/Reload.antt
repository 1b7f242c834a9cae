-- What a reload writes (document 02, requests 2026-01 and 2026-06): a DEFINE or DEFINE EXTERNAL that reads as the part that is held, of which
-- nothing is lost; the six rules applied to its services and lists say of every call what they say by the part.
use Rattle.std.specs.Prelude.{◌≡◌, ◌↔◌, List, ℕ, take, Ok, Err}
use Rattle.bits.specs.Frame.{bytes_for}
use Rattle.codec.specs.Codec.{Legal}
use Rattle.grammar.specs.Grammar.{pdu}
use Rattle.grammar.specs.declared.record.Record.{Record}
use Rattle.reader.specs.Read.{found_in, read_is}
use Rattle.pdu.specs.Accepted.{accepted_as}
use Rattle.rules.specs.Rule.{ruling}
use Rattle.rules.specs.declared.request.Request.{Request}
use Rattle.archive.specs.Model.{Held}
use Rattle.archive.specs.Refusals.{plain}
use Rattle.archive.specs.declared.contents.Key.{Key}
use Rattle.reload.specs.Define.{kind_of, define_of}
use Rattle.reload.specs.Reload.{record_of, reload_is, reload_out}
use Rattle.reload.specs.declared.Definition.{Definition}
use Rattle.reload.specs.declared.Target.{Target}
use Rattle.promises.specs.Held.{Holdable}
use Rattle.promises.specs.Archive.{IsArchive, Ranged}
use Rattle.promises.specs.Demand1.Restore.{Holds}
use Rattle.promises.specs.Demand1.Reload.{Asked}

-- the PDU x puts the part back: the user entry, the services and each list as held, and what was asked for
pub record PutsBack (t : Target) (d : Definition) (part x : Record) : Type 0 where
  pub kind : x.kind ≡ kind_of t
  pub user : x.affected ≡ part.affected
  pub services : x.services ≡ part.services
  pub groups : x.lists.groups ≡ part.lists.groups
  pub restricted : x.lists.restricted ≡ part.lists.restricted
  pub exceptions : x.lists.exceptions ≡ part.lists.exceptions
  pub numbers : x.lists.numbers ≡ part.lists.numbers
  pub excepted : x.lists.excepted ≡ part.lists.excepted
  pub delivery : x.figures.delivery ≡ d.delivery
  pub acknowledgement : x.figures.acknowledgement ≡ d.acknowledgement
  pub definition : x.figures.definition ≡ d.definition

-- a legal PDU of that type and definition type with every list of the part
abbrev pub Puttable : Target → Definition → Record → Record → Type 0
Puttable t d part x = Legal pdu x × (x.kind ≡ kind_of t) × (x.figures.definition ≡ d.definition) × (x.lists ≡ part.lists)

module _ (t : Target) (b : List ℕ) (key : Key) (d : Definition) (out : List ℕ) where
  -- what stands in the buffer after a reload of n bits, read
  abbrev pub read_back : ℕ → Record
  read_back n = found_in (read_is (take (bytes_for n) (reload_out t b key d out)) n)

  -- Proved in proofs/Reload.antt.
  pub record Promise : Type 0 where
    -- What was written reads back as the PDU that puts back the one held for that user and part, an accepting INTERROGATE ACK:
    pub reads-back : (n : ℕ) → reload_is t b key d out ≡ Ok (record { 0 = n }) → (k : IsArchive b) (h : Held) → Holds b key k h
        → Holdable (record_of h) × (read_is (take (bytes_for n) (reload_out t b key d out)) n ≡ accepted_as (define_of t d (record_of h)))
        × PutsBack t d (record_of h) (read_back n)
    -- so no list of it is lost; 12 is given exactly where no legal PDU of the type and definition type has all its lists.
    pub lost-exactly : Ranged key → Asked d → (k : IsArchive b) (h : Held) → Holds b key k h
        → (reload_is t b key d out ≡ Err (plain 12)) ↔ ((x : Record) → Puttable t d (record_of h) x → ⊥)
    -- The six rules applied to it say of every call what they say by the held part.
    pub same_decisions : (n : ℕ) → reload_is t b key d out ≡ Ok (record { 0 = n }) → (k : IsArchive b) (h : Held) → Holds b key k h
        → (home : ℕ) (q : Request) → ruling home (read_back n) q ≡ ruling home (record_of h) q
