-- Demand 1, reload (document 02, requests 2026-01 and 2026-06): 9, 7, 11, 12, 8, each exactly then, whether a DEFINE or a DEFINE EXTERNAL is asked
-- for. With 7 its entry and place.
use Rattle.std.specs.Prelude.{◌≡◌, List, [], ◌∷◌, ℕ, ◌≤◌, ◌<◌, length, Ok, Err}
use Rattle.bits.specs.Frame.{bytes_for, pack}
use Rattle.grammar.specs.Grammar.{pdu}
use Rattle.grammar.specs.declared.record.Identities.{Identities}
use Rattle.grammar.specs.declared.record.Numbers.{Numbers}
use Rattle.grammar.specs.declared.record.Lists.{Lists}
use Rattle.grammar.specs.declared.record.Record.{Record}
use Rattle.writer.specs.Write.{length_of}
use Rattle.archive.specs.Model.{Held}
use Rattle.archive.specs.Keeping.{over}
use Rattle.archive.specs.Refusals.{plain}
use Rattle.archive.specs.declared.contents.Key.{Key}
use Rattle.archive.specs.declared.refusal.Refusal.{Refusal}
use Rattle.reload.specs.Define.{define_of}
use Rattle.reload.specs.Reload.{reloaded_refusal, record_of, reload_is, reload_out}
use Rattle.reload.specs.declared.Definition.{Definition}
use Rattle.reload.specs.declared.Target.{Target}
use Rattle.reload.specs.declared.Target.TheVariants.{Define, DefineExternal}
use Rattle.promises.specs.Answers.{Exactly}
use Rattle.promises.specs.Archive.{IsArchive, Ranged}
use Rattle.promises.specs.Broken.{number_of, Broken}
use Rattle.promises.specs.Demand1.Restore.{Holds}

abbrev pub answer : Target → List ℕ → Key → Definition → List ℕ → Refusal
answer t b key d out = reloaded_refusal (reload_is t b key d out)

-- a definition type that table 28 names, two bits, and an acknowledgement only where delivery is requested (note 3 of tables 10 and 12)
pub record Asked (d : Definition) : Type 0 where
  pub definition : d.definition ≤ 2
  pub delivery : d.delivery ≤ 1
  pub acknowledgement : d.acknowledgement ≤ 1
  pub with-delivery : d.acknowledgement ≡ 1 → d.delivery ≡ 1

-- a list of identities, or of numbers, is empty
abbrev pub Empty : Identities → Type 0
Empty l = l.code ≡ 0

abbrev pub NoNumbers : Numbers → Type 0
NoNumbers l = l.code ≡ 0

-- every list that is not empty has a place in the PDU: a DEFINE (table 10) has none for numbers, a DEFINE EXTERNAL (table 12) none for
-- identities, and under removal (2) neither has one for any list (note 4)
pub record Stands (t : Target) (definition : ℕ) (l : Lists) : Type 0 where
  pub define : t ≡ Define → NoNumbers l.numbers × NoNumbers l.excepted
  pub external : t ≡ DefineExternal → Empty l.restricted × Empty l.exceptions
  pub removal : definition ≡ 2
      → Empty l.groups × (Empty l.restricted × Empty l.exceptions) × (NoNumbers l.numbers × NoNumbers l.excepted)

module _ (t : Target) (b : List ℕ) (key : Key) (d : Definition) where
  -- the PDU that puts a held one back
  abbrev pub defined : Held → Record
  defined h = define_of t d (record_of h)

  abbrev pub Standing : Held → Type 0
  Standing h = Stands t d.definition (record_of h).lists

  -- the table of refusals, as far as reload goes
  pub data Given (room : ℕ) : Refusal → Type 0 where
    success : Ranged key → Asked d → (k : IsArchive b) (h : Held) → Holds b key k h → Standing h → bytes_for (length_of (defined h)) ≤ room
        → Given room (plain 0)
    -- 9: a user, part or definition out of its range
    unranged : (Ranged key × Asked d → ⊥) → Given room (plain 9)
    -- 7: the archive breaks a rule
    damaged : (f : Refusal) → Ranged key → Asked d → Broken b f → Given room f
    -- 11: not held
    not-held : Ranged key → Asked d → (k : IsArchive b) → ((h : Held) → Holds b key k h → ⊥) → Given room (plain 11)
    -- 12: a list that is not empty has no place
    lost : Ranged key → Asked d → (k : IsArchive b) (h : Held) → Holds b key k h → (Standing h → ⊥) → Given room (plain 12)
    -- 8: the result exceeds the lent buffer
    no_room : Ranged key → Asked d → (k : IsArchive b) (h : Held) → Holds b key k h → Standing h → room < bytes_for (length_of (defined h))
        → Given room (plain 8)

-- Proved in proofs/Demand1/Reload.antt; each number is met in CallsMet.
pub record Promise : Type 0 where
  pub table : (t : Target) (b : List ℕ) (key : Key) (d : Definition) (out : List ℕ)
      → Exactly number_of (answer t b key d out) (0 ∷ 9 ∷ 7 ∷ 11 ∷ 12 ∷ 8 ∷ []) (Given t b key d (length out))
  -- success: the PDU that puts the held part back; the bytes after it stay
  pub success : (t : Target) (b : List ℕ) (key : Key) (d : Definition) (out : List ℕ) → (answer t b key d out).number ≡ 0
      → (k : IsArchive b) × (h : Held) × Holds b key k h × Standing t b key d h
      × (reload_is t b key d out ≡ Ok (record { 0 = length_of (defined t b key d h) }))
      × (reload_out t b key d out ≡ over (pack (pdu.print (defined t b key d h))) out)
  -- a refusal changes no byte
  pub refusal : (t : Target) (b : List ℕ) (key : Key) (d : Definition) (out : List ℕ) (f : Refusal) → reload_is t b key d out ≡ Err f
      → reload_out t b key d out ≡ out
