-- Demand 1, restore: "9, 7, 11, 8. Each is given exactly then." With 7 its entry and place.
use Rattle.std.specs.Prelude.{◌≡◌, refl, List, [], ◌∷◌, ◌++◌, ℕ, ◌+◌, ◌/◌, ◌≤◌, ◌<◌, length, take, Ok, Err, Some}
use Rattle.archive.specs.Model.{Held, in_range}
use Rattle.archive.specs.Filing.{filing_of, body_agrees}
use Rattle.archive.specs.Keeping.{over}
use Rattle.archive.specs.Restoring.{restored_refusal, restore_is, restore_out}
use Rattle.archive.specs.Refusals.{plain, of_body}
use Rattle.archive.specs.Examples.{calls, profile_a, part_of5, bytes_a}
use Rattle.archive.specs.declared.refusal.Refusal.{Refusal}
use Rattle.archive.specs.declared.contents.Key.{Key}
use Rattle.promises.specs.Answers.{Exactly}
use Rattle.promises.specs.Archive.{IsArchive, Ranged, HeldFor}
use Rattle.promises.specs.Broken.{number_of, Broken}

abbrev pub answer : List ℕ → Key → ℕ → Refusal
answer b key room = restored_refusal (restore_is b key room)

module _ (b : List ℕ) (key : Key) where
  -- an archive holds this PDU for the user and part
  abbrev pub Holds : IsArchive b → Held → Type 0
  Holds k = HeldFor k.archive.held key

  -- the table of refusals, as far as restore goes
  pub data Given (room : ℕ) : Refusal → Type 0 where
    success : Ranged key → (k : IsArchive b) (h : Held) → Holds k h → (h.entry.bits.0 + 7) / 8 ≤ room → Given room (plain 0)
    -- 9: a user or part out of its range
    unranged : (Ranged key → ⊥) → Given room (plain 9)
    -- 7: the archive breaks a rule
    damaged : (f : Refusal) → Ranged key → Broken b f → Given room f
    -- 11: not held
    not-held : Ranged key → (k : IsArchive b) → ((h : Held) → Holds k h → ⊥) → Given room (plain 11)
    -- 8: the result exceeds the lent buffer
    no_room : Ranged key → (k : IsArchive b) (h : Held) → Holds k h → room < (h.entry.bits.0 + 7) / 8 → Given room (plain 8)

-- profile A, cut to 136 bits: the exception's SSI is not there whole
abbrev cut_a : List ℕ
cut_a = take 13 bytes_a ++ (0x88 ∷ 0x01 ∷ 0x2c ∷ take 17 profile_a)

-- each is met, and of two the first in order is given
met : (answer bytes_a (part_of5 1) 18 ≡ plain 0)
    × (answer bytes_a (part_of5 3) 18 ≡ plain 9)
    × (answer [] (part_of5 1) 18 ≡ plain 7)
    × (answer cut_a (part_of5 1) 18 ≡ of_body 0 (Some 113))
    × (answer bytes_a (part_of5 2) 18 ≡ plain 11)
    × (answer bytes_a (part_of5 1) 17 ≡ plain 8)
    × (answer [] (record { network = 1; ssi = 16777216; part = 1 }) 18 ≡ plain 9)
    × (answer bytes_a (part_of5 2) 0 ≡ plain 11)
unfolding calls body_agrees filing_of restore_is in_range
met = (refl, refl, refl, refl, refl, refl, refl, refl)

-- Proved in proofs/Demand1/Restore.antt.
pub record Promise : Type 0 where
  pub table : (b : List ℕ) (key : Key) (room : ℕ)
      → Exactly number_of (answer b key room) (0 ∷ 9 ∷ 7 ∷ 11 ∷ 8 ∷ []) (Given b key room)
  -- the day that is held with it; "Success returns the length written; output bytes after those that hold that length stay."
  pub success : (b : List ℕ) (key : Key) (out : List ℕ) → (answer b key (length out)).number ≡ 0
      → (k : IsArchive b) × (h : Held) × Holds b key k h
      × (restore_is b key (length out) ≡ Ok (record { bits = h.entry.bits; day = h.entry.day })) × (restore_out b key out ≡ over h.body out)
  -- a refusal changes no byte
  pub refusal : (b : List ℕ) (key : Key) (out : List ℕ) (f : Refusal) → restore_is b key (length out) ≡ Err f
      → restore_out b key out ≡ out
