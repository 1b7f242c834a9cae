-- Demand 1, the entry at an index: 7, then 11 for an index that is not below the count. Each is given exactly then. With 7 its entry and place.
use Rattle.std.specs.Prelude.{◌≡◌, List, [], ◌∷◌, ℕ, ◌+◌, ◌/◌, ◌≤◌, length, Ok}
use Rattle.archive.specs.Model.{Held}
use Rattle.archive.specs.Keeping.{over}
use Rattle.archive.specs.Restoring.{listed_refusal, entry_is, restore_is, restore_out}
use Rattle.archive.specs.Refusals.{plain}
use Rattle.archive.specs.declared.refusal.Refusal.{Refusal}
use Rattle.promises.specs.Answers.{Exactly}
use Rattle.promises.specs.Archive.{IsArchive, StandsAt}
use Rattle.promises.specs.Broken.{number_of, Broken}

abbrev pub answer : List ℕ → ℕ → Refusal
answer b index = listed_refusal (entry_is b index)

-- the table of refusals, as far as this goes
pub data Given (b : List ℕ) (index : ℕ) : Refusal → Type 0 where
  success : (k : IsArchive b) (h : Held) → StandsAt k.archive.held index h → Given b index (plain 0)
  -- 7: the archive breaks a rule
  damaged : (f : Refusal) → Broken b f → Given b index f
  -- 11: no entry has that index
  beyond : (k : IsArchive b) → length k.archive.held ≤ index → Given b index (plain 11)

-- Proved in proofs/Demand1/Entry.antt; each number is met in CallsMet.
pub record Promise : Type 0 where
  pub table : (b : List ℕ) (index : ℕ) → Exactly number_of (answer b index) (0 ∷ 7 ∷ 11 ∷ []) (Given b index)
  -- success: the entry that stands there
  pub success : (b : List ℕ) (index : ℕ) → (answer b index).number ≡ 0
      → (k : IsArchive b) × (h : Held) × StandsAt k.archive.held index h × (entry_is b index ≡ Ok h.entry)
  -- Restoring by its user and part gives that PDU, of its bits and its day: who goes through the indices restores all.
  pub restores : (b : List ℕ) (k : IsArchive b) (index : ℕ) (h : Held) → StandsAt k.archive.held index h → (out : List ℕ)
      → (h.entry.bits.0 + 7) / 8 ≤ length out
      → (restore_is b h.entry.key (length out) ≡ Ok (record { bits = h.entry.bits; day = h.entry.day })) × (restore_out b h.entry.key out ≡ over h.body out)
