-- Demand 1, the listing that `contents` prints: 7, then 8. Each is given exactly then, with 7 its entry and place.
use Rattle.std.specs.Prelude.{◌≡◌, refl, List, [], ◌∷◌, ℕ, ◌≤◌, ◌<◌, length, replicate, Ok, Err}
use Rattle.archive.specs.Keeping.{stored_refusal, over}
use Rattle.text.specs.Decimal.{digits, decimal, item}
use Rattle.archive.specs.Listing.{two_items, first_line, lines, listing, list_is, list_out}
use Rattle.archive.specs.Refusals.{plain}
use Rattle.archive.specs.Examples.{calls}
use Rattle.archive.specs.declared.refusal.Refusal.{Refusal}
use Rattle.promises.specs.Answers.{Exactly}
use Rattle.promises.specs.Archive.{IsArchive}
use Rattle.promises.specs.Broken.{number_of, Broken}

abbrev pub answer : List ℕ → ℕ → Refusal
answer b room = stored_refusal (list_is b room)

-- the table of refusals, as far as the listing goes
pub data Given (b : List ℕ) (room : ℕ) : Refusal → Type 0 where
  success : (k : IsArchive b) → length (listing k.archive) ≤ room → Given b room (plain 0)
  -- 7: the archive breaks a rule
  damaged : (f : Refusal) → Broken b f → Given b room f
  -- 8: the result exceeds the lent buffer
  no_room : (k : IsArchive b) → room < length (listing k.archive) → Given b room (plain 8)

-- each is met, and of two the first in order is given
met : (answer (replicate 5 0) 17 ≡ plain 0) × (answer [] 17 ≡ plain 7) × (answer (replicate 5 0) 16 ≡ plain 8) × (answer [] 16 ≡ plain 7)
unfolding calls list_is listing two_items first_line lines item decimal digits
met = (refl, refl, refl, refl)

-- Proved in proofs/Demand1/Listing.antt.
pub record Promise : Type 0 where
  pub table : (b : List ℕ) (room : ℕ) → Exactly number_of (answer b room) (0 ∷ 7 ∷ 8 ∷ []) (Given b room)
  -- "Success returns the length written; output bytes after those that hold that length stay."
  pub success : (b out : List ℕ) → (answer b (length out)).number ≡ 0 → (k : IsArchive b)
      × (list_is b (length out) ≡ Ok (length (listing k.archive))) × (list_out b out ≡ over (listing k.archive) out)
  -- a refusal changes no byte
  pub refusal : (b out : List ℕ) (f : Refusal) → list_is b (length out) ≡ Err f → list_out b out ≡ out
