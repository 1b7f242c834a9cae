-- The same PDU taken on another day (document 02, request 2026-05): capturing it again changes exactly the two bytes of its day.
use Rattle.std.specs.Prelude.{◌≡◌, List, [], ◌∷◌, ℕ, ◌+◌, ◌*◌, ◌/◌, ◌%◌, ◌≤◌, ◌<◌, length, Ok}
use Rattle.bits.specs.Bits.{Bytes, splice}
use Rattle.archive.specs.Model.{Held}
use Rattle.archive.specs.Keeping.{over, capture_is, capture_out}
use Rattle.promises.specs.Archive.{IsArchive, StandsAt}

-- an archive holds the PDU of n bits in the bytes s, by its entry at an index
pub record HoldsAt (b s : List ℕ) (n index : ℕ) : Type 0 where
  pub archive : IsArchive b
  pub here : Held
  pub stands : StandsAt archive.archive.held index here
  pub body : here.body ≡ s
  pub bits : here.entry.bits.0 ≡ n

-- where the day of that entry stands: behind the header, the entries before it, and its network, SSI, part and bit length
abbrev pub day_place : ℕ → ℕ
day_place index = 5 + 11 * index + 9

-- Proved in proofs/Days.antt.
pub record Promise : Type 0 where
  pub another-day : (b s : List ℕ) (n index day : ℕ) (out : List ℕ) → Bytes b → HoldsAt b s n index → day < 65536 → length b ≤ length out
      → (capture_is b s n day (length out) ≡ Ok (length b))
      × (capture_out b s n day out ≡ over (splice b (day_place index) (day / 256 ∷ day % 256 ∷ [])) out)
