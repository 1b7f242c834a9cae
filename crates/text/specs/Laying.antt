-- Bytes laid in a buffer from a place on.
use Rattle.std.specs.Prelude.{List, ℕ, ◌+◌, length, leb}
use Rattle.bits.specs.Bits.{guard, splice}

-- the buffer with the bytes from a place on; as it was where it has no room for all of them
unfoldable pub laid_at : List ℕ → ℕ → List ℕ → List ℕ
laid_at out at s = guard (leb (at + length s) (length out)) out (splice out at s)

-- the place after them in a buffer of so many bytes; the same place where it has no room
unfoldable pub end_at : ℕ → ℕ → List ℕ → ℕ
end_at room at s = guard (leb (at + length s) room) at (at + length s)
