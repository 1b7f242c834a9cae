-- An element at a place: taken by the cursor, put into a buffer.
use Rattle.std.specs.Prelude.{ℕ, ◌+◌, ◌-◌, ◌*◌, ◌/◌, ◌%◌, List, ◌++◌, Bool, false, ◌&&◌, Option, Some, None, length, take, drop, replicate, leb}
use Rattle.bits.specs.Bits.{pick, bits, value, bits_of, splice}
use Rattle.bits.specs.Frame.{bits_in}
use Rattle.bits.specs.declared.Cursor.{Cursor}

-- an element of w bits at a place of a run: its value and the place after it, where the run has so many bits there
unfoldable pub element_at : List Bool → ℕ → ℕ → Option (ℕ × Cursor)
element_at l at w = pick (leb (at + w) (length l)) (Some (value (take w (drop at l)), record { at = at + w })) None

-- an element of a PDU of n bits in the bytes s; an element has 1 to 32 bits
unfoldable pub taken_at : List ℕ → ℕ → ℕ → ℕ → Option (ℕ × Cursor)
taken_at s n at w = pick (leb 1 w && leb w 32) (element_at (bits_in n s) at w) None

-- the number that the 57 bits from a place on are; zeros stand for those after the end
unfoldable pub window_at : List ℕ → ℕ → ℕ
window_at s at = value (take 57 (drop at (bits s) ++ replicate 57 false))

-- room for up to 57 bits, all within the bytes
abbrev pub has_room : List ℕ → ℕ → ℕ → Bool
has_room s at w = leb w 57 && leb (at + w) (8 * length s)

-- the bits of s with the w low bits of v at a place, if there is room
abbrev pub put_at : List ℕ → ℕ → ℕ → ℕ → List Bool
put_at s at w v = pick (has_room s at w) (splice (bits s) at (bits_of w v)) (bits s)

-- up to 57 bits within eight of `count` bytes, the first of them in the first
abbrev pub has_eight : ℕ → ℕ → ℕ → Bool
has_eight count at w = leb w 57 && leb (at / 8 + 8) count

-- the bits of s with the w low bits of v at a place and zeros to the end of the eight bytes from there on; where there are fewer, put
abbrev pub lay_at : List ℕ → ℕ → ℕ → ℕ → List Bool
lay_at s at w v = pick (has_eight (length s) at w) (splice (bits s) at (bits_of w v ++ bits_of (64 - at % 8 - w) 0)) (put_at s at w v)
