-- Decimal fields: which bytes are one, and which number it says. Leading zeros are digits like others.
use Rattle.std.specs.Prelude.{Bool, ◌&&◌, List, [], ◌∷◌, Option, Some, None, ℕ, suc, ◌+◌, ◌-◌, ◌*◌, take, drop, leb}
use Rattle.bits.specs.Bits.{pick, guard}

-- `0` to `9` are 48 to 57
unfoldable pub is_digit : ℕ → Bool
is_digit b = leb 48 b && leb b 57

-- how many digits stand first
unfoldable pub run : List ℕ → ℕ
run [] = 0
run (b ∷ s) = pick (is_digit b) (suc (run s)) 0

-- the number that digits say behind one that was read
unfoldable pub number_from : ℕ → List ℕ → ℕ
number_from n [] = n
number_from n (b ∷ s) = number_from (n * 10 + (b - 48)) s

-- the number that digits say
abbrev pub number_of : List ℕ → ℕ
number_of s = number_from 0 s

-- the field of these digits from a place on, as its number and the place after it: 1 to `widest` of them, and no more than nine
unfoldable pub field_of : List ℕ → ℕ → ℕ → ℕ → Option (ℕ × ℕ)
field_of s at n widest = guard (leb 1 n && (leb n widest && leb n 9)) None (Some (number_of (take n (drop at s)), at + n))

-- the field that begins at a place: all digits from there on
unfoldable pub field_at : List ℕ → ℕ → ℕ → Option (ℕ × ℕ)
field_at s at widest = field_of s at (run (drop at s)) widest
