-- What the bits of bytes are, most significant first, and what number a run of bits is.
use Rattle.std.specs.Prelude.{ℕ, zero, suc, ◌+◌, ◌*◌, ◌/◌, ◌%◌, ◌^◌, ◌<◌, List, [], ◌∷◌, ◌++◌, Bool, true, false, length, get_or, take, drop, eqb}

-- one of two, by a test
abbrev pub pick : {A : Type 0} → Bool → A → A → A
pick true a b = a
pick false a b = b

-- a refusal unless a test passes, then the rest
abbrev pub guard : {A : Type 0} → Bool → A → A → A
guard test refusal rest = pick test rest refusal

-- a bit as a number
abbrev pub bit : Bool → ℕ
bit b = pick b 1 0

-- the number that a run of bits is
unfoldable pub value : List Bool → ℕ
value [] = 0
value (b ∷ l) = bit b * 2 ^ length l + value l

-- the bits of a number at the width w: its w lowest
unfoldable pub bits_of : ℕ → ℕ → List Bool
bits_of zero v = []
bits_of (suc w) v = eqb (v / 2 ^ w % 2) 1 ∷ bits_of w v

-- numbers that are bytes: each is below 256
abbrev pub Bytes : List ℕ → Type 0
Bytes s = (i : ℕ) → get_or s i 0 < 256

-- the bits of bytes: the eight bits of each, in order
unfoldable pub bits : List ℕ → List Bool
bits [] = []
bits (b ∷ s) = bits_of 8 b ++ bits s

-- a list with these elements from place `at` on, all others as they were
abbrev pub splice : {A : Type 0} → List A → ℕ → List A → List A
splice l at new = take at l ++ (new ++ drop (at + length new) l)
