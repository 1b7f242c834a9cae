-- The decimal digits of a number, in ASCII.
use Rattle.std.specs.Prelude.{List, [], ◌∷◌, ◌++◌, ℕ, zero, suc, ◌+◌, ◌/◌, ◌%◌, ltb}
use Rattle.bits.specs.Bits.{pick}

-- `0` is 48
abbrev pub digit : ℕ → ℕ
digit n = 48 + n

-- at most so many digits of a number, the most significant first, with no leading zeros
unfoldable pub digits : ℕ → ℕ → List ℕ
digits zero n = []
digits (suc k) n = pick (ltb n 10) (digit n ∷ []) (digits k (n / 10) ++ (digit (n % 10) ∷ []))

-- all digits: a number of 64 bits has at most 20
unfoldable pub decimal : ℕ → List ℕ
decimal n = digits 20 n

-- a number and what stands after it
unfoldable pub item : ℕ → List ℕ → List ℕ
item n word = decimal n ++ word
