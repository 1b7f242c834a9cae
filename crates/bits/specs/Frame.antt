-- A PDU is a bit length and the bytes that hold it; refusal 1 is for what is not framed so.
use Rattle.std.specs.Prelude.{◌≡◌, ℕ, zero, suc, ◌+◌, ◌-◌, ◌*◌, ◌/◌, ◌≤◌, List, [], ◌∷◌, ◌++◌, Bool, ◌&&◌, length, take, drop, eqb, leb}
use Rattle.bits.specs.Bits.{bits, value, bits_of}

-- the bytes that hold n bits: n divided by 8, rounded up
abbrev pub bytes_for : ℕ → ℕ
bytes_for n = (n + 7) / 8

-- a PDU's own bits: the first n of its bytes' bits
abbrev pub bits_in : ℕ → List ℕ → List Bool
bits_in n s = take n (bits s)

-- at most 4,096 bits, exactly the bytes that hold them, and zero in the unused bits
unfoldable pub framed : List ℕ → ℕ → Bool
framed s n = leb n 4096 && eqb (length s) (bytes_for n) && eqb (value (drop n (bits s))) 0

-- the same three as statements
pub record Framed (s : List ℕ) (n : ℕ) : Type 0 where
  pub short : n ≤ 4096
  pub count : length s ≡ bytes_for n
  pub unused : value (drop n (bits s)) ≡ 0

-- k bytes of a run of bits
unfoldable pub bytes_of : ℕ → List Bool → List ℕ
bytes_of zero l = []
bytes_of (suc k) l = value (take 8 l) ∷ bytes_of k (drop 8 l)

-- the bytes that hold a run of bits, zero in the unused bits
unfoldable pub pack : List Bool → List ℕ
pack l = bytes_of (bytes_for (length l)) (l ++ bits_of (8 * bytes_for (length l) - length l) 0)
