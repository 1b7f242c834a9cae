-- Examples that antt computes. The bytes 49 82 begin profile A: SS type 18 in 6 bits, PDU type 12 in 5, range type 1 in 4.
use Rattle.std.specs.Prelude.{◌≡◌, refl, [], ◌∷◌, true, false, Some, None, ◌*◌, ◌^◌, take, drop, replicate, ltb}
use Rattle.std.proofs.Common.{arith}
use Rattle.bits.specs.Lists.{some, every}
use Rattle.bits.specs.Bits.{bits, bits_of, value, splice, Bytes}
use Rattle.bits.specs.Frame.{bytes_for, bits_in, framed, bytes_of, pack}
use Rattle.bits.specs.Element.{element_at, taken_at, window_at, put_at, lay_at}

-- the most significant bit of the first byte comes first
first-bits : bits (0x49 ∷ 0x82 ∷ []) ≡
    false ∷ true ∷ false ∷ false ∷ true ∷ false ∷ false ∷ true ∷ true ∷ false ∷ false ∷ false ∷ false ∷ false ∷ true ∷ false ∷ []
unfolding bits bits_of
first-bits = refl

-- profile A's user, SSI 5: 24 bits from place 15 on, the last of one byte, two whole ones and seven bits of a fourth
across-bytes : value (take 24 (drop 15 (bits (0x49 ∷ 0x82 ∷ 0x00 ∷ 0x00 ∷ 0x0a ∷ [])))) ≡ 5
unfolding bits bits_of value
across-bytes = refl

-- four zeros in the middle of a byte: the bits around them stay
in_the-middle : splice (bits (0xff ∷ 0x82 ∷ [])) 2 (bits_of 4 0) ≡ bits (0xc3 ∷ 0x82 ∷ [])
unfolding bits bits_of
in_the-middle = refl

-- the PDU type, and an element that the 11 bits of a PDU do not hold whole
pdu-type : taken_at (0x49 ∷ 0x80 ∷ []) 11 6 5 ≡ Some (12, record { at = 11 })
unfolding taken_at element_at bits bits_of value
pdu-type = refl

ends-before : taken_at (0x49 ∷ 0x80 ∷ []) 11 8 4 ≡ None
unfolding taken_at element_at bits bits_of
ends-before = refl

-- a window of the same two bytes from place 6 on begins with the PDU type, and zeros follow
window-type : window_at (0x49 ∷ 0x80 ∷ []) 6 ≡ 12 * 2 ^ 52
unfolding window_at bits bits_of value
window-type = refl

-- put there again: 18 in 6 bits, then 12 in 5
put-type : put_at (0x48 ∷ 0x00 ∷ []) 6 5 12 ≡ bits (0x49 ∷ 0x80 ∷ [])
unfolding bits bits_of
put-type = refl

-- 11 bits are framed in two bytes whose last five bits are zero, and not with one of those set
is_framed : framed (0x49 ∷ 0x80 ∷ []) 11 ≡ true
unfolding framed bits bits_of value
is_framed = refl

unused-bit : framed (0x49 ∷ 0x81 ∷ []) 11 ≡ false
unfolding framed bits bits_of value
unused-bit = refl

-- ---- limits from both sides

-- 256 is no byte
no_byte : Bytes (0xff ∷ 256 ∷ []) → ⊥
no_byte y = omega (arith, y 1)

-- bits divided by 8, rounded up
rounded_up : (bytes_for 0 ≡ 0) × (bytes_for 1 ≡ 1) × (bytes_for 8 ≡ 1) × (bytes_for 9 ≡ 2) × (bytes_for 4096 ≡ 512) × (bytes_for 4097 ≡ 513)
rounded_up = (refl, refl, refl, refl, refl, refl)

-- at most 4,096 bits
longest : (framed (replicate 512 0) 4096 ≡ true) × (framed (replicate 513 0) 4097 ≡ false)
unfolding framed bits bits_of value
longest = (refl, refl)

-- exactly the bytes that hold them: not one more, not one less; no bits are in no bytes
byte-count : (framed (0x49 ∷ 0x80 ∷ 0x00 ∷ []) 11 ≡ false) × (framed (0x49 ∷ []) 11 ≡ false) × (framed [] 0 ≡ true) × (framed (0x00 ∷ []) 0 ≡ false)
unfolding framed bits bits_of value
byte-count = (refl, refl, refl, refl)

-- each unused bit must be zero, the first of them and the last
each-unused : (framed (0x49 ∷ 0x90 ∷ []) 11 ≡ false) × (framed (0x49 ∷ 0x81 ∷ []) 11 ≡ false) × (framed (0x49 ∷ 0xa0 ∷ []) 11 ≡ true)
unfolding framed bits bits_of value
each-unused = (refl, refl, refl)

-- a PDU's own 11 bits, and the two bytes that hold them again
own_bits : bits_in 11 (0x49 ∷ 0x80 ∷ []) ≡ false ∷ true ∷ false ∷ false ∷ true ∷ false ∷ false ∷ true ∷ true ∷ false ∷ false ∷ []
unfolding bits bits_of
own_bits = refl

packed : pack (false ∷ true ∷ false ∷ false ∷ true ∷ false ∷ false ∷ true ∷ true ∷ false ∷ true ∷ []) ≡ 0x49 ∷ 0xa0 ∷ []
unfolding pack bytes_of bits_of value
packed = refl

-- an element has 1 to 32 bits
widths : (taken_at (replicate 5 0xff) 40 0 0 ≡ None) × (taken_at (replicate 5 0xff) 40 0 33 ≡ None)
    × (taken_at (replicate 5 0xff) 40 8 32 ≡ Some (4294967295, record { at = 40 })) × (taken_at (replicate 5 0xff) 40 9 32 ≡ None)
unfolding taken_at element_at bits bits_of value
widths = (refl, refl, refl, refl)

-- 57 bits are put where there is room for all of them; otherwise, and for more, nothing is
room : (put_at (replicate 8 0xff) 7 57 0 ≡ bits (0xfe ∷ replicate 7 0))
    × (put_at (replicate 8 0xff) 8 57 0 ≡ bits (replicate 8 0xff))
    × (put_at (replicate 8 0xff) 0 58 0 ≡ bits (replicate 8 0xff))
unfolding bits bits_of
room = (refl, refl, refl)

-- an element is laid with zeros to the end of eight bytes, and put where fewer stand
laid : (lay_at (replicate 9 0xff) 4 4 5 ≡ bits (0xf5 ∷ 0 ∷ 0 ∷ 0 ∷ 0 ∷ 0 ∷ 0 ∷ 0 ∷ 0xff ∷ []))
    × (lay_at (0xff ∷ 0xff ∷ []) 4 4 5 ≡ bits (0xf5 ∷ 0xff ∷ []))
unfolding bits bits_of
laid = (refl, refl)

-- ---- lists of three, of which one is 13

-- some are below 13, and not every one is; without it every one is
tests : (every (λ d. ltb d 13) (1 ∷ 13 ∷ 2 ∷ []) ≡ false)
    × (every (λ d. ltb d 13) (1 ∷ 2 ∷ []) ≡ true)
    × (some (λ d. ltb d 13) (13 ∷ 2 ∷ []) ≡ true)
    × (some (λ d. ltb d 13) (13 ∷ []) ≡ false)
unfolding some every
tests = (refl, refl, refl, refl)
