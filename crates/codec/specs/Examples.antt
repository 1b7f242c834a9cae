-- An example that antt computes: a length of 2 bits, 1 or more, and as many digits of 4 bits, below 13, in three places.
use Rattle.std.specs.Prelude.{◌≡◌, refl, false, Ok, Err, List, [], ◌∷◌, ◌++◌, ℕ, replicate, ltb}
use Rattle.bits.specs.Bits.{pick, bits, bits_of, value}
use Rattle.codec.specs.Codec.{Codec, ok, no, first}
use Rattle.codec.specs.Parts.{number, absent, element, tested, seq, ◌>>=◌}
use Rattle.codec.specs.Places.{nil, cons, places}
use Rattle.codec.specs.Whole.{whole_parse}
use Rattle.codec.specs.Reading.{got, refused, read_at, said, reached, resume, element_of, tested_is}

unfoldable some : ℕ → ℕ
some n = pick (ltb 0 n) 0 3

unfoldable digit : ℕ → ℕ
digit d = pick (ltb d 13) 0 3

unfoldable short_number : Codec (ℕ × List ℕ)
short_number = do
  length ← element 2 some
  places (element 4 digit) absent 3 length

-- `unfolding computed` opens all of it
unfoldable computed : Unit {0}
unfolding short_number some digit seq element tested number absent places nil cons bits_of value
computed = tt

written : short_number.print (2, 1 ∷ 12 ∷ 0 ∷ []) ≡ bits_of 2 2 ++ (bits_of 4 1 ++ bits_of 4 12)
unfolding computed
written = refl

read_back : whole_parse short_number (bits_of 2 2 ++ (bits_of 4 1 ++ bits_of 4 12)) ≡ ok (2, 1 ∷ 12 ∷ 0 ∷ []) 10 []
unfolding computed
read_back = refl

-- an unused place that is not zero is not clean, and that is no fault of an element
unused : short_number.clean (1, 1 ∷ 7 ∷ 0 ∷ []) ≡ false
unfolding computed
unused = refl

-- a refused length comes before any digit, and a refused digit before the end of the PDU inside the next one
bad-length : whole_parse short_number (bits_of 2 0 ++ bits_of 4 13) ≡ no 3 0
unfolding computed
bad-length = refl

bad-digit : whole_parse short_number (bits_of 2 2 ++ (bits_of 4 13 ++ bits_of 2 0)) ≡ no 3 2
unfolding computed
bad-digit = refl

ends-inside : whole_parse short_number (bits_of 2 2 ++ (bits_of 4 1 ++ bits_of 2 0)) ≡ no 2 6
unfolding computed
ends-inside = refl

left_over : whole_parse short_number (bits_of 2 1 ++ (bits_of 4 1 ++ bits_of 2 0)) ≡ no 5 6
unfolding computed
left_over = refl

-- ---- what is to be written: a refusal of the first part comes first, 0 is none

earlier : (first 3 4 ≡ 3) × (first 0 4 ≡ 4) × (first 0 0 ≡ 0)
earlier = (refl, refl, refl)

-- a value wider than its element is refused with 3; of a refused length and a refused digit the first counts; unused places are not looked at
faults : (short_number.fault (3, 1 ∷ 12 ∷ 0 ∷ []) ≡ 0)
    × (short_number.fault (4, 1 ∷ 12 ∷ 0 ∷ []) ≡ 3)
    × (short_number.fault (1, 16 ∷ 0 ∷ 0 ∷ []) ≡ 3)
    × (short_number.fault (1, 1 ∷ 13 ∷ 0 ∷ []) ≡ 0)
unfolding computed
faults = (refl, refl, refl, refl)

-- ---- one element of the 11 bits 01001001 100: read at a place; not there whole; no width

elements : (element_of (0x49 ∷ 0x80 ∷ []) 11 5 6 ≡ got 12 11)
    × (element_of (0x49 ∷ 0x80 ∷ []) 11 5 7 ≡ refused 2 7)
    × (element_of (0x49 ∷ 0x80 ∷ []) 11 0 6 ≡ refused 2 6)
    × (element_of (replicate 5 0xff) 40 33 0 ≡ refused 2 0)
unfolding element_of read_at number bits bits_of value
elements = (refl, refl, refl, refl)

-- the same read by who stands at place 6, and by who was refused with 3 at place 2
resumed : (resume (Ok (record { at = 6 })) (element_of (0x49 ∷ 0x80 ∷ []) 11 5) ≡ got 12 11)
    × (resume (Err (record { number = 3; at = 2 })) (element_of (0x49 ∷ 0x80 ∷ []) 11 5) ≡ refused 3 2)
unfolding resume element_of read_at number bits bits_of value
resumed = (refl, refl)

-- a number that was read from place 6 to 11, under its test: passed; refused where it begins; what stood before is passed on
tested-numbers : (tested_is (Ok (record { at = 6 })) (Ok (12, record { at = 11 })) 0 ≡ Ok (12, record { at = 11 }))
    × (tested_is (Ok (record { at = 6 })) (Ok (13, record { at = 11 })) 10 ≡ Err (record { number = 10; at = 6 }))
    × (tested_is (Ok (record { at = 6 })) (Err (record { number = 2; at = 6 })) 3 ≡ Err (record { number = 2; at = 6 }))
    × (tested_is (Err (record { number = 3; at = 0 })) (Err (record { number = 3; at = 0 })) 10 ≡ Err (record { number = 3; at = 0 }))
unfolding tested_is
tested-numbers = (refl, refl, refl, refl)

-- a reader's result: the value and the cursor after it, or where it stops
results : (said (element_of (0x49 ∷ 0x80 ∷ []) 11 5 6) ≡ Ok (12, record { at = 11 }))
    × (said (element_of (0x49 ∷ 0x80 ∷ []) 11 5 7) ≡ Err (record { number = 2; at = 7 }))
    × (reached (element_of (0x49 ∷ 0x80 ∷ []) 11 5 6) ≡ Ok (record { at = 11 }))
    × (reached (element_of (0x49 ∷ 0x80 ∷ []) 11 5 7) ≡ Err (record { number = 2; at = 7 }))
unfolding element_of read_at number bits bits_of value
results = (refl, refl, refl, refl)
