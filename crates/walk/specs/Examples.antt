-- Worked cases that antt computes: profile A and the INTERROGATE of document 01's P13 and P14, and each refusal number with its place.
use Rattle.std.specs.Prelude.{◌≡◌, refl, List, [], ◌∷◌, ℕ, Ok, Some, None}
use Rattle.bits.specs.Bits.{bits}
use Rattle.bits.specs.Frame.{framed}
use Rattle.grammar.specs.Grammar.{zero_identity, grammar}
use Rattle.grammar.specs.ProfileRecords.{A, asking}
use Rattle.walk.specs.Walk.{head_of, refusing, walk_is}

-- `unfolding computed` opens all of it
unfoldable computed : Unit {0}
unfolding grammar walk_is framed bits
computed = tt

-- 49 82 00 00 0a 21 21 20 00 0c 80 00 0c 70 80 00 4b 00
profile-a : walk_is (73 ∷ 130 ∷ 0 ∷ 0 ∷ 10 ∷ 33 ∷ 33 ∷ 32 ∷ 0 ∷ 12 ∷ 128 ∷ 0 ∷ 12 ∷ 112 ∷ 128 ∷ 0 ∷ 75 ∷ 0 ∷ []) 138 ≡ Ok (head_of A)
unfolding computed
profile-a = refl

-- 49 62 00 00 0a, and the interrogation type in the byte after it
abbrev interrogate : ℕ → List ℕ
interrogate last = 73 ∷ 98 ∷ 0 ∷ 0 ∷ 10 ∷ last ∷ []

asked : walk_is (interrogate 64) 42 ≡ Ok (head_of asking)
unfolding computed
asked = refl

-- 1: a byte too few
byte-missing : walk_is (73 ∷ 98 ∷ 0 ∷ 0 ∷ 10 ∷ []) 42 ≡ refusing 1 None
unfolding computed
byte-missing = refl

-- 2: the PDU ends inside the interrogation type, which is due at 40
cut : walk_is (interrogate 0) 41 ≡ refusing 2 (Some 40)
unfolding computed
cut = refl

-- 3: interrogation type 0 is reserved
reserved : walk_is (interrogate 0) 42 ≡ refusing 3 (Some 40)
unfolding computed
reserved = refl

-- 4: a range from 200 to 199, whose second end is at 84
reversed : walk_is (73 ∷ 130 ∷ 0 ∷ 0 ∷ 10 ∷ 33 ∷ 33 ∷ 32 ∷ 0 ∷ 25 ∷ 0 ∷ 0 ∷ 12 ∷ 112 ∷ 0 ∷ []) 113 ≡ refusing 4 (Some 84)
unfolding computed
reversed = refl

-- 5: a bit after the interrogation type
bit-left : walk_is (interrogate 64) 43 ≡ refusing 5 (Some 42)
unfolding computed
bit-left = refl

-- 3 at the PDU type: 4, which table 23 names and which has no PDU
no-type : walk_is (72 ∷ 128 ∷ []) 11 ≡ refusing 3 (Some 6)
unfolding computed
no-type = refl

-- a CALL BARRED with cause 2, and with cause 3, which is reserved: no affected users
call-barred : walk_is (73 ∷ 176 ∷ []) 13 ≡ Ok (record { kind = 13; code = 0; user = zero_identity; result = 0 })
unfolding computed
call-barred = refl

cause-reserved : walk_is (73 ∷ 184 ∷ []) 13 ≡ refusing 3 (Some 11)
unfolding computed
cause-reserved = refl
