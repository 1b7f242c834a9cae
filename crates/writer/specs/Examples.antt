-- Writing worked out by antt: profile A and the INTERROGATE of document 01's P13 and P14, the order of refusals, DEFINE, and words.
use Rattle.std.specs.Prelude.{◌≡◌, refl, List, [], ◌∷◌, ◌++◌, ℕ, replicate, Result, Ok, Err}
use Rattle.bits.specs.Frame.{bytes_of, pack}
use Rattle.bits.specs.declared.BitCount.{BitCount}
use Rattle.grammar.specs.Grammar.{grammar, zero_identity}
use Rattle.grammar.specs.Figures.{of_interrogation, of_definition}
use Rattle.grammar.specs.Zero.{zero_identities, zero_numbers, zero_services, zero_lists}
use Rattle.grammar.specs.ProfileRecords.{user, A, asking}
use Rattle.grammar.specs.declared.record.Identities.{Identities}
use Rattle.grammar.specs.declared.record.Numbers.{Numbers}
use Rattle.grammar.specs.declared.record.Record.{Record}
use Rattle.words.specs.RecordWords.{records}
use Rattle.writer.specs.Write.{record_refusal, write_refusal, write_is, out_is, write_words_is}

-- `unfolding writing` opens all of it
unfoldable writing : Unit {0}
unfolding grammar record_refusal write_refusal write_is out_is pack bytes_of
writing = tt

-- 138 bits in 18 bytes, the six unused bits zero; the bytes after them stay
a-bytes : out_is A (replicate 20 0xff) ≡
    0x49 ∷ 0x82 ∷ 0x00 ∷ 0x00 ∷ 0x0a ∷ 0x21 ∷ 0x21 ∷ 0x20 ∷ 0x00 ∷ 0x0c ∷ 0x80 ∷ 0x00 ∷ 0x0c ∷ 0x70 ∷ 0x80 ∷ 0x00 ∷ 0x4b ∷ 0x00 ∷ 0xff ∷ 0xff ∷ []
unfolding writing
a-bytes = refl

asking-bytes : out_is asking (replicate 6 0xff) ≡ 0x49 ∷ 0x62 ∷ 0x00 ∷ 0x00 ∷ 0x0a ∷ 0x40 ∷ []
unfolding writing
asking-bytes = refl

a-length : write_is A (replicate 18 0) ≡ Ok (record { 0 = 138 })
unfolding writing
a-length = refl

-- 8 where the buffer is a byte short
short : write_is A (replicate 17 0) ≡ Err 8
unfolding writing
short = refl

-- an ACK for a reversed range of users, with a list of numbers that an identity part does not carry
abbrev reversed : Numbers → Record
reversed excepted = record {
  kind = 12;
  affected = record { code = 9; entries = user 200 ∷ user 199 ∷ replicate 6 zero_identity };
  figures = of_interrogation 0 1 0;
  services = record { count = 1; list = 1 ∷ replicate 6 0 };
  lists = record { groups = zero_identities; restricted = zero_identities; exceptions = zero_identities; numbers = zero_numbers; excepted = excepted };
}

-- 4, before 8
ends : write_is (reversed zero_numbers) [] ≡ Err 4
unfolding writing
ends = refl

-- what must be zero and is not gives 3, before the 4 of an earlier element
stray : write_is (reversed (record { code = 1; entries = zero_numbers.entries })) [] ≡ Err 3
unfolding writing
stray = refl

-- ---- the order of refusals, in 100 bytes

abbrev answer : Record → Result BitCount ℕ
answer r = write_is r (replicate 100 0)

-- PDU types that have no PDU, and one wider than its element: 3; a CALL BARRED has no affected users: 3
abbrev typed : ℕ → Record
typed kind = record {
  kind = kind;
  affected = record { code = 1; entries = user 5 ∷ replicate 7 zero_identity };
  figures = of_interrogation 1 0 0;
  services = zero_services;
  lists = zero_lists;
}

types : (answer (typed 11) ≡ Ok (record { 0 = 42 }))
    × (answer (typed 0) ≡ Err 3)
    × (answer (typed 4) ≡ Err 3)
    × (answer (typed 13) ≡ Err 3)
    × (answer (typed 31) ≡ Err 3)
    × (answer (typed 43) ≡ Err 3)
unfolding writing
types = (refl, refl, refl, refl, refl, refl)

-- a failed ACK for affected users, with this result, delivery status and service
abbrev told : Identities → ℕ → ℕ → ℕ → Record
told affected result status service = record {
  kind = 12;
  affected = affected;
  figures = of_interrogation 0 result status;
  services = record { count = 1; list = service ∷ replicate 6 0 };
  lists = zero_lists;
}

abbrev pair : ℕ → ℕ → ℕ → Identities
pair code first last = record { code = code; entries = user first ∷ user last ∷ replicate 6 zero_identity }

-- users 200 to 199 before the reserved result 5, or service 4: 4; a range type that is refused, before: 3
first_refusal : (answer (told (pair 9 199 200) 0 0 3) ≡ Ok (record { 0 = 76 }))
    × (answer (told (pair 9 200 199) 5 0 0) ≡ Err 4)
    × (answer (told (pair 9 200 199) 0 0 4) ≡ Err 4)
    × (answer (told (pair 9 199 200) 5 0 0) ≡ Err 3)
    × (answer (told (pair 9 199 200) 0 0 4) ≡ Err 3)
unfolding writing
first_refusal = (refl, refl, refl, refl, refl)

-- a value wider than its element: an SSI, a delivery status
too_wide : (answer (told (pair 2 16777215 0) 0 3 0) ≡ Ok (record { 0 = 76 }))
    × (answer (told (pair 2 16777216 0) 0 0 0) ≡ Err 3)
    × (answer (told (pair 2 0 0) 0 4 0) ≡ Err 3)
unfolding writing
too_wide = (refl, refl, refl)

-- a DEFINE of service 1 for affected users: delivery, acknowledgement, definition type, groups
abbrev defining : Identities → ℕ → ℕ → ℕ → Identities → Record
defining affected delivery acknowledgement definition groups = record {
  kind = 5;
  affected = affected;
  figures = of_definition delivery acknowledgement definition;
  services = record { count = 1; list = 1 ∷ replicate 6 0 };
  lists = record { groups = groups; restricted = zero_identities; exceptions = zero_identities; numbers = zero_numbers; excepted = zero_numbers };
}

-- an addition has its range types though all lists are empty, a removal has none
define-lengths : (answer (defining (pair 2 5 6) 1 1 0 zero_identities) ≡ Ok (record { 0 = 87 }))
    × (answer (defining (pair 2 5 6) 1 1 0 (pair 2 8 9)) ≡ Ok (record { 0 = 137 }))
    × (answer (defining (pair 2 5 6) 1 1 2 zero_identities) ≡ Ok (record { 0 = 75 }))
unfolding writing
define-lengths = (refl, refl, refl)

-- delivery is the first of its four bits, acknowledgement the second, and the definition type the others
define-bytes : out_is (defining (pair 1 5 0) 1 0 2 zero_identities) (replicate 7 0xff) ≡ 0x48 ∷ 0xa2 ∷ 0x00 ∷ 0x00 ∷ 0x0a ∷ 0xa2 ∷ 0x40 ∷ []
unfolding writing
define-bytes = refl

-- an acknowledgement without delivery, definition type 3, and a delivery wider than its element: 3
define-codes : (answer (defining (pair 2 5 6) 0 1 0 zero_identities) ≡ Err 3)
    × (answer (defining (pair 2 5 6) 1 1 3 zero_identities) ≡ Err 3)
    × (answer (defining (pair 2 5 6) 2 1 0 zero_identities) ≡ Err 3)
unfolding writing
define-codes = (refl, refl, refl)

-- groups under removal: 3, also before the 4 of reversed users; a removal of reversed users without them: 4
define-removal : (answer (defining (pair 2 5 6) 1 1 2 (pair 2 8 9)) ≡ Err 3)
    × (answer (defining (pair 9 6 5) 1 1 2 (pair 2 8 9)) ≡ Err 3)
    × (answer (defining (pair 9 6 5) 1 1 2 zero_identities) ≡ Err 4)
unfolding writing
define-removal = (refl, refl, refl)

-- a refusal changes no byte
nothing_written : out_is (told (pair 9 200 199) 0 0 0) (replicate 12 0xff) ≡ replicate 12 0xff
unfolding writing
nothing_written = refl

-- ---- from words

-- an ACK for user 5 with service 1 and one restricted number: its length and the digit 1
abbrev one_number : ℕ → List ℕ
one_number length =
    12 ∷ 1 ∷ 5 ∷ replicate 23 0 ++ (0 ∷ 2 ∷ 0 ∷ 1 ∷ 1 ∷ replicate 81 0 ++ (1 ∷ length ∷ 1 ∷ replicate 405 0))

from_words : write_words_is (one_number 1) (replicate 9 0) ≡ Ok (record { 0 = 72 })
unfolding writing records write_words_is
from_words = refl

-- 257, whose low bits are those of 1, is no length
wide_word : write_words_is (one_number 257) (replicate 9 0) ≡ Err 3
unfolding writing records write_words_is
wide_word = refl

-- a word too many: 9, before anything else
word_more : write_words_is (257 ∷ one_number 1) [] ≡ Err 9
unfolding writing records write_words_is
word_more = refl
