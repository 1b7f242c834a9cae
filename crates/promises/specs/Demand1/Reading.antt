-- Demand 1, reading: "1; then element by element, left to right, 2 before 3; 4 after the second end; 5 last. Each is given exactly then."
-- With each but 1 the bit place of the first bit of the element that caused it (document 02, 2026-03).
use Rattle.std.specs.Prelude.{◌≡◌, refl, Bool, List, [], ◌∷◌, ◌++◌, ℕ, suc, length, Ok, Err, Option, Some, None}
use Rattle.bits.specs.Bits.{bits}
use Rattle.bits.specs.Frame.{bits_in, framed, Framed}
use Rattle.codec.specs.Codec.{Legal}
use Rattle.codec.specs.Stops.{Stops}
use Rattle.grammar.specs.Grammar.{pdu, grammar}
use Rattle.grammar.specs.declared.record.Record.{Record}
use Rattle.walk.specs.declared.Refusal.{Refusal}
use Rattle.reader.specs.Read.{refusal_of, answer_of, found_in, refusing, read_is}
use Rattle.promises.specs.Answers.{Exactly}

-- a number and a place, or none
abbrev pub told : ℕ → Option ℕ → Refusal
told k p = record { number = k; place = p }

abbrev pub number_of : Refusal → ℕ
number_of f = f.number

-- the refusal, with the number 0 and no place for an accepted PDU
abbrev pub answer : List ℕ → ℕ → Refusal
answer s n = refusal_of (answer_of (read_is s n))

-- the table of refusals, as far as reading goes
pub data Given (s : List ℕ) (n : ℕ) : Refusal → Type 1 where
  -- the PDU is the writing of a legal record
  accepted : (r : Record) → Framed s n → Legal pdu r → bits_in n s ≡ pdu.print r → Given s n (told 0 None)
  -- 1: over 4,096 bits, wrong byte count, or a nonzero unused bit
  unframed : (Framed s n → ⊥) → Given s n (told 1 None)
  -- 2: the PDU ends inside an element, or just before one that is due; 3: an element's value is refused; 4: range ends disagree or are reversed;
  -- p bits stand before the element, for 4 before the second end's SSI
  stopped : (k p : ℕ) → Framed s n → Stops Record pdu (bits_in n s) (suc k) p → Given s n (told (suc k) (Some p))
  -- 5: bits left after the last element, from where its writing ends
  left_over : (r : Record) (b : Bool) (more : List Bool) → Framed s n → Legal pdu r → bits_in n s ≡ pdu.print r ++ (b ∷ more)
      → Given s n (told 5 (Some (length (pdu.print r))))

-- each is met, 2 also at the PDU's end, and 3 also at a PDU type that table 23 names and that has no PDU
met : (answer (0x49 ∷ 0x62 ∷ 0x00 ∷ 0x00 ∷ 0x0a ∷ 0x40 ∷ []) 42 ≡ told 0 None)
    × (answer [] 1 ≡ told 1 None)
    × (answer [] 0 ≡ told 2 (Some 0))
    × (answer (0x49 ∷ 0x62 ∷ 0x00 ∷ 0x00 ∷ 0x0a ∷ []) 40 ≡ told 2 (Some 40))
    × (answer (0x49 ∷ 0x62 ∷ 0x00 ∷ 0x00 ∷ 0x08 ∷ []) 38 ≡ told 2 (Some 15))
    × (answer (0x00 ∷ []) 6 ≡ told 3 (Some 0))
    × (answer (0x49 ∷ 0x62 ∷ 0x00 ∷ 0x00 ∷ 0x0a ∷ 0x00 ∷ []) 42 ≡ told 3 (Some 40))
    × (answer (0x49 ∷ 0x72 ∷ 0x00 ∷ 0x01 ∷ 0x90 ∷ 0x00 ∷ 0x00 ∷ 0xc7 ∷ 0x00 ∷ []) 65 ≡ told 4 (Some 40))
    × (answer (0x49 ∷ 0x62 ∷ 0x00 ∷ 0x00 ∷ 0x0a ∷ 0x40 ∷ []) 43 ≡ told 5 (Some 42))
    × (answer (0x48 ∷ 0x80 ∷ []) 11 ≡ told 3 (Some 6))
unfolding grammar read_is framed bits
met = (refl, refl, refl, refl, refl, refl, refl, refl, refl, refl)

-- what is not framed gives 1, whatever its bits say; no record stands beside a refusal
unframed-first : (read_is (0x00 ∷ 0x01 ∷ []) 9 ≡ refusing 1 None) × (read_is (0x48 ∷ 0x01 ∷ []) 11 ≡ Err (told 1 None))
unfolding grammar read_is framed bits
unframed-first = (refl, refl)

abbrev pub numbers : List ℕ
numbers = 0 ∷ 1 ∷ 2 ∷ 3 ∷ 4 ∷ 5 ∷ []

-- Proved in proofs/Demand1/Reading.antt.
pub record Promise : Type 1 where
  pub table : (s : List ℕ) (n : ℕ) → Exactly number_of (answer s n) numbers (Given s n)
  -- "an accepted one and its record, or a refusal number": the record is legal, and its writing is the PDU
  pub success : (s : List ℕ) (n : ℕ) → (answer s n).number ≡ 0
      → (answer_of (read_is s n) ≡ Ok tt) × Legal pdu (found_in (read_is s n)) × (bits_in n s ≡ pdu.print (found_in (read_is s n)))
  -- a refusal returns its number and its place only: no record stands beside it
  pub refusal : (s : List ℕ) (n : ℕ) (f : Refusal) → answer_of (read_is s n) ≡ Err f → read_is s n ≡ refusing f.number f.place
