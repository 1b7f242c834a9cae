-- Demand 1, writing: "3 for a PDU type we don't read, or for anything that a record must hold as zero and doesn't; then 3 and 4 in the same order
-- as reading; then 8. Each is given exactly then."
use Rattle.std.specs.Prelude.{◌≡◌, refl, true, false, List, [], ◌∷◌, ◌++◌, ℕ, suc, ◌≤◌, ◌<◌, length, drop, replicate, Ok, Err}
use Rattle.bits.specs.Frame.{bytes_for, pack}
use Rattle.codec.specs.Codec.{Legal}
use Rattle.codec.specs.Faults.{Faults}
use Rattle.grammar.specs.SiteSheet.{kind_refusal}
use Rattle.grammar.specs.Grammar.{pdu, grammar, zero_identity}
use Rattle.grammar.specs.Figures.{of_interrogation}
use Rattle.grammar.specs.Zero.{zero_services, zero_lists, zero_record}
use Rattle.grammar.specs.ProfileRecords.{user, asking}
use Rattle.grammar.specs.declared.record.Record.{Record}
use Rattle.writer.specs.Write.{record_refusal, length_of, write_refusal, write_is, out_is, written_number}
use Rattle.promises.specs.Answers.{Exactly}

abbrev pub number : Record → List ℕ → ℕ
number r out = written_number (write_is r out)

-- the table of refusals, as far as writing goes
pub data Given (r : Record) (out : List ℕ) : ℕ → Type 1 where
  success : Legal pdu r → bytes_for (length_of r) ≤ length out → Given r out 0
  -- 3: a PDU type we don't read
  unread : (kind_refusal r.kind ≡ 0 → ⊥) → Given r out 3
  -- 3: anything that a record must hold as zero and doesn't
  unclean : pdu.clean r ≡ false → Given r out 3
  -- 3, 4 in the same order as reading: an element's value is refused, or wider than its element; or range ends disagree or are reversed
  faulty : (k : ℕ) → kind_refusal r.kind ≡ 0 → pdu.clean r ≡ true → Faults Record pdu r (suc k) → Given r out (suc k)
  -- 8: the result exceeds the lent buffer
  no_room : Legal pdu r → length out < bytes_for (length_of r) → Given r out 8

-- an INTERROGATE for the users 200 to 199
abbrev reversed : Record
reversed = record {
  kind = 11;
  affected = record { code = 9; entries = user 200 ∷ user 199 ∷ replicate 6 zero_identity };
  figures = of_interrogation 1 0 0;
  services = zero_services;
  lists = zero_lists;
}

-- each number is met
met : (number asking (replicate 6 0) ≡ 0) × (number zero_record [] ≡ 3) × (number reversed [] ≡ 4) × (number asking (replicate 5 0) ≡ 8)
unfolding grammar write_is write_refusal record_refusal
met = (refl, refl, refl, refl)

-- Proved in proofs/Demand1/Writing.antt.
pub record Promise : Type 1 where
  pub table : (r : Record) (out : List ℕ) → Exactly (λ k. k) (number r out) (0 ∷ 3 ∷ 4 ∷ 8 ∷ []) (Given r out)
  -- "Success returns the length written; output bytes after those that hold that length stay."
  pub success : (r : Record) (out : List ℕ) → number r out ≡ 0
      → (write_is r out ≡ Ok (record { 0 = length_of r })) × (out_is r out ≡ pack (pdu.print r) ++ drop (bytes_for (length_of r)) out)
  -- "A refusal returns its number only and changes no byte."
  pub refusal : (r : Record) (out : List ℕ) (k : ℕ) → write_is r out ≡ Err k → out_is r out ≡ out
