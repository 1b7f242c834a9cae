-- Writing keeps its promise. Assumes nothing.
use mathlib.Core.Path.{◌≡◌, refl, sym, ap, ◌∙◌, subst}
use mathlib.Core.Bool.{Bool, true, false, ◌&&◌}
use mathlib.Core.List.{List, [], ◌∷◌, ◌++◌}
use Prim.Native.Nat.{ℕ, zero, suc, ◌≤◌}
use native.Mathlib.Omega.{arith}
use lib.ListN.{length, drop}
use lib.Dec.{leb}
use borrow.Author.Tests.{leb-true, leb-false, lt-leb}
use Rattle.std.specs.Prelude.{Ok, Err}
use Rattle.bits.specs.Bits.{pick}
use Rattle.bits.specs.Frame.{bytes_for, pack}
use Rattle.bits.proofs.Tests.{never, differ, false-unless, and-false}
use Rattle.codec.specs.Codec.{Legal, first}
use Rattle.codec.specs.Parts.{is_zero, is-zero}
use Rattle.codec.specs.Faults.{Faults}
use Rattle.codec.proofs.Faulting.{faults-refused, Faulted, Faulting, faulting}
use Rattle.grammar.specs.SiteSheet.{kind_refusal}
use Rattle.grammar.specs.Grammar.{pdu}
use Rattle.grammar.proofs.Parts.{of-pdu}
use Rattle.grammar.specs.declared.record.Record.{Record}
use Rattle.writer.specs.Write.{record_refusal, length_of, write_refusal, written, write_is, out_is, written_number}
use Rattle.pdu.proofs.RoundTrip.{legal_iff, written-legal}
use Rattle.pdu.proofs.Refusals.{ThreeOrFour, three, four, refused-with}
use Rattle.promises.specs.Answers.{OneOf}
use Rattle.promises.specs.Demand1.Writing.{number, Given, success, unread, unclean, faulty, no_room, Promise}
use Rattle.promises.proofs.Tables.{exactly}

module _ (r : Record) (out : List ℕ) where
  abbrev refusal_by : Bool → Bool → ℕ → ℕ
  refusal_by read clean fault = pick (read && clean) fault 3

  abbrev number_by : ℕ → Bool → ℕ
  number_by refusal room = written_number (written (length_of r) (first refusal (pick room 0 8)))

  abbrev Both : ℕ → Type 1
  Both k = Given r out k × OneOf (0 ∷ 3 ∷ 4 ∷ 8 ∷ []) k

  three_or-four : {k : ℕ} → ThreeOrFour (suc k) → OneOf (0 ∷ 3 ∷ 4 ∷ 8 ∷ []) (suc k)
  three_or-four three = refl
  three_or-four four = refl

  at_fault : (k : ℕ) → pdu.clean r ≡ true → pdu.fault r ≡ suc k → Faults Record pdu r (suc k)
  at_fault k clean e = subst (Faulted Record pdu r) e (of-pdu (λ n. Unit {0}) tt tt tt Faulting (faulting (λ n. Unit {0})) r clean)

  row : Both (number r out)
  unfolding write_is write_refusal record_refusal
  row = go (is_zero (kind_refusal r.kind)) refl (pdu.clean r) refl (pdu.fault r) refl (leb (bytes_for (length_of r)) (length out)) refl (refused-with r)
    where
      go : (t : Bool) → is_zero (kind_refusal r.kind) ≡ t → (c : Bool) → pdu.clean r ≡ c → (m : ℕ) → pdu.fault r ≡ m
          → (q : Bool) → leb (bytes_for (length_of r)) (length out) ≡ q → ThreeOrFour (refusal_by t c m) → Both (number_by (refusal_by t c m) q)
      go false t c ec m em q eq h = (unread (λ z. differ (sym (ap is_zero z) ∙ t)), refl)
      go true t false ec m em q eq h = (unclean ec, refl)
      go true t true ec (suc k) em q eq h = (faulty k (is-zero (kind_refusal r.kind) t) ec (at_fault k ec em), three_or-four h)
      go true t true ec zero em true eq h = (success (record { clean = ec; faultless = em }) (leb-true _ _ eq), refl)
      go true t true ec zero em false eq h = (no_room (record { clean = ec; faultless = em }) (leb-false _ _ eq), refl)

  back : (k : ℕ) → Given r out k → number r out ≡ k
  unfolding write_is write_refusal record_refusal
  back k (success l h) = ap written_number (written-legal r out l h).0
  back k (unread f) = rw (false-unless (is_zero (kind_refusal r.kind)) (λ t. f (is-zero _ t)))
  back k (unclean e) = rw (and-false (is_zero (kind_refusal r.kind)) e)
  back k (faulty m z c h) = rw (z, c, faults-refused h)
  back k (no_room l h) = rw ((legal_iff r).1 l, lt-leb _ _ h)

  -- what is written is legal, and has room
  pub accepted : (k : ℕ) → Given r out k → k ≡ 0 → Legal pdu r × (bytes_for (length_of r) ≤ length out)
  accepted k (success l h) z = (l, h)
  accepted k (unread f) z = absurd (omega arith)
  accepted k (unclean e) z = absurd (omega arith)
  accepted k (faulty m y c h) z = absurd (omega arith)
  accepted k (no_room l h) z = absurd (omega arith)

  succeeds : number r out ≡ 0
      → (write_is r out ≡ Ok (record { 0 = length_of r })) × (out_is r out ≡ pack (pdu.print r) ++ drop (bytes_for (length_of r)) out)
  succeeds e = let a = accepted (number r out) row.0 e in written-legal r out a.0 a.1

  leaves : (k : ℕ) → write_is r out ≡ Err k → out_is r out ≡ out
  unfolding write_is out_is
  leaves k = go (write_refusal r (length out))
    where
      go : (w : ℕ) → written (length_of r) w ≡ Err k → pick (is_zero w) (pack (pdu.print r) ++ drop (bytes_for (length_of r)) out) out ≡ out
      go zero e = never cc
      go (suc w) e = refl

pub promise : Promise
promise = record {
  table = λ r out. exactly (Given r out) (row r out).0 (row r out).1 (back r out);
  success = succeeds;
  refusal = leaves;
}
