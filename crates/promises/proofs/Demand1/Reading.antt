-- Reading keeps its promise. Assumes nothing.
use Rattle.std.specs.Prelude.{Some, None, ℕ, Result, Ok, Err}
use mathlib.Core.Path.{◌≡◌, refl, sym, ap, ◌∙◌, subst}
use mathlib.Core.Bool.{Bool, true, false}
use mathlib.Core.List.{List, [], ◌∷◌, append-nil}
use Prim.Native.Nat.{ℕ}
use lib.ListN.{length}
use native.Mathlib.Nat.{zero-add}
use native.Mathlib.Omega.{arith}
use Rattle.bits.specs.Bits.{pick}
use Rattle.bits.specs.Frame.{bits_in, framed, Framed}
use Rattle.bits.proofs.Frames.{framed-says, framed_is}
use Rattle.bits.proofs.Tests.{differ, false-unless}
use Rattle.codec.specs.Codec.{Outcome, ok, no, and_then, Faithful, Legal}
use Rattle.codec.specs.Places.{is_nil}
use Rattle.codec.specs.Whole.{whole_parse}
use Rattle.codec.specs.Stops.{Stops}
use Rattle.codec.proofs.Whole.{whole-reads}
use Rattle.codec.proofs.Stopping.{stops-refused, ReadingCode, two, of_test, Stopped, Stopping, stopping}
use Rattle.grammar.specs.Grammar.{pdu}
use Rattle.grammar.proofs.Parts.{of-pdu}
use Rattle.grammar.specs.declared.record.Record.{Record}
use Rattle.walk.specs.declared.Refusal.{Refusal}
use Rattle.reader.specs.Read.{refusal_of, answer_of, found_in, refusing, answered, read_is}
use Rattle.reader.proofs.Walked.{only_refused}
use Rattle.pdu.specs.Accepted.{accepted_as}
use Rattle.promises.specs.Answers.{OneOf}
use Rattle.promises.specs.Demand1.Reading.{told, answer, Given, accepted, unframed, stopped, left_over, numbers, Promise}
use Rattle.promises.proofs.Tables.{exactly}

-- what a test of the grammar answers
data Code : ℕ → Type 0 where
  passed : Code 0
  three : Code 3
  four : Code 4

-- what is answered to what was read from the first bit on
abbrev answer_to : Outcome Record → Result Record Refusal
answer_to o = answered (and_then o (λ a at r. pick (is_nil r) (ok a at r) (no 5 at)))

abbrev answer_in : Result Record Refusal → Refusal
answer_in x = refusal_of (answer_of x)

module _ (s : List ℕ) (n : ℕ) where
  abbrev Both : Refusal → Type 1
  Both f = Given s n f × OneOf numbers f.number

  at_fault : (k p : ℕ) → Framed s n → Stops Record pdu (bits_in n s) k p → ReadingCode Code k → Both (told k (Some p))
  at_fault k p f h two = (stopped 1 p f h, refl)
  at_fault k p f h (of_test three) = (stopped 2 p f h, refl)
  at_fault k p f h (of_test four) = (stopped 3 p f h, refl)

  from_first : Framed s n → (o : Outcome Record) → Faithful pdu.clean pdu.fault pdu.print 0 (bits_in n s) o
      → Stopped Code Record pdu 0 (bits_in n s) o → Both (answer_in (answer_to o))
  from_first f (ok a at []) h x = (accepted a f (record { clean = h.0; faultless = h.1 }) (h.2 ∙ append-nil (pdu.print a)), refl)
  from_first f (ok a at (b ∷ r)) h x =
      let end : length (pdu.print a) ≡ at = omega (arith, h.3) in
      subst (λ (p : ℕ). Both (told 5 (Some p))) end (left_over a b r f (record { clean = h.0; faultless = h.1 }) h.2, refl)
  from_first f (no k p) h x =
      let here : x.before ≡ p = omega (arith, x.place) in
      subst (λ (q : ℕ). Both (told k (Some q))) here (at_fault k x.before f x.stops x.code)

  row : Both (answer s n)
  unfolding read_is
  row = go (framed s n) refl
    where
      go : (t : Bool) → framed s n ≡ t → Both (answer_in (pick t (answered (whole_parse pdu (bits_in n s))) (refusing 1 None)))
      go true e =
          from_first (framed-says s n e) (pdu.parse 0 (bits_in n s)) (pdu.sound 0 (bits_in n s))
          (of-pdu Code passed three four (Stopping Code) (stopping Code) 0 (bits_in n s))
      go false e = (unframed (λ f. differ (sym (framed_is s n f) ∙ e)), refl)

  whole : Framed s n → read_is s n ≡ answer_to (pdu.parse 0 (bits_in n s))
  unfolding read_is
  whole f = rw (framed_is s n f)

  not-framed : (Framed s n → ⊥) → answer s n ≡ told 1 None
  unfolding read_is
  not-framed f = rw (false-unless (framed s n) (λ t. f (framed-says s n t)))

  back : (k : Refusal) → Given s n k → answer s n ≡ k
  back k (accepted r f l e) = ap answer_in (whole f) ∙ rw (e, whole-reads pdu r l)
  back k (unframed f) = not-framed f
  back k (stopped m p f h) = ap answer_in (whole f) ∙ rw (stops-refused h 0, zero-add p)
  back k (left_over r b more f l e) = ap answer_in (whole f) ∙ rw (e, pdu.reads r l.clean l.faultless 0 (b ∷ more), zero-add (length (pdu.print r)))

  succeeds : (k : Refusal) → Given s n k → k.number ≡ 0
      → (answer_of (read_is s n) ≡ Ok tt) × Legal pdu (found_in (read_is s n)) × (bits_in n s ≡ pdu.print (found_in (read_is s n)))
  succeeds k (accepted r f l e) z =
      let x : read_is s n ≡ accepted_as r = whole f ∙ rw (e, whole-reads pdu r l) in
      rw x (refl, l, e)
  succeeds k (unframed f) z = absurd (omega arith)
  succeeds k (stopped m p f h) z = absurd (omega arith)
  succeeds k (left_over r b more f l e) z = absurd (omega arith)

  refused : (f : Refusal) → answer_of (read_is s n) ≡ Err f → read_is s n ≡ refusing f.number f.place
  refused f e = only_refused (read_is s n) e

pub promise : Promise
promise = record {
  table = λ s n. exactly (Given s n) (row s n).0 (row s n).1 (back s n);
  success = λ s n e. succeeds s n (answer s n) (row s n).0 e;
  refusal = refused;
}
