-- Words that are looked at first: those of a record, and those of a request. Assumes nothing.
use Rattle.std.specs.Prelude.{None, ℕ, Err}
use mathlib.Core.Path.{◌≡◌, refl, sym}
use mathlib.Core.Bool.{Bool, true, false, ◌&&◌, ◌||◌}
use mathlib.Core.List.{List}
use Prim.Native.Nat.{ℕ}
use native.Mathlib.Omega.{arith}
use borrow.Author.Tests.{eqb-true, eq-eqb}
use lib.ListN.{length}
use lib.Dec.{eqb}
use Rattle.std.proofs.Common.{Err}
use Rattle.bits.specs.Bits.{pick}
use Rattle.bits.proofs.Tests.{differ, both, both⁻¹}
use Rattle.reader.specs.Read.{refusal_of, answer_of, read_is}
use Rattle.reader.specs.Words.{read_words_is}
use Rattle.archive.specs.Refusals.{plain}
use Rattle.words.specs.RecordWords.{word}
use Rattle.words.specs.RequestWords.{are_destination, are_group, are_request, is_request, request_from}
use Rattle.barring.specs.Decide.{decide_is}
use Rattle.boc.specs.Calls.{told_number, decide_answer}
use Rattle.promises.specs.Answers.{OneOf, Exactly}
use Rattle.promises.specs.Calls.{Checked, wrong, right, OfDestination, identity, number, OfGroup, given, not-given, OfRequest}
use Rattle.promises.specs.Demand1.Reading.{told}
use Rattle.promises.proofs.Tables.{exactly}

-- a table of words that are looked at first
pub looked-at {ℓ} : {A : Type 0} {number_of : A → ℕ} {nine inner : A} {Right : Type 0} {Given : A → Type ℓ} {ks ls : List ℕ} (test : Bool)
    → (test ≡ true → Right) → (Right → test ≡ true) → OneOf ls (number_of nine) → (OneOf ks (number_of inner) → OneOf ls (number_of inner))
    → Exactly number_of inner ks Given → Exactly number_of (pick test inner nine) ls (Checked nine Right Given)
looked-at {A = A} {number_of} {nine} {inner} {Right} {Given} {ks} {ls} test they are listed more e = go test they are
  where
    go : (t : Bool) → (t ≡ true → Right) → (Right → t ≡ true) → Exactly number_of (pick t inner nine) ls (Checked nine Right Given)
    go true they are = exactly (Checked nine Right Given) (right inner (they refl) ((e.exactly inner).0 refl)) (more e.listed) back
      where
        back : (a : A) → Checked nine Right Given a → inner ≡ a
        back a (wrong un) = absurd (un (they refl))
        back a (right j r g) = (e.exactly j).1 g
    go false they are = exactly (Checked nine Right Given) (wrong (λ r. differ (sym (are r)))) listed back
      where
        back : (a : A) → Checked nine Right Given a → nine ≡ a
        back a (wrong un) = refl
        back a (right j r g) = differ (sym (are r))

module _ (w : List ℕ) where
  or-true : (p : Bool) {q : Bool} → q ≡ true → p || q ≡ true
  or-true true e = refl
  or-true false e = e

  one_of : (p q : Bool) → p || q ≡ true → {A : Type 0} → (p ≡ true → A) → (q ≡ true → A) → A
  one_of true q e f g = f refl
  one_of false q e f g = g e

  zeros : (i j : ℕ) → eqb (word w i) 0 && eqb (word w j) 0 ≡ true → (word w i ≡ 0) × (word w j ≡ 0)
  zeros i j e = let z = both (eqb (word w i) 0) (eqb (word w j) 0) e in (eqb-true _ 0 z.0, eqb-true _ 0 z.1)

  destination-of : are_destination w ≡ true → OfDestination w
  unfolding are_destination
  destination-of e =
      one_of (eqb (word w 3) 1 && eqb (word w 6) 0) (eqb (word w 3) 2 && (eqb (word w 4) 0 && eqb (word w 5) 0)) e
      (λ p. let k = both (eqb (word w 3) 1) (eqb (word w 6) 0) p in identity (eqb-true _ 1 k.0) (eqb-true _ 0 k.1))
      (λ p. let k = both (eqb (word w 3) 2) (eqb (word w 4) 0 && eqb (word w 5) 0) p in
      let z = zeros 4 5 k.1 in
      number (eqb-true _ 2 k.0) z.0 z.1)

  of-destination : OfDestination w → are_destination w ≡ true
  unfolding are_destination
  of-destination (identity k u) = rw (k, u)
  of-destination (number k n s) = rw (k, n, s)

  group_of : are_group w ≡ true → OfGroup w
  unfolding are_group
  group_of e =
      one_of (eqb (word w 31) 1) (eqb (word w 31) 0 && (eqb (word w 32) 0 && eqb (word w 33) 0)) e (λ p. given (eqb-true _ 1 p))
      (λ p. let k = both (eqb (word w 31) 0) (eqb (word w 32) 0 && eqb (word w 33) 0) p in
      let z = zeros 32 33 k.1 in
      not-given (eqb-true _ 0 k.0) z.0 z.1)

  of-group : OfGroup w → are_group w ≡ true
  unfolding are_group
  of-group (given g) = rw g
  of-group (not-given g n s) = rw (g, n, s)

  pub request-of : is_request w ≡ true → OfRequest w
  unfolding are_request
  request-of e =
      let k = both (eqb (length w) 34) (are_destination w && are_group w) e in
      let d = both (are_destination w) (are_group w) k.1 in
      record { count = eqb-true _ 34 k.0; destination = destination-of d.0; group = group_of d.1 }

  pub of_request : OfRequest w → is_request w ≡ true
  unfolding are_request
  of_request r = both⁻¹ (eq-eqb (length w) 34 r.count) (both⁻¹ (of-destination r.destination) (of-group r.group))

-- what is read goes to a record's words
pub given-record : (s : List ℕ) (n words : ℕ) → (refusal_of (read_words_is s n words)).number ≡ 0
    → (eqb words 520 ≡ true) × ((refusal_of (answer_of (read_is s n))).number ≡ 0)
unfolding read_words_is
given-record s n words = go (eqb words 520) refl
  where
    go : (t : Bool) → eqb words 520 ≡ t → (refusal_of (pick t (answer_of (read_is s n)) (Err (told 9 None)))).number ≡ 0
        → (eqb words 520 ≡ true) × ((refusal_of (answer_of (read_is s n))).number ≡ 0)
    go true f e = (f, e)
    go false f e = absurd (omega (arith, e))

-- what is decided are a request's words
pub asked : (b w : List ℕ) → told_number (decide_answer b w) ≡ 0 → (is_request w ≡ true) × (told_number (decide_is b (request_from w)) ≡ 0)
unfolding decide_answer
asked b w = go (is_request w) refl
  where
    go : (t : Bool) → is_request w ≡ t → told_number (pick t (decide_is b (request_from w)) (Err (plain 9))) ≡ 0
        → (is_request w ≡ true) × (told_number (decide_is b (request_from w)) ≡ 0)
    go true f e = (f, e)
    go false f e = absurd (omega (arith, e))
