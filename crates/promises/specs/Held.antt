-- Which PDUs an archive may hold (otherwise 6), and under which entry, in plain values of document 01, with worked cases.
use Rattle.std.specs.Prelude.{◌≡◌, refl, ◌↔◌, ◌⊎◌, Bool, true, false, ◌&&◌, List, [], ◌∷◌, ℕ, ◌≤◌, ◌<◌, length, take, drop, replicate, leb, eqb, Result, Ok, Err}
use Rattle.std.proofs.Common.{sym, ap, ◌∙◌, inl, inr, arith, leb-true, leb-false, eqb-true, le-leb, lt-ltb, eq-eqb}
use Rattle.bits.specs.Bits.{pick}
use Rattle.bits.proofs.Tests.{false-unless, both, both⁻¹, by-test}
use Rattle.grammar.specs.declared.record.Record.{Record}
use Rattle.reader.specs.Read.{answer_of, found_in, read_is}
use Rattle.judging.specs.Judge.{may_hold}
use Rattle.archive.specs.Model.{length_of, within_limits}
use Rattle.archive.specs.Reading.{is_archive}
use Rattle.archive.specs.Refusals.{plain}
use Rattle.archive.specs.Keeping.{stored_refusal, captured, placed, capture_is, capture_out}
use Rattle.archive.specs.Examples.{calls}
use Rattle.archive.proofs.Model.Checked.{archive_checked}
use Rattle.archive.specs.declared.refusal.Refusal.{Refusal}

-- an INTERROGATE ACK (PDU type 12) that accepts (interrogation result 1 or 2), for one user (affected range type 1)
pub record Holdable (r : Record) : Type 0 where
  pub kind : r.kind ≡ 12
  pub result : (r.figures.result ≡ 1) ⊎ (r.figures.result ≡ 2)
  pub affected : r.affected.code ≡ 1

pub one_or-two : (v : ℕ) → 1 ≤ v → v ≤ 2 → (v ≡ 1) ⊎ (v ≡ 2)
one_or-two v l h = go (leb v 1) refl
  where
    go : (t : Bool) → leb v 1 ≡ t → (v ≡ 1) ⊎ (v ≡ 2)
    go true e = inl (omega (arith, leb-true v 1 e))
    go false e = inr (omega (arith, leb-false v 1 e))

says : (r : Record) → may_hold r ≡ true → Holdable r
says r m =
    let p = both (eqb r.kind 12) (leb 1 r.figures.result && (leb r.figures.result 2 && eqb r.affected.code 1)) m in
    let q = both (leb 1 r.figures.result) (leb r.figures.result 2 && eqb r.affected.code 1) p.1 in
    let t = both (leb r.figures.result 2) (eqb r.affected.code 1) q.1 in
    record { kind = eqb-true _ _ p.0; result = one_or-two r.figures.result (leb-true _ _ q.0) (leb-true _ _ t.0); affected = eqb-true _ _ t.1 }

is : (r : Record) → Holdable r → may_hold r ≡ true
is r h = go h.result
  where
    at : 1 ≤ r.figures.result → r.figures.result ≤ 2 → may_hold r ≡ true
    at l g = both⁻¹ (eq-eqb _ _ h.kind) (both⁻¹ (le-leb _ _ l) (both⁻¹ (le-leb _ _ g) (eq-eqb _ _ h.affected)))

    go : (r.figures.result ≡ 1) ⊎ (r.figures.result ≡ 2) → may_hold r ≡ true
    go (inl e) = at (omega (arith, e)) (omega (arith, e))
    go (inr e) = at (omega (arith, e)) (omega (arith, e))

-- Exactly such a PDU may be held.
pub may_be-held : (r : Record) → (may_hold r ≡ true) ↔ Holdable r
may_be-held r = (says r, is r)

-- Captured into an archive, a legal PDU gives 6 exactly if it is not such a one.
module _ (b s : List ℕ) (n day room : ℕ) (dated : day < 65536) (archive : is_archive b ≡ true) (legal : answer_of (read_is s n) ≡ Ok tt) where
  abbrev fits : Bool
  fits = within_limits (length (captured b s n day).held) (length_of (captured b s n day)) && leb (length_of (captured b s n day)) room

  answer : (t : Bool) → may_hold (found_in (read_is s n)) ≡ t
      → capture_is b s n day room ≡ pick t (pick fits (Ok (length_of (captured b s n day))) (Err (plain 8))) (Err (plain 6))
  unfolding capture_is placed
  answer t e = rw (lt-ltb _ _ dated, archive_checked b archive, legal, e)

  not-6 : may_hold (found_in (read_is s n)) ≡ true → capture_is b s n day room ≡ Err (plain 6) → ⊥
  not-6 m e =
      let refused : Result ℕ Refusal → ℕ = λ a. (stored_refusal a).number in
      by-test (λ (a : Result ℕ Refusal). refused a ≡ 6 → ⊥) fits (λ x. omega (arith, x)) (λ x. omega (arith, x)) (ap refused (sym (answer true m) ∙ e))

  pub gives-6 : (capture_is b s n day room ≡ Err (plain 6)) ↔ (Holdable (found_in (read_is s n)) → ⊥)
  gives-6 = (
    λ e h. not-6 (is (found_in (read_is s n)) h) e,
    λ none. answer false (false-unless _ (λ m. none (says (found_in (read_is s n)) m))),
  )

-- ---- worked cases: PDUs for user 5 that list service 1, captured into the empty archive of home network 1

abbrev nothing : List ℕ
nothing = 0x00 ∷ 0x00 ∷ 0x01 ∷ 0x00 ∷ 0x00 ∷ []

-- the number of the answer to a PDU of n bits, of day 300
abbrev number : List ℕ → ℕ → ℕ
number s n = (stored_refusal (capture_is nothing s n 300 100)).number

-- results 1 and 2, with three empty lists: held
accepting : (number (0x49 ∷ 0x82 ∷ 0x00 ∷ 0x00 ∷ 0x0a ∷ 0x21 ∷ 0x20 ∷ 0x00 ∷ []) 63 ≡ 0)
    × (number (0x49 ∷ 0x82 ∷ 0x00 ∷ 0x00 ∷ 0x0a ∷ 0x41 ∷ 0x20 ∷ 0x00 ∷ []) 63 ≡ 0)
unfolding calls
accepting = (refl, refl)

-- results 0, 3, 4, 6 and 7, each a failed interrogation: 6; 5 is reserved: 3
failed : (number (0x49 ∷ 0x82 ∷ 0x00 ∷ 0x00 ∷ 0x0a ∷ 0x01 ∷ 0x20 ∷ []) 51 ≡ 6)
    × (number (0x49 ∷ 0x82 ∷ 0x00 ∷ 0x00 ∷ 0x0a ∷ 0x61 ∷ 0x20 ∷ []) 51 ≡ 6)
    × (number (0x49 ∷ 0x82 ∷ 0x00 ∷ 0x00 ∷ 0x0a ∷ 0x81 ∷ 0x20 ∷ []) 51 ≡ 6)
    × (number (0x49 ∷ 0x82 ∷ 0x00 ∷ 0x00 ∷ 0x0a ∷ 0xa1 ∷ 0x20 ∷ []) 51 ≡ 3)
    × (number (0x49 ∷ 0x82 ∷ 0x00 ∷ 0x00 ∷ 0x0a ∷ 0xc1 ∷ 0x20 ∷ []) 51 ≡ 6)
    × (number (0x49 ∷ 0x82 ∷ 0x00 ∷ 0x00 ∷ 0x0a ∷ 0xe1 ∷ 0x20 ∷ []) 51 ≡ 6)
unfolding calls
failed = (refl, refl, refl, refl, refl, refl)

-- result 1, and affected code 2 that names user 5 twice, code 9 from user 5 to user 5: 6
one-user-otherwise : (number (0x49 ∷ 0x84 ∷ 0x00 ∷ 0x00 ∷ 0x0a ∷ 0x00 ∷ 0x00 ∷ 0x05 ∷ 0x10 ∷ 0x90 ∷ 0x00 ∷ []) 88 ≡ 6)
    × (number (0x49 ∷ 0x92 ∷ 0x00 ∷ 0x00 ∷ 0x0a ∷ 0x00 ∷ 0x00 ∷ 0x05 ∷ 0x10 ∷ 0x90 ∷ 0x00 ∷ []) 88 ≡ 6)
unfolding calls
one-user-otherwise = (refl, refl)

-- an INTERROGATE: 6
interrogating : number (0x49 ∷ 0x62 ∷ 0x00 ∷ 0x00 ∷ 0x0a ∷ 0x40 ∷ []) 42 ≡ 6
unfolding calls
interrogating = refl

-- a DEFINE, the removal of service 2 with delivery: 6
defining : number (0x48 ∷ 0xa2 ∷ 0x00 ∷ 0x00 ∷ 0x0a ∷ 0xa2 ∷ 0x80 ∷ []) 50 ≡ 6
unfolding calls
defining = refl

-- ---- the entry under which a PDU is filed: eleven bytes, network (3), SSI (3), part (1), bit length (2), day (2)

abbrev filed : List ℕ → ℕ → List ℕ
filed s n = take 11 (drop 5 (capture_out nothing s n 300 (replicate 30 0)))

-- no extension: the home network 1; result 1 is part 1
home-meant : filed (0x49 ∷ 0x82 ∷ 0x00 ∷ 0x00 ∷ 0x0a ∷ 0x21 ∷ 0x20 ∷ 0x00 ∷ []) 63
    ≡ 0x00 ∷ 0x00 ∷ 0x01 ∷ 0x00 ∷ 0x00 ∷ 0x05 ∷ 0x01 ∷ 0x00 ∷ 0x3f ∷ 0x01 ∷ 0x2c ∷ []
unfolding calls
home-meant = refl

-- the extension 1, which spells the home network out: the same user
home-spelt : filed (0x49 ∷ 0x82 ∷ 0x00 ∷ 0x00 ∷ 0x0b ∷ 0x00 ∷ 0x00 ∷ 0x01 ∷ 0x21 ∷ 0x20 ∷ 0x00 ∷ []) 87
    ≡ 0x00 ∷ 0x00 ∷ 0x01 ∷ 0x00 ∷ 0x00 ∷ 0x05 ∷ 0x01 ∷ 0x00 ∷ 0x57 ∷ 0x01 ∷ 0x2c ∷ []
unfolding calls
home-spelt = refl

-- the extension 7: network 7; result 2 is part 2
visiting : filed (0x49 ∷ 0x82 ∷ 0x00 ∷ 0x00 ∷ 0x0b ∷ 0x00 ∷ 0x00 ∷ 0x07 ∷ 0x41 ∷ 0x20 ∷ 0x00 ∷ []) 87
    ≡ 0x00 ∷ 0x00 ∷ 0x07 ∷ 0x00 ∷ 0x00 ∷ 0x05 ∷ 0x02 ∷ 0x00 ∷ 0x57 ∷ 0x01 ∷ 0x2c ∷ []
unfolding calls
visiting = refl
