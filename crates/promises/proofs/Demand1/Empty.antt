-- `empty` keeps its promise. Assumes nothing.
use Rattle.std.specs.Prelude.{Result, Ok, Err}
use mathlib.Core.Path.{◌≡◌, refl, ap}
use mathlib.Core.Bool.{Bool, true, false}
use mathlib.Core.List.{List, [], ◌∷◌}
use Prim.Native.Nat.{ℕ}
use native.Mathlib.Omega.{arith}
use lib.ListN.{length}
use lib.Dec.{ltb, leb}
use borrow.Author.Tests.{ltb-true, ltb-false, leb-true, leb-false, lt-ltb, le-ltb, le-leb, lt-leb}
use Rattle.bits.specs.Bits.{pick}
use Rattle.archive.specs.Model.{header_width, header_bytes, bytes_of}
use Rattle.archive.specs.Refusals.{plain}
use Rattle.archive.specs.Keeping.{stored_refusal, leaves, empty_of, empty_is, empty_out}
use Rattle.promises.specs.Answers.{OneOf}
use Rattle.promises.specs.Demand1.Empty.{number, Given, success, unranged, no_room, Promise}
use Rattle.promises.proofs.Tables.{exactly}
use Rattle.archive.specs.declared.refusal.Refusal.{Refusal}

abbrev answer_by : Bool → Bool → Result ℕ Refusal
answer_by ranged room = pick ranged (pick room (Ok header_width) (Err (plain 8))) (Err (plain 9))

module _ (home room : ℕ) where
  abbrev Both : ℕ → Type 0
  Both k = Given home room k × OneOf (0 ∷ 9 ∷ 8 ∷ []) k

  row : Both (number home room)
  unfolding empty_is
  row = go (ltb home 16777216) refl (leb header_width room) refl
    where
      go : (p : Bool) → ltb home 16777216 ≡ p → (q : Bool) → leb header_width room ≡ q → Both (stored_refusal (answer_by p q)).number
      go true e true f = (success (ltb-true _ _ e) (leb-true _ _ f), refl)
      go true e false f = (no_room (ltb-true _ _ e) (leb-false _ _ f), refl)
      go false e q f = (unranged (ltb-false _ _ e), refl)

  -- the number of an answer
  numbered : {a : Result ℕ Refusal} → empty_is home room ≡ a → number home room ≡ (stored_refusal a).number
  numbered e = ap (λ (x : Result ℕ Refusal). (stored_refusal x).number) e

  back : (k : ℕ) → Given home room k → number home room ≡ k
  unfolding empty_is
  back k (success h l) = numbered {a = Ok header_width} (rw (lt-ltb _ _ h, le-leb _ _ l))
  back k (unranged h) = numbered {a = Err (plain 9)} (rw (le-ltb _ _ h))
  back k (no_room h l) = numbered {a = Err (plain 8)} (rw (lt-ltb _ _ h, lt-leb _ _ l))

  written : (k : ℕ) → Given home room k → k ≡ 0 → empty_is home room ≡ Ok header_width
  unfolding empty_is
  written k (success h l) z = rw (lt-ltb _ _ h, le-leb _ _ l)
  written k (unranged h) z = absurd (omega arith)
  written k (no_room h l) z = absurd (omega arith)

empty-leaves : (home : ℕ) (out : List ℕ) {r : Result ℕ Refusal} → empty_is home (length out) ≡ r → empty_out home out ≡ leaves r (bytes_of (empty_of home)) out
unfolding empty_out
empty-leaves home out e = ap (λ (r : Result ℕ Refusal). leaves r (bytes_of (empty_of home)) out) e

pub promise : Promise
unfolding header_bytes
promise = record {
  table = λ home room. exactly (Given home room) (row home room).0 (row home room).1 (back home room);
  success = λ home out e.
      let x = written home (length out) (number home (length out)) (row home (length out)).0 e in
      (x, empty-leaves home out x);
  refusal = λ home out k e. empty-leaves home out e;
}
