-- How a call is shown to keep its table. Assumes nothing.
use mathlib.Core.Path.{◌≡◌, refl, sym, subst}
use mathlib.Core.Bool.{Bool, true, false, ◌||◌}
use mathlib.Core.List.{List, [], ◌∷◌, ◌++◌}
use Prim.Native.Nat.{ℕ}
use lib.Dec.{eqb}
use Rattle.bits.proofs.Tests.{differ}
use Rattle.promises.specs.Answers.{is_one_of, OneOf, Exactly}

-- its answer is in the table and in the list, and whatever is in the table is its answer
pub exactly {ℓ} : {A : Type 0} {number : A → ℕ} {answer : A} {numbers : List ℕ} (Given : A → Type ℓ) → Given answer → OneOf numbers (number answer)
    → ((a : A) → Given a → answer ≡ a) → Exactly number answer numbers Given
exactly Given row listed back = record { listed = listed; exactly = λ a. (λ e. subst Given e row, back a) }

-- one of a list is one of a longer list
pub wider : (ks ls : List ℕ) (n : ℕ) → OneOf ks n → OneOf (ks ++ ls) n
wider [] ls n h = differ (sym h)
wider (k ∷ ks) ls n h = go (eqb n k) h (wider ks ls n)
  where
    go : (t : Bool) → t || is_one_of ks n ≡ true → (OneOf ks n → OneOf (ks ++ ls) n) → t || is_one_of (ks ++ ls) n ≡ true
    go true e more = refl
    go false e more = more e
