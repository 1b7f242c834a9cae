-- What a reader's result says of what is read. Assumes nothing.
use Rattle.std.specs.Prelude.{Result, Ok, Err}
use Rattle.std.specs.Result.{IsErrAnd}
use Rattle.std.proofs.lemmas.Result.{err_from_is_err_and}
use mathlib.Core.Path.{◌≡◌, refl, sym, ap, ◌∙◌}
use mathlib.Core.Bool.{Bool}
use mathlib.Core.List.{List}
use Prim.Native.Nat.{ℕ, zero, suc, ◌^◌, ◌<◌, ◌≤◌}
use native.Mathlib.Nat.{add-zero}
use borrow.Author.Tests.{le-leb}
use Rattle.bits.specs.Frame.{bits_in}
use Rattle.bits.specs.declared.Cursor.{Cursor}
use Rattle.bits.proofs.Tests.{never}
use Rattle.codec.specs.Parts.{number, element}
use Rattle.codec.specs.Reading.{Found, got, refused, and_next, unless_at, read_at, said, reached, element_of, tested_is}
use Rattle.codec.specs.declared.Stop.{Stop}
use Rattle.codec.proofs.Reading.{next-got, read_at-tested}

-- ---- what a reader's result says was found

-- what the exit of a `?` returns
pub exit : {A : Type 0} {r : Result A Stop} {e : Stop} → IsErrAnd r (λ x. x ≡ e) → r ≡ Err e
exit {r = r} h = let p = err_from_is_err_and r h in p.1 ∙ ap Err p.2

module _ {A B : Type 0} where
  -- what follows goes on from there
  pub goes-on : (o : Found A) (k : A → ℕ → Found B) {a : A} {c : Cursor} → Ok (a, c) ≡ said o → and_next o k ≡ k a c.at
  goes-on (got b at) k e = ap {B = Found B} (λ (r : Result (A × Cursor) Stop). next r) (sym e)
    where
      next : Result (A × Cursor) Stop → Found B
      next (Ok p) = k p.0 p.1.at
      next (Err e) = refused e.number e.at
  goes-on (refused n p) k e = never cc

  -- or it is the refusal
  pub ends : (o : Found A) (k : A → ℕ → Found B) {e : Stop} → Err e ≡ said o → and_next o k ≡ refused e.number e.at
  ends (got b at) k h = never cc
  ends (refused n p) k h = ap {B = Found B} (λ (r : Result (A × Cursor) Stop). next r) (sym h)
    where
      next : Result (A × Cursor) Stop → Found B
      next (Ok p) = refused 0 0
      next (Err e) = refused e.number e.at

  -- the same where what follows does not ask for the value
  pub goes-past : (o : Found A) (k : ℕ → Found B) {c : Cursor} → Ok c ≡ reached o → and_next o (λ a p. k p) ≡ k c.at
  goes-past (got b at) k e = ap {B = Found B} (λ (r : Result Cursor Stop). next r) (sym e)
    where
      next : Result Cursor Stop → Found B
      next (Ok c) = k c.at
      next (Err e) = refused e.number e.at
  goes-past (refused n p) k e = never cc

  pub ends-there : (o : Found A) (k : A → ℕ → Found B) {e : Stop} → Err e ≡ reached o → and_next o k ≡ refused e.number e.at
  ends-there (got b at) k h = never cc
  ends-there (refused n p) k h = ap {B = Found B} (λ (r : Result Cursor Stop). next r) (sym h)
    where
      next : Result Cursor Stop → Found B
      next (Ok c) = refused 0 0
      next (Err e) = refused e.number e.at

-- what was read
pub found : {A : Type 0} (o : Found A) {a : A} {c : Cursor} → Ok (a, c) ≡ said o → o ≡ got a c.at
found o e = sym (next-got o) ∙ goes-on o got e

-- without the value
pub reached-said : {A : Type 0} (o : Found A) {a : A} {c : Cursor} → Ok (a, c) ≡ said o → Ok c ≡ reached o
reached-said o e = ap reached (sym (goes-on o got e) ∙ next-got o)

pub reached-ends : {A : Type 0} (o : Found A) {e : Stop} → Err e ≡ said o → Err e ≡ reached o
reached-ends o e = ap reached (sym (ends o got e) ∙ next-got o)

-- an element's test, of what was read
module _ (at : Cursor) (read : ℕ × Cursor) where
  pub tested-some : (k : ℕ) → (k ≡ 0 → ⊥) → Err (record { number = k; at = at.at }) ≡ tested_is (Ok at) (Ok read) k
  unfolding tested_is
  tested-some zero h = absurd (h refl)
  tested-some (suc k) h = refl

  pub tested-at : (k : ℕ) → tested_is (Ok at) (Ok read) k ≡ said (unless_at k at.at (got read.0 read.1.at))
  unfolding tested_is
  tested-at zero = refl
  tested-at (suc k) = refl

  module _ {A : Type 0} (o : Found A) where
    pub passes-test : (k : ℕ) {found : ℕ × Cursor} → Ok found ≡ tested_is (Ok at) (Ok read) k → (unless_at k at.at o ≡ o) × (found ≡ read)
    unfolding tested_is
    passes-test zero e = (refl, cc)
    passes-test (suc k) e = never cc

    pub fails-test : (k : ℕ) {e : Stop} → Err e ≡ tested_is (Ok at) (Ok read) k → unless_at k at.at o ≡ refused e.number e.at
    unfolding tested_is
    fails-test zero h = never cc
    fails-test (suc k) h = ap {B = Found A} (λ (r : Result (ℕ × Cursor) Stop). next r) (sym h)
      where
        next : Result (ℕ × Cursor) Stop → Found A
        next (Ok p) = refused 0 0
        next (Err e) = refused e.number e.at

-- a number's reader reads the codec's
pub number-at : (s : List ℕ) (n w at : ℕ) → 1 ≤ w → w ≤ 32 → element_of s n w at ≡ read_at (number w) (bits_in n s) at
unfolding element_of
number-at s n w at h k = rw (le-leb 1 w h, le-leb w 32 k)

-- an element is a number under its test
pub element-at : (w : ℕ) (refuse : ℕ → ℕ) (s : List Bool) (at : ℕ)
    → read_at (element w refuse) s at ≡ and_next (read_at (number w) s at) (λ v next. unless_at (refuse v) at (got v next))
unfolding element
element-at w refuse s at = read_at-tested (number w) refuse (λ v. 0) s at ∙ rw add-zero

-- a number that is not refused is an element
pub element-got : (w : ℕ) (refuse : ℕ → ℕ) (s : List Bool) (at v at' : ℕ)
    → read_at (number w) s at ≡ got v at' → refuse v ≡ 0
    → read_at (element w refuse) s at ≡ got v at'
unfolding element
element-got w refuse s at v at' e h = read_at-tested (number w) refuse (λ v. 0) s at ∙ rw (e, h)
