-- The arrays of a record have their lengths: what owning the record tells of it. Assumes nothing.
use mathlib.Core.Path.{◌≡◌}
use mathlib.Core.List.{List, [], ◌∷◌}
use Prim.Native.Nat.{ℕ, zero, suc, ◌<◌}
use native.Mathlib.Nat.{not-suc-le-zero, le_of_suc-le-suc}
use native.Mathlib.Omega.{arith}
use lib.ListN.{length, get_or}
use mir.Val.{Val}
use base.Fml.{Fml}
use denote.Array.{each}
use denote.Shadow.{shadow}
use denote.Laws.{Is}
use denote.Struct.Declared.{row}
use Rattle.grammar.specs.declared.record.Identities.{Identities}
use Rattle.grammar.specs.declared.record.Number.{Number}
use Rattle.grammar.specs.declared.record.Numbers.{Numbers}
use Rattle.grammar.specs.declared.record.Services.{Services}
use Rattle.grammar.specs.contracts.record.Identities as identities
use Rattle.grammar.specs.contracts.record.Number as number
use Rattle.grammar.specs.contracts.record.Numbers as numbers
use Rattle.grammar.specs.contracts.record.Services as services

pub identities-length : (x : Identities) (vs : List Val) → Is (row identities.the_type) x vs → length x.entries ≡ 8
identities-length x vs t = t.1.1.1.0.1.0.1

pub digits-length : (x : Number) (vs : List Val) → Is (row number.the_type) x vs → length x.digits ≡ 24
digits-length x vs t = t.1.1.1.0.1.0.1

pub services-length : (x : Services) (vs : List Val) → Is (row services.the_type) x vs → length x.list ≡ 7
services-length x vs t = t.1.1.1.0.1.0.1

-- what is told of each element is told of the one at i
at : {A : Type 0} (f : A → List Val → Fml) (xs : List A) (us : List Val) (d : A) (i : ℕ) → i < length xs
    → shadow (each A f xs us) → (u : List Val) × shadow (f (get_or xs i d) u)
at f [] us d i h t = absurd (not-suc-le-zero h)
at f (x ∷ xs) [] d i h t = absurd t
at f (x ∷ xs) (u ∷ us) d zero h t = (u ∷ [], t.0)
at f (x ∷ xs) (u ∷ us) d (suc i) h t = at f xs us d i (le_of_suc-le-suc h) t.1

module _ (x : Numbers) (vs : List Val) (t : Is (row numbers.the_type) x vs) where
  pub numbers-length : length x.entries ≡ 8
  numbers-length = t.1.1.1.0.1.0.1

  pub each-digits-length : (d : Number) {i : ℕ} → i < 8 → length (get_or x.entries i d).digits ≡ 24
  each-digits-length d {i} h =
      (at (row number.the_type).own_val x.entries _ d i (omega (arith, numbers-length)) t.1.1.1.0.1.1).1.1.1.1.0.1.0.1
