-- Three words stored in three. Assumes nothing.
use mathlib.Core.Path.{◌≡◌, refl}
use mathlib.Core.List.{List, [], ◌∷◌}
use Prim.Native.Nat.{ℕ}
use native.Mathlib.Omega.{arith}
use lib.ListN.{length, set, length-set}
use Rattle.reader.proofs.stores.put_three.Goals as goal

all_three : (l : List ℕ) (a b c : ℕ) → length l ≡ 3 → set (set (set l 0 a) 1 b) 2 c ≡ a ∷ b ∷ c ∷ []
all_three [] a b c e = absurd (omega (arith, e))
all_three (x ∷ []) a b c e = absurd (omega (arith, e))
all_three (x ∷ y ∷ []) a b c e = absurd (omega (arith, e))
all_three (x ∷ y ∷ z ∷ []) a b c e = refl
all_three (x ∷ y ∷ z ∷ w ∷ l) a b c e = absurd (omega (arith, e))

pub returns : goal.returns
returns c = all_three c.args.words.now c.args.first c.args.second c.args.third c.requires

pub bounds-words-0 : goal.bounds-words-0
bounds-words-0 c = omega (arith, c.requires)

pub bounds-words-1 : goal.bounds-words-1
bounds-words-1 c = simp length-set (omega (arith, c.requires))

pub bounds-words-2 : goal.bounds-words-2
bounds-words-2 c = simp length-set (omega (arith, c.requires))
