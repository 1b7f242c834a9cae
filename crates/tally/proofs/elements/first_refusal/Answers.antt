-- By whether the first is 0. Assumes nothing.
use mathlib.Core.Path.{◌≡◌, refl}
use Prim.Native.Nat.{ℕ, zero, suc}
use Rattle.codec.specs.Codec.{first}
use Rattle.tally.proofs.elements.first_refusal.Goals as goal

some : (a b : ℕ) → (a ≡ 0 → ⊥) → a ≡ first a b
some zero b h = absurd (h refl)
some (suc a) b h = refl

pub returns-else-a-eq0 : goal.returns-else-a-eq0
returns-else-a-eq0 c = some c.args.a c.args.b c.if-a-eq0.false
