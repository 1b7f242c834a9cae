-- A number is below a power of two exactly if nothing is left of it when it is shifted so far. Assumes nothing.
use mathlib.Core.Path.{◌≡◌, sym}
use Prim.Native.Nat.{ℕ, ◌/◌, ◌^◌}
use native.Mathlib.Nat.{div-eq_of_lt}
use borrow.Author.Tests.{ltb-true}
use lib.Dec.{ltb}
use Rattle.bits.proofs.Tests.{false-unless}
use Rattle.codec.specs.Parts.{number_fault}
use Rattle.tally.proofs.Parts.{in_width}
use Rattle.tally.proofs.elements.width_refusal.Goals as goal

wide : (w v : ℕ) → (v / 2 ^ w ≡ 0 → ⊥) → 3 ≡ number_fault w v
wide w v h = rw (false-unless (ltb v (2 ^ w)) (λ e. h (div-eq_of_lt (ltb-true v (2 ^ w) e))))

pub returns-then-value-width-eq0 : goal.returns-then-value-width-eq0
returns-then-value-width-eq0 c = sym (in_width c.args.width c.args.value c.if-value-width-eq0.true)

pub returns-else-value-width-eq0 : goal.returns-else-value-width-eq0
returns-else-value-width-eq0 c = wide c.args.width c.args.value c.if-value-width-eq0.false
