-- The length and up to 13 digits stand in one window, the others in the next. Assumes nothing.
use mathlib.Core.Path.{◌≡◌, sym, ap, ◌∙◌}
use Prim.Native.Nat.{ℕ, ◌-◌, ◌/◌, ◌%◌, ◌^◌, ◌≤◌}
use native.Mathlib.Omega.{arith}
use Rattle.bits.proofs.Tests.{said-yes}
use Rattle.grammar.specs.SiteSheet.{all_digits, length_refusal}
use Rattle.walk.proofs.Aheads.{off}
use Rattle.walk.proofs.Sights.{within, external-few, external-many}
use Rattle.walk.proofs.entry.NumberEntry.end.Goals.{Else-between_refusal-ne0}
use Rattle.walk.proofs.entry.NumberEntry.end.Goals as goal

counted : (c : Else-between_refusal-ne0) → length_refusal (c.window-window.result / 2 ^ 52) ≡ 0
counted c = sym c.between_refusal.ensures ∙ c.if-between_refusal-ne0.false

few : (c : Else-between_refusal-ne0) → c.window-window.result / 2 ^ 52 ≤ 24
few c = (within 24 (c.window-window.result / 2 ^ 52) (counted c)).1

pub returns-then-are_digits : goal.returns-then-are_digits
returns-then-are_digits c =
    external-few (ap (λ (x : ℕ). x / 2 ^ 52) c.window-window.ensures) (counted (goal.at.returns-then-are_digits c).Else-between_refusal-ne0) c.bits-size.ensures (omega (arith, c.if-count-le13.true))
    (ap (λ (x : ℕ). all_digits 16 (x % 2 ^ 52 / 2 ^ (52 - c.bits-size.result.0))) (sym c.window-window.ensures) ∙ sym c.are_digits.ensures
    ∙ c.if-are_digits.true)

pub returns-then-are_digits-2 : goal.returns-then-are_digits-2
returns-then-are_digits-2 c =
    external-many (ap (λ (x : ℕ). x / 2 ^ 52) c.window-window.ensures) (counted (goal.at.returns-then-are_digits-2 c).Else-between_refusal-ne0) c.bits-size.ensures (omega (arith, c.if-count-le13.false))
    (ap (λ (x : ℕ). all_digits 16 (x % 2 ^ 52)) (sym c.window-window.ensures) ∙ said-yes c.are_digits-2.ensures c.if-not-are_digits.false)
    (ap (λ (x : ℕ). all_digits 16 (x / 2 ^ (109 - c.bits-size.result.0))) (sym c.window.ensures) ∙ sym c.are_digits-3.ensures ∙ c.if-are_digits-2.true)

pub returns-then-between_refusal-ne0 : goal.returns-then-between_refusal-ne0
returns-then-between_refusal-ne0 c =
    off _ _ _ 4097 (omega arith)

pub overflow_cast-count-3 : goal.overflow_cast-count-3
overflow_cast-count-3 c =
    record { fits = omega (arith, few c) }

pub returns-then-count-le13 : goal.returns-then-count-le13
returns-then-count-le13 c =
    off _ _ _ 4097 (omega arith)

pub returns-then-not-are_digits : goal.returns-then-not-are_digits
returns-then-not-are_digits c =
    off _ _ _ 4097 (omega arith)

pub overflow_sub-size-2 : goal.overflow_sub-size-2
overflow_sub-size-2 c =
    omega (arith, few (goal.at.overflow_sub-size-2 c).Else-between_refusal-ne0, c.bits-size.ensures)

pub returns : goal.returns
returns c =
    off _ _ _ 4097 (omega arith)
