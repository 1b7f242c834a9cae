-- The range type stands in the window; 0 has no entries. Assumes nothing.
use mathlib.Core.Path.{refl, sym, ap, ◌∙◌}
use Prim.Native.Nat.{ℕ, ◌/◌, ◌^◌}
use native.Mathlib.Omega.{arith}
use Rattle.walk.proofs.Aheads.{off, in-front}
use Rattle.walk.proofs.Sights.{list-ends, empty-list}
use Rattle.walk.proofs.ahead.list_ahead.Goals as goal

pub returns-then-code-eq0 : goal.returns-then-code-eq0
returns-then-code-eq0 g c =
    empty-list g.met.E.Listed.empty (in-front _ _ 4 53 refl (omega arith) (ap (λ (w : ℕ). w / 2 ^ 53) c.window.ensures)) c.if-code-eq0.true (omega arith)

pub returns-then-range_refusal-ne0 : goal.returns-then-range_refusal-ne0
returns-then-range_refusal-ne0 g c = off _ _ _ 32780 (omega arith)

pub returns : goal.returns
returns g c =
    list-ends g.E.Listed.LIST g.E.Listed.entries (in-front _ _ 4 53 refl (omega arith) (ap (λ (w : ℕ). w / 2 ^ 53) c.window.ensures))
    (sym (rw c.LIST.ensures at c.range_refusal.ensures) ∙ c.if-range_refusal-ne0.false) c.entries_end.ensures
