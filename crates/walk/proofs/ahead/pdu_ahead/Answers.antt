-- SS type, PDU type, and what follows them. Assumes nothing.
use mathlib.Core.Path.{refl, sym, ap, ◌∙◌}
use Prim.Native.Nat.{ℕ, ◌/◌, ◌%◌, ◌^◌}
use Rattle.grammar.specs.SiteSheet.{pdu_type}
use Rattle.walk.proofs.Aheads.{found-off}
use Rattle.walk.proofs.Following.{pdu_finds}
use Rattle.walk.proofs.ahead.pdu_ahead.Goals as goal

pub returns-then-first-ne-SS_TYPE : goal.returns-then-first-ne-SS_TYPE
returns-then-first-ne-SS_TYPE c = rw c.beyond.ensures (found-off _ _ 0 0)

pub returns-then-code-eq12 : goal.returns-then-code-eq12
unfolding pdu_type
returns-then-code-eq12 c = let w = c.window-first.ensures in
    pdu_finds {code = 12} (ap (λ (x : ℕ). x / 2 ^ 51) (sym w) ∙ c.if-first-ne-SS_TYPE.false) (sym c.if-code-eq12.true ∙ ap (λ (x : ℕ). x / 2 ^ 46 % 32) w) refl
    c.behind_type.ensures

pub returns-then-kind_refusal-ne0 : goal.returns-then-kind_refusal-ne0
returns-then-kind_refusal-ne0 c = rw c.beyond-then-kind_refusal-ne0.ensures (found-off _ _ 0 0)

pub returns : goal.returns
returns c = let w = c.window-first.ensures in
    pdu_finds (ap (λ (x : ℕ). x / 2 ^ 51) (sym w) ∙ c.if-first-ne-SS_TYPE.false) (ap (λ (x : ℕ). x / 2 ^ 46 % 32) w)
    (sym c.kind_refusal.ensures ∙ c.if-kind_refusal-ne0.false) (rw c.pdu_type.ensures at c.behind_type-2.ensures)
