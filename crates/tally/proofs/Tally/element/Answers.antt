-- Its width's refusal, then its own, after those before it. Assumes nothing.
use mathlib.Core.Path.{ap, ◌∙◌}
use Prim.Native.Nat.{ℕ}
use Rattle.codec.specs.Codec.{first}
use Rattle.tally.proofs.Parts.{element-is}
use Rattle.tally.proofs.Tally.element.Goals as goal

pub returns : goal.returns
returns c =
    let a = c.args in
    element-is a.self a.value a.width a.refusal
    (c.first_refusal-own.ensures ∙ ap (λ (n : ℕ). first n a.refusal) c.width_refusal.ensures)
    c.first_refusal.ensures
