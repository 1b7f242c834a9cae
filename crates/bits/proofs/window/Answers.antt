-- Zeros after the end change nothing. Assumes nothing.
use mathlib.Core.Path.{◌∙◌, ap}
use mathlib.Core.List.{List}
use Prim.Native.Nat.{ℕ, ◌-◌}
use lib.ListN.{length}
use Rattle.bits.specs.Element.{window_at}
use Rattle.bits.proofs.Windows.{window_padded}
use Rattle.bits.proofs.window.Goals as goal

pub returns-then-s-lt8 : goal.returns-then-s-lt8
returns-then-s-lt8 c =
    let a = c.args in
    c.window_of.ensures
    ∙ ap (λ (s : List ℕ). window_at s a.at) c.padded.ensures
    ∙ window_padded a.s.now a.at (8 - length a.s.now)
