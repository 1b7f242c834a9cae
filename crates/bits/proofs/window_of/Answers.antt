-- Beyond the end, among the first of eight bytes, or among the last eight. Assumes nothing.
use mathlib.Core.Path.{◌≡◌, ◌∙◌, ap, sym}
use Prim.Native.Nat.{ℕ, ◌+◌, ◌-◌, ◌*◌, ◌/◌, ◌%◌, ◌^◌}
use native.Mathlib.Omega.{arith}
use Rattle.bits.specs.Element.{window_at}
use Rattle.bits.proofs.Windows.{window-after, window-eight}
use Rattle.bits.proofs.window_of.Goals as goal

pub returns-then-into-gt63 : goal.returns-then-into-gt63
returns-then-into-gt63 c =
    let a = c.args in
    sym (window-after a.s.now a.at (omega (arith, c.min-first.ensures)))

pub returns : goal.returns
returns c =
    let a = c.args in
    let s = a.s.now in
    let first : ℕ = c.min-first.result in
    let into : ℕ = a.at - 8 * first in
    let place : 8 * first + into ≡ a.at = omega (arith, c.min-first.ensures) in
    ap (λ (x : ℕ). x * 2 ^ into % 2 ^ 64 / 2 ^ 7) c.eight.ensures
    ∙ window-eight s first into (omega (arith, c.min-first.ensures)) (omega arith) (λ late. omega (arith, c.min-first.ensures))
    ∙ ap (window_at s) place
