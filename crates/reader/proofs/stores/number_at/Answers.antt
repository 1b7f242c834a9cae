-- The front of a window. Assumes nothing.
use mathlib.Core.Path.{sym, ap, ◌∙◌, subst}
use Prim.Native.Nat.{ℕ, ◌+◌, ◌-◌, ◌/◌, ◌^◌, ◌≤◌, ◌<◌}
use native.Mathlib.Omega.{arith}
use lib.ListN.{length, drop}
use Rattle.bits.specs.Bits.{bits}
use Rattle.bits.proofs.Bytes.{length-bits}
use Rattle.bits.proofs.Numbers.{value-take-fits}
use Rattle.bits.proofs.Windows.{window-front}
use Rattle.codec.specs.Reading.{Found, got}
use Rattle.reader.proofs.Elements.{number-there, number-front}
use Rattle.reader.proofs.stores.number_at.Goals.{Start}
use Rattle.reader.proofs.stores.number_at.Goals as goal

there : (c : Start) → c.args.at + c.args.width ≤ length (bits c.args.s.now)
there c = number-there (bits c.args.s.now) c.args.at c.args.width c.requires.0 c.requires.2.read.same

pub overflow_cast-result : goal.overflow_cast-result
overflow_cast-result c =
    let a = c.args in
    let e = ap (λ (x : ℕ). x / 2 ^ (57 - a.width)) c.window.ensures
    ∙ window-front a.s.now a.at a.width (omega arith) (omega (arith, there (goal.at.overflow_cast-result c).Start, length-bits a.s.now)) in
    record { fits = subst (λ (x : ℕ). x < 2 ^ 32) (sym e) (value-take-fits a.width 32 (drop a.at (bits a.s.now)) (omega arith)) }

pub returns : goal.returns
returns c =
    let a = c.args in
    record {
      same = number-front a.s.now a.at a.width c.requires.0 (omega arith) (there (goal.at.returns c).Start)
          ∙ ap {B = Found ℕ} (λ (x : ℕ). got (x / 2 ^ (57 - a.width)) (a.at + a.width)) (sym c.window.ensures);
    }
