-- Each way out is take_at's own case: no such width, too few bits of the PDU, too few bytes, or the number of the bits there. Assumes nothing.
use Rattle.std.specs.Prelude.{Some}
use mathlib.Core.Path.{◌≡◌, sym, ◌∙◌, ap, subst}
use Prim.Native.Nat.{ℕ, ◌+◌, ◌-◌, ◌/◌, ◌^◌, ◌<◌}
use native.Mathlib.Omega.{arith}
use lib.ListN.{take, drop, length-take}
use Rattle.bits.specs.Bits.{bits, value}
use Rattle.bits.specs.Element.{taken_at}
use Rattle.bits.proofs.Bytes.{length-bits}
use Rattle.bits.proofs.Numbers.{value-take-fits}
use Rattle.bits.proofs.Windows.{window-front}
use Rattle.bits.proofs.Elements.{take_none, take-wide, take_short, take-there}
use Rattle.bits.proofs.Cursor.take.Goals.{After-window}
use Rattle.bits.proofs.Cursor.take.Goals as goal

pub returns-then-width-eq0 : goal.returns-then-width-eq0
returns-then-width-eq0 c =
    let a = c.args in
    sym (ap (taken_at a.s.now a.n.0 a.self.at) c.if-width-eq0.true ∙ take_none a.s.now a.n.0 a.self.at)

pub returns-then-width-gt32 : goal.returns-then-width-gt32
returns-then-width-gt32 c = let a = c.args in sym (take-wide a.s.now a.n.0 a.self.at a.width (omega arith))

pub returns-then-end-at : goal.returns-then-end-at
returns-then-end-at c =
    let a = c.args in
    sym (take_short a.s.now a.n.0 a.self.at a.width
    (omega (arith, length-take a.n.0 (bits a.s.now))))

pub returns-then-end-at-2 : goal.returns-then-end-at-2
returns-then-end-at-2 c =
    let a = c.args in
    sym (take_short a.s.now a.n.0 a.self.at a.width
    (omega (arith, length-take a.n.0 (bits a.s.now))))

pub returns-then-s-bytes : goal.returns-then-s-bytes
returns-then-s-bytes c =
    let a = c.args in
    sym (take_short a.s.now a.n.0 a.self.at a.width
    (omega (arith, length-take a.n.0 (bits a.s.now), length-bits a.s.now, c.bytes.ensures)))

there : (c : After-window) → let a = c.args in
    c.window.result / 2 ^ (57 - a.width) ≡ value (take a.width (drop a.self.at (bits a.s.now)))
there c =
    let a = c.args in
    ap (λ (x : ℕ). x / 2 ^ (57 - a.width)) c.window.ensures
    ∙ window-front a.s.now a.self.at a.width (omega arith) (omega (arith, c.bytes.ensures))

pub overflow_cast-result : goal.overflow_cast-result
overflow_cast-result c =
    let a = c.args in
    record { fits = subst (λ (x : ℕ). x < 2 ^ 32) (sym (there c)) (value-take-fits a.width 32 (drop a.self.at (bits a.s.now)) (omega arith)) }

pub returns : goal.returns
returns c =
    let a = c.args in
    ap (λ (v : ℕ). Some (v, record { at = a.self.at + a.width })) (there c)
    ∙ sym (take-there a.s.now a.n.0 a.self.at a.width
    (omega arith) (omega arith) (omega arith) (omega (arith, c.bytes.ensures)))
