-- Without room nothing is stored; with it, the splice. Assumes nothing.
use mathlib.Core.Path.{◌≡◌, sym, ap, ◌∙◌}
use mathlib.Core.Bool.{true}
use Prim.Native.Nat.{ℕ}
use native.Mathlib.Omega.{arith}
use Rattle.bits.specs.Bits.{bits, bits_of, splice}
use Rattle.bits.specs.Element.{has_room}
use Rattle.bits.proofs.Splices.{splice-nil}
use Rattle.bits.proofs.Elements.{room, no_room-wide, no_room, put-there, put-nothing}
use Rattle.bits.proofs.put.Goals.{Else-buf-at-2}
use Rattle.bits.proofs.put.Goals as goal

pub returns-then-width-gt57 : goal.returns-then-width-gt57
returns-then-width-gt57 c =
    let a = c.args in
    let e = no_room-wide a.buf.now a.at a.width c.if-width-gt57.true in
    (sym e, sym (put-nothing a.buf.now a.at a.width a.element e))

pub returns-then-buf-at : goal.returns-then-buf-at
returns-then-buf-at c =
    let a = c.args in
    let e = no_room a.buf.now a.at a.width (omega arith) (omega arith) in
    (sym e, sym (put-nothing a.buf.now a.at a.width a.element e))

pub returns-then-buf-at-2 : goal.returns-then-buf-at-2
returns-then-buf-at-2 c =
    let a = c.args in
    let e = no_room a.buf.now a.at a.width (omega arith) (omega arith) in
    (sym e, sym (put-nothing a.buf.now a.at a.width a.element e))

there : (c : Else-buf-at-2) → let a = c.args in has_room a.buf.now a.at a.width ≡ true
there c = let a = c.args in room a.buf.now a.at a.width (omega arith) (omega arith)

pub returns-then-width-eq0 : goal.returns-then-width-eq0
unfolding bits_of
returns-then-width-eq0 c =
    let a = c.args in
    let e = there (goal.at.returns-then-width-eq0 c).Else-buf-at-2 in (
      sym e,
      sym (put-there a.buf.now a.at a.width a.element e
          ∙ ap (λ (w : ℕ). splice (bits a.buf.now) a.at (bits_of w a.element)) c.if-width-eq0.true
          ∙ splice-nil (bits a.buf.now) a.at),
    )

pub returns-then-buf-lt8 : goal.returns-then-buf-lt8
returns-then-buf-lt8 c =
    let a = c.args in
    (sym (there (goal.at.returns-then-buf-lt8 c).Else-buf-at-2), c.put_short.ensures ∙ sym (put-there a.buf.now a.at a.width a.element (there (goal.at.returns-then-buf-lt8 c).Else-buf-at-2)))

pub returns : goal.returns
returns c =
    let a = c.args in
    (sym (there (goal.at.returns c).Else-buf-at-2), c.put_within.ensures ∙ sym (put-there a.buf.now a.at a.width a.element (there (goal.at.returns c).Else-buf-at-2)))
