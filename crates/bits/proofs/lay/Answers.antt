-- Where eight bytes stand, they are stored anew with the first of them as it was before the place. Assumes nothing.
use mathlib.Core.Path.{◌≡◌, sym, ◌∙◌}
use mathlib.Core.Bool.{true}
use mathlib.Core.List.{◌++◌}
use Prim.Native.Nat.{◌+◌, ◌-◌, ◌/◌, ◌%◌, ◌≤◌}
use native.Mathlib.Omega.{arith}
use lib.ListN.{length}
use Rattle.bits.specs.Bits.{bits_of}
use Rattle.bits.specs.Element.{has_eight}
use Rattle.bits.proofs.Tests.{said-no, said-yes}
use Rattle.bits.proofs.Elements.{room}
use Rattle.bits.proofs.Lays.{eight-room, splice-laid, lay-there, lay-put}
use Rattle.bits.proofs.lay.Goals.{Else-not-has_eight}
use Rattle.bits.proofs.lay.Goals as goal

pub returns-then-not-has_eight : goal.returns-then-not-has_eight
returns-then-not-has_eight c =
    let a = c.args in
    let e = said-no c.has_eight.ensures c.if-not-has_eight.true in
    (c.put.ensures.0, c.put.ensures.1 ∙ sym (lay-put a.buf.now a.at a.width a.element e))

eight : (c : Else-not-has_eight) → let a = c.args in has_eight (length a.buf.now) a.at a.width ≡ true
eight c = said-yes c.has_eight.ensures c.if-not-has_eight.false

inside : (c : Else-not-has_eight) → let a = c.args in (a.width ≤ 57) × (a.at / 8 + 8 ≤ length a.buf.now)
inside c = let a = c.args in eight-room a.buf.now a.at a.width a.element (eight c)

pub laid-requires : goal.laid-requires
laid-requires c = (omega arith, (inside (goal.at.laid-requires c).Else-not-has_eight).0)

pub returns : goal.returns
returns c =
    let a = c.args in
    let s = a.buf.now in
    let new = bits_of a.width a.element ++ bits_of (64 - a.at % 8 - a.width) 0 in (
      sym (room s a.at a.width (inside (goal.at.returns c).Else-not-has_eight).0 (omega (arith, inside (goal.at.returns c).Else-not-has_eight))),
      c.set_eight.ensures
          ∙ splice-laid s a.at a.width a.element c.laid.result new (eight (goal.at.returns c).Else-not-has_eight)
          c.laid.ensures
          ∙ sym (lay-there s a.at a.width a.element (eight (goal.at.returns c).Else-not-has_eight)),
    )

pub bounds-buf-first : goal.bounds-buf-first
bounds-buf-first c =
    omega (arith, inside (goal.at.bounds-buf-first c).Else-not-has_eight)

pub set_eight-requires : goal.set_eight-requires
set_eight-requires c =
    omega (arith, inside (goal.at.set_eight-requires c).Else-not-has_eight)
