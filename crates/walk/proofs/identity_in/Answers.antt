-- Its present bit says whether there is an extension. Assumes nothing.
use mathlib.Core.Path.{◌≡◌}
use Prim.Native.Nat.{◌/◌, ◌%◌, ◌^◌}
use native.Mathlib.Omega.{arith}
use Rattle.walk.specs.Inner.{identity_in}
use Rattle.walk.proofs.identity_in.Goals as goal

pub returns-then-window-eq1 : goal.returns-then-window-eq1
unfolding identity_in
returns-then-window-eq1 c =
    let one : c.args.window / 2 ^ 32 % 2 ≡ 1 = c.if-window-eq1.true in
    rw one

pub returns : goal.returns
unfolding identity_in
returns c =
    let none : c.args.window / 2 ^ 32 % 2 ≡ 0 = omega (arith, c.if-window-eq1.false) in
    rw none
