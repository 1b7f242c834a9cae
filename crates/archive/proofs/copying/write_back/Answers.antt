-- Three parts, one after the other: what is copied of the old archive lies within it. Assumes nothing.
use mathlib.Core.Path.{◌≡◌}
use Prim.Native.Nat.{◌-◌}
use native.Mathlib.Omega.{arith}
use lib.ListN.{length, take, drop}
use Rattle.bits.proofs.Lists.{length_part}
use Rattle.bits.specs.Inner.{Laid}
use Rattle.bits.proofs.Laying.{then}
use Rattle.archive.specs.Inner.{next_at, back_of}
use Rattle.archive.proofs.copying.write_back.Goals.{After-next-next, After-append-body_at, After-append-rest_at}
use Rattle.archive.proofs.copying.write_back.Goals as goal

-- the length of the first part
middle : (c : After-next-next)
    → length (take (c.args.place.off - c.next-next.result)
    (drop c.next-next.result c.args.archive.now))
    ≡ c.args.place.off - next_at c.args.place
middle c =
    let a = c.args in
    rw c.next-next.ensures (length_part a.archive.now (next_at a.place) (a.place.off - next_at a.place) (omega arith))

-- the first part is laid, then the body
middle_laid : (c : After-append-body_at)
    → Laid c.args.out.now c.args.at (take (c.args.place.off - c.next-next.result) (drop c.next-next.result c.args.archive.now))
    c.append-body_at.new.out c.append-body_at.result
middle_laid c = c.append-body_at.ensures.laid (omega (arith, middle (goal.at.After-append-body_at c).After-next-next, c.requires.1))

body_laid : (c : After-append-rest_at)
    → Laid c.append-body_at.new.out c.append-body_at.result c.args.body.now c.append-rest_at.new.out c.append-rest_at.result
body_laid c =
    let m = middle_laid (goal.at.After-append-rest_at c).After-append-body_at in
    c.append-rest_at.ensures.laid
    (omega (arith, middle (goal.at.After-append-rest_at c).After-next-next, m.ends, c.append-body_at.auto.out, c.requires.1))

pub returns : goal.returns
unfolding back_of
returns c =
    let first = middle_laid (goal.at.returns c).After-append-body_at in
    let second = body_laid (goal.at.returns c).After-append-rest_at in
    let l = length_part c.args.archive.now c.rest-rest.result (length c.args.archive.now - c.rest-rest.result)
    (omega (arith, c.rest-rest.ensures, c.requires.0.bodies)) in
    let third = c.append.ensures.laid
    (omega (
      arith,
      l,
      middle (goal.at.returns c).After-next-next,
      first.ends,
      c.append-body_at.auto.out,
      second.ends,
      c.append-rest_at.auto.out,
      c.requires.1,
      c.rest-rest.ensures,
    ))
    in
    rw (c.next-next.ensures, c.rest-rest.ensures) at (then (omega arith) (then (omega arith) first second) third)
