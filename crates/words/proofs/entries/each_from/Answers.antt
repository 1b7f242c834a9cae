-- Each turn fills one place. Assumes nothing.
use mathlib.Core.Path.{refl}
use native.Mathlib.Omega.{arith}
use Rattle.words.proofs.Filling.{filled_none, filled_more, filled-all}
use Rattle.words.proofs.Putting.{room_more}
use Rattle.words.proofs.entries.each_from.Goals as goal

pub loop-entry-init : goal.loop-entry-init
loop-entry-init g c = (filled_none refl, omega arith)

pub read-requires : goal.read-requires
read-requires g c =
    let l = c.loop-entry in
    let room = room_more c.args.at g.E.Spelt.WIDTH l.entry-index _ _ c.loop-entry-test.true c.requires in
    omega (arith, room, l.invariant.1)

pub overflow_add-from : goal.overflow_add-from
overflow_add-from g c =
    let l = c.loop-entry in
    let room = room_more c.args.at g.E.Spelt.WIDTH l.entry-index _ _ c.loop-entry-test.true c.requires in
    omega (arith, room, l.invariant.1)

pub loop-entry-preserved : goal.loop-entry-preserved
loop-entry-preserved g c =
    let l = c.loop-entry.invariant in
    (filled_more c.loop-entry-test.true l.1 c.read.ensures l.0, omega arith)

pub returns : goal.returns
returns g c = filled-all (omega arith) c.loop-entry.invariant.0
