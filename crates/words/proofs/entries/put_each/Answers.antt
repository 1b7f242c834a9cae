-- Each turn puts one entry. Assumes nothing.
use mathlib.Core.Path.{refl}
use native.Mathlib.Omega.{arith}
use Rattle.words.proofs.Putting.{room_more, turned_none, turned_more, turned-all}
use Rattle.words.proofs.entries.put_each.Goals as goal

pub loop-entry-init : goal.loop-entry-init
loop-entry-init g c = turned_none

pub put-next-requires : goal.put-next-requires
put-next-requires g c =
    let l = c.loop-entry in
    let room = room_more c.args.at g.E.Spelt.WIDTH l.entry-index _ _ c.loop-entry-test.true c.requires in
    omega (arith, room, l.invariant.put.ends)

pub loop-entry-preserved : goal.loop-entry-preserved
loop-entry-preserved g c =
    let put = rw c.entry-item.is at c.put-next.ensures in
    turned_more c.entry-item.result refl (omega arith) c.loop-entry-test.true c.loop-entry.invariant put c.put-next.auto.words

pub returns : goal.returns
returns g c = turned-all refl (omega arith) c.loop-entry.invariant
