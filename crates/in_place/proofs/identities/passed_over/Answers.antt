-- The range type, then where its entries end. Assumes nothing.
use mathlib.Core.Path.{◌≡◌}
use Prim.Native.Nat.{◌≤◌}
use native.Mathlib.Omega.{arith}
use Rattle.in_place.proofs.Lists.{list-head, few-entries, entries-reads, over}
use Rattle.in_place.proofs.identities.passed_over.Goals as goal

pub front_at-front-requires : goal.front_at-front-requires
front_at-front-requires c = record { few = c.requires.few; reads = list-head _ _ c.requires.reads }

pub among_even-requires : goal.among_even-requires
among_even-requires c =
    let r = c.requires.reads in
    let f = c.front_at-front.ensures in
    let n = c.entries_of.ensures in
    (few-entries _ _ r f n, record { few = c.requires.few; reads = entries-reads _ _ r f n })

pub returns : goal.returns
returns c = rw c.of_list.ensures (over _ _ c.requires.reads c.front_at-front.ensures c.entries_of.ensures c.among_even.ensures)
