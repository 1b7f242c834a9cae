-- The range type, then what its entries say. Assumes nothing.
use mathlib.Core.Path.{◌≡◌}
use Prim.Native.Nat.{◌≤◌}
use native.Mathlib.Omega.{arith}
use Rattle.in_place.proofs.Lists.{list-head, code-legal, range-reads, singles-reads, range_seen, singles_seen}
use Rattle.in_place.proofs.identities.identities_at.Goals as goal

pub front_at-front-requires : goal.front_at-front-requires
front_at-front-requires c = record { few = c.requires.few; reads = list-head _ _ c.requires.reads }

pub range_at-requires : goal.range_at-requires
range_at-requires c =
    record { few = c.requires.few; reads = range-reads _ _ c.requires.reads c.front_at-front.ensures c.if-code-eq9.true }

pub returns-then-code-eq9 : goal.returns-then-code-eq9
returns-then-code-eq9 c =
    rw c.of_list.ensures (range_seen _ _ c.requires.reads c.front_at-front.ensures _ _ c.if-code-eq9.true c.range_at.ensures)

pub among_even-requires : goal.among_even-requires
among_even-requires c =
    let few : c.front_at-front.result.code ≤ 8 = omega (arith, code-legal _ _ c.requires.reads c.front_at-front.ensures, c.if-code-eq9.false) in
    (few, record { few = c.requires.few; reads = singles-reads _ _ c.requires.reads c.front_at-front.ensures few })

pub returns : goal.returns
returns c =
    let few : c.front_at-front.result.code ≤ 8 = omega (arith, code-legal _ _ c.requires.reads c.front_at-front.ensures, c.if-code-eq9.false) in
    rw c.of_list-2.ensures (singles_seen _ _ c.requires.reads c.front_at-front.ensures _ _ few c.among_even.ensures)
