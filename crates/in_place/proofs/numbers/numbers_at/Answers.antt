-- The range type, then as many numbers. Assumes nothing.
use Rattle.in_place.proofs.Lists.{numbers-head, numbers-few, numbers-reads, numbers_seen}
use Rattle.in_place.proofs.numbers.numbers_at.Goals as goal

pub front_at-front-requires : goal.front_at-front-requires
front_at-front-requires c = record { few = c.requires.few; reads = numbers-head _ _ c.requires.reads }

pub among-requires : goal.among-requires
among-requires c =
    let f = c.front_at-front.ensures in
    (numbers-few _ _ c.requires.reads f, record { few = c.requires.few; reads = numbers-reads _ _ c.requires.reads f })

pub returns : goal.returns
returns c = rw c.of_list.ensures (numbers_seen _ _ c.requires.reads c.front_at-front.ensures _ c.among.ensures)
