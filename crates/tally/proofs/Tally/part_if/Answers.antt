-- By its own words, or so many that are not carried. Assumes nothing.
use Rattle.tally.proofs.Unused.{skipped}
use Rattle.tally.proofs.Tally.part_if.Goals as goal

pub tally-requires : goal.tally-requires
tally-requires g c = (c.requires.0, rw c.if-carried.true at c.requires.2)

pub returns-then-carried : goal.returns-then-carried
returns-then-carried g c = rw c.if-carried.true c.tally.ensures

pub returns : goal.returns
returns g c = rw c.if-carried.false (skipped (c.requires.1 _ c.requires.0) (rw c.WORDS.ensures at c.unused.ensures))
