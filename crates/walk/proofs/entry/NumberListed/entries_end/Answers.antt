-- Single entries. Assumes nothing.
use native.Mathlib.Omega.{arith}
use Rattle.walk.proofs.Sights.{single-code, numbers_end}
use Rattle.walk.proofs.entry.NumberListed.entries_end.Goals as goal

pub numbers_end-requires : goal.numbers_end-requires
numbers_end-requires c = (omega arith, single-code _ c.requires.1)

pub returns : goal.returns
returns c = numbers_end _ c.requires.1 c.numbers_end.ensures
