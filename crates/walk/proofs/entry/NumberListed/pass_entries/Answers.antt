-- Single entries. Assumes nothing.
use mathlib.Core.Path.{sym, ◌∙◌}
use Rattle.walk.specs.Inner.{pass}
use Rattle.walk.proofs.Sights.{numbers-each}
use Rattle.walk.proofs.entry.NumberListed.pass_entries.Goals as goal

pub returns : goal.returns
unfolding pass
returns c = c.pass_each.ensures ∙ sym (numbers-each _ _ _)
