-- A range, or single entries. Assumes nothing.
use mathlib.Core.Path.{sym, ◌∙◌}
use Rattle.grammar.specs.SiteSheet.{row_of, range_type}
use Rattle.walk.specs.Inner.{pass, coded, range}
use Rattle.walk.proofs.Sights.{coded-single}
use Rattle.walk.proofs.entry.IdentityListed.pass_entries.Goals as goal

pub returns-then-code-eq9 : goal.returns-then-code-eq9
unfolding coded range row_of range_type
returns-then-code-eq9 c = rw c.if-code-eq9.true c.pass_range.ensures

pub returns : goal.returns
unfolding pass
returns c = c.pass_each.ensures ∙ sym (coded-single _ _ _ c.if-code-eq9.false)
