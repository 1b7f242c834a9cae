-- The keys' order is that of their ranks; then the room. Assumes nothing.
use mathlib.Core.Path.{◌≡◌, sym, ◌∙◌}
use lib.Dec.{leb}
use borrow.Author.Tests.{leb-true, leb-false, le-ltb, lt-ltb}
use Rattle.archive.specs.Model.{rank_of}
use Rattle.archive.specs.Inner.{may_follow}
use Rattle.archive.proofs.Model.Keys.{le-ranks}
use Rattle.archive.proofs.checking.may_follow.Goals.{After-le}
use Rattle.archive.proofs.checking.may_follow.Goals as goal

-- whether the key's rank is not above the last one's
low : (c : After-le) → c.le.result ≡ leb (rank_of c.args.entry.key) (rank_of c.args.last)
low c = c.le.ensures ∙ le-ranks c.args.entry.key c.args.last c.requires.entry_fits.key c.requires.last_fits

pub returns-then-le : goal.returns-then-le
unfolding may_follow
returns-then-le c = rw (le-ltb _ _ (leb-true _ _ (sym (low (goal.at.returns-then-le c).After-le) ∙ c.if-le.true)))

pub returns : goal.returns
unfolding may_follow
returns c = rw (lt-ltb _ _ (leb-false _ _ (sym (low (goal.at.returns c).After-le) ∙ c.if-le.false)), c.bytes.ensures)
