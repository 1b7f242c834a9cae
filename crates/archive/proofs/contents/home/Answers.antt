-- The number of the first three bytes, where there is a header. Assumes nothing.
use mathlib.Core.Path.{◌∙◌}
use borrow.Author.Tests.{le-leb, lt-leb}
use lib.ListN.{length}
use Rattle.archive.specs.Reading.{home_of}
use Rattle.archive.proofs.contents.home.Goals as goal

pub returns-then-archive-lt-HEADER : goal.returns-then-archive-lt-HEADER
unfolding home_of
returns-then-archive-lt-HEADER c = rw (lt-leb 5 (length c.args.archive.now) c.if-archive-lt-HEADER.true)

pub returns : goal.returns
unfolding home_of
returns c = c.three.ensures.0 ∙ rw (le-leb _ _ c.if-archive-lt-HEADER.false)
