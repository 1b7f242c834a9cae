-- The sixteen rows are the rule's values at 0 to 15, which antt computes in one test. Assumes nothing.
use native.Mathlib.Omega.{arith}
use borrow.Author.Tests.{lt-leb, ne_eqb}
use Rattle.bits.proofs.Table.{at}
use Rattle.grammar.specs.SiteSheet.{range_type, row_of}
use Rattle.grammar.proofs.site.row_of.Goals as goal

pub returns-then-code-ge16 : goal.returns-then-code-ge16
unfolding row_of range_type
returns-then-code-ge16 c =
    let code = c.args.code in
    rw (ne_eqb code 0 (omega arith), lt-leb code 8 (omega arith), ne_eqb code 9 (omega arith))

pub returns : goal.returns
unfolding row_of range_type
returns c = at row_of _ 16 c.args.code (omega arith)
