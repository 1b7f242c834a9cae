-- Four, four and four. Assumes nothing.
use native.Mathlib.Omega.{arith}
use Rattle.tally.proofs.Words.{rest-of}
use Rattle.writer.proofs.Codes.{twelve-codes}
use Rattle.writer.proofs.numbers.with_twelve.Goals as goal

pub returns : goal.returns
returns c =
    let a = c.args in
    let middle = rw rest-of at c.with_four-middle.ensures in
    let low = rw rest-of at c.with_four-low.ensures in
    twelve-codes a.words.now a.start _ _ _ c.with_four-high.ensures.1 middle.1 (omega (arith, middle.0)) low.1 (omega (arith, low.0))
