-- The digits of five numbers, and the words. Assumes nothing.
use native.Mathlib.Omega.{arith}
use Rattle.archive.proofs.Text.Lines.{length-line}
use Rattle.archive.proofs.listing.line_length.Goals as goal

pub returns : goal.returns
returns c =
    let l = length-line c.args.entry in
    (omega arith, omega arith)
