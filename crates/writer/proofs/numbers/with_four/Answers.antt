-- Digit by digit. Assumes nothing.
use native.Mathlib.Omega.{arith}
use Rattle.writer.proofs.Codes.{four-codes}
use Rattle.writer.proofs.numbers.with_four.Goals as goal

pub returns : goal.returns
returns c = (omega arith, four-codes c.args.words.now c.args.start c.requires.1)
