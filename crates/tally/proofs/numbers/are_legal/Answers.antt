-- Where none of all 24 is above 12, none of the first of them is. Assumes nothing.
use mathlib.Core.Path.{sym, ◌∙◌}
use Rattle.tally.proofs.Unused.{none-front}
use native.Mathlib.Omega.{arith}
use Rattle.tally.proofs.numbers.are_legal.Goals as goal

pub returns-then-none_above : goal.returns-then-none_above
returns-then-none_above c =
    sym (none-front 12 c.args.used 24 c.args.words.now (omega (arith, c.requires.1)) (sym c.none_above.ensures ∙ c.if-none_above.true))
