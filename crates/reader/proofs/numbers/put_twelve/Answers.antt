-- Four, four and four. Assumes nothing.
use mathlib.Core.Path.{◌∙◌}
use mathlib.Core.List.{◌++◌}
use Rattle.reader.proofs.Runs.{twelve-is}
use Rattle.reader.proofs.numbers.put_twelve.Goals as goal

pub returns : goal.returns
returns c = (λ i. c.put_codes.ensures i ++ (c.put_codes-2.ensures i ++ c.put_codes-3.ensures i)) ∙ twelve-is c.args.run
