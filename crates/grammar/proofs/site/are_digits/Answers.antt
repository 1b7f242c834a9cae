-- The lowest bit of each digit says whether it is refused. Assumes nothing.
use Rattle.grammar.proofs.Digits.{digits_marked}
use Rattle.grammar.proofs.site.are_digits.Goals as goal

pub returns : goal.returns
returns c = digits_marked 16 c.args.w
