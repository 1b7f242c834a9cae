-- One element. Assumes nothing.
use Rattle.std.proofs.Common.{rules}
use Rattle.grammar.specs.SiteSheet.{reserved}
use Rattle.walk.proofs.exact.Pdu.pass_outcome.Goals as goal

pub returns : goal.returns
returns c = c.pass_element.ensures (reserved c.args.low 5) (λ v k p. search rules)
