-- One element. Assumes nothing.
use Rattle.std.proofs.Common.{rules}
use Rattle.grammar.specs.SiteSheet.{between}
use Rattle.walk.proofs.exact.Pdu.pass_choice.Goals as goal

pub returns : goal.returns
returns c = c.pass_element.ensures (between c.args.low c.args.high) (λ v k p. search rules)
