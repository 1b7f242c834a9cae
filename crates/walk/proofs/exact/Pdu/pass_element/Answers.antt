-- An element, without its value. Assumes nothing.
use mathlib.Core.Path.{◌∙◌}
use Rattle.codec.proofs.Onward.{exit, reached-said, reached-ends}
use Rattle.walk.proofs.exact.Pdu.pass_element.Goals as goal

pub returns-in_err-next : goal.returns-in_err-next
returns-in_err-next g c refuse says = exit c.from_residual.ensures.1 ∙ reached-ends _ (c.in_err-next.ensures refuse says)

pub returns : goal.returns
returns g c refuse says = reached-said _ (c.in_ok-next.ensures refuse says)
