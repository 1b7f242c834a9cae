-- An identity, without its value. Assumes nothing.
use mathlib.Core.Path.{◌∙◌}
use Rattle.codec.proofs.Onward.{exit, reached-said, reached-ends}
use Rattle.walk.proofs.entry.IdentityEntry.pass.Goals as goal

pub returns-in_err-next : goal.returns-in_err-next
returns-in_err-next c = exit c.from_residual.ensures.1 ∙ reached-ends _ c.in_err-next.ensures

pub returns : goal.returns
returns c = reached-said _ c.in_ok-next.ensures
