-- The answer where reading ends. Assumes nothing.
use mathlib.Core.Path.{sym, ap, ◌∙◌}
use Rattle.walk.specs.Inner.{ended_is}
use Rattle.walk.proofs.Ending.{ending}
use Rattle.walk.proofs.exactly.Goals as goal

pub returns : goal.returns
returns c = c.ended.ensures ∙ ap (ended_is c.args.s.now c.args.n.0) c.pass_pdu.ensures ∙ sym (ending _ _ c.requires)
