-- Acknowledgement and definition type, one behind the other. Assumes nothing.
use mathlib.Core.Path.{sym, ap, ◌∙◌}
use Rattle.codec.specs.Reading.{said}
use Rattle.codec.proofs.Onward.{exit, goes-on, ends}
use Rattle.walk.proofs.Results.{user_definition-at}
use Rattle.walk.proofs.exact.Pdu.pass_user_definition.Goals as goal

pub returns-in_err-kind : goal.returns-in_err-kind
returns-in_err-kind c = exit c.from_residual.ensures.1 ∙ ap said (sym (user_definition-at _ _ _ ∙ ends _ _ c.in_err-kind.ensures))

pub returns : goal.returns
returns c = c.pass_defined.ensures ∙ ap said (sym (user_definition-at _ _ _ ∙ goes-on _ _ c.in_ok-kind.ensures))
