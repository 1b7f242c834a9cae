-- The count, then as many services. Assumes nothing.
use Rattle.std.proofs.Common.{rules}
use Rattle.std.specs.Prelude.{Ok}
use mathlib.Core.Path.{sym, ◌∙◌}
use Rattle.codec.specs.Parts.{element}
use Rattle.grammar.specs.SiteSheet.{service_refusal}
use Rattle.walk.specs.Inner.{pass, bits_of}
use Rattle.walk.proofs.Lists.{pass-services}
use Rattle.walk.proofs.exact.Pdu.pass_services.Goals as goal

pub returns : goal.returns
unfolding pass
returns c = c.pass_counted.ensures (element 3 service_refusal) (λ at r p. search rules) ∙ sym (pass-services (bits_of c.args.self) (Ok c.args.at))
