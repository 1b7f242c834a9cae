-- The length, then as many digits. Assumes nothing.
use Rattle.std.proofs.Common.{rules}
use Rattle.std.specs.Prelude.{Ok}
use mathlib.Core.Path.{sym, ◌∙◌}
use Rattle.codec.specs.Parts.{element}
use Rattle.grammar.specs.SiteSheet.{digit_refusal}
use Rattle.walk.specs.Inner.{pass, bits_of}
use Rattle.walk.proofs.Lists.{pass-external}
use Rattle.walk.proofs.entry.NumberEntry.pass.Goals as goal

pub returns : goal.returns
unfolding pass
returns c = c.pass_counted.ensures (element 4 digit_refusal) (λ at r p. search rules) ∙ sym (pass-external (bits_of c.args.pdu) (Ok c.args.at))
