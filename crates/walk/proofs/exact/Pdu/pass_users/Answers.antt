-- A list. Assumes nothing.
use Rattle.std.specs.Prelude.{Ok}
use mathlib.Core.Path.{sym, ◌∙◌}
use Rattle.grammar.specs.declared.site.ListKind.TheVariants as of
use Rattle.walk.specs.Inner.{pass, bits_of}
use Rattle.walk.proofs.Lists.{pass-identities}
use Rattle.walk.proofs.exact.Pdu.pass_users.Goals as goal

pub returns : goal.returns
unfolding pass
returns c = c.pass_list.ensures ∙ sym (pass-identities (bits_of c.args.self) (Ok c.args.at) of.Users)
