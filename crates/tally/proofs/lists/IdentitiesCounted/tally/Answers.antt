-- The list of users. Assumes nothing.
use Rattle.grammar.specs.declared.site.ListKind.TheVariants.{Users}
use Rattle.tally.proofs.Unused.{uncarried-identity}
use Rattle.tally.proofs.Listed.{identities-fit, identities_tallied}
use Rattle.tally.proofs.lists.IdentitiesCounted.tally.Goals as goal

pub list-requires : goal.list-requires
list-requires c = (c.requires.0, uncarried-identity, identities-fit _ Users c.requires.1)

pub returns : goal.returns
returns c = identities_tallied _ Users c.list.ensures
