-- The call's group is looked for; without one the list is passed over. Assumes nothing.
use Rattle.in_place.proofs.Lists.{group_seen, no-group_seen}
use Rattle.in_place.proofs.identities.groups_at.Goals as goal

pub returns-in-Some : goal.returns-in-Some
returns-in-Some c = group_seen c.args.missing c.in-Some.is c.identities_at.ensures

pub returns-in-None : goal.returns-in-None
returns-in-None c = no-group_seen c.args.missing c.in-None.is c.passed_over.ensures
