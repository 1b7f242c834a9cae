-- Both tests. Assumes nothing.
use Rattle.bits.proofs.Tests.{said-no, said-yes}
use Rattle.words.specs.RequestWords.{are_request}
use Rattle.words.proofs.request.are_request.Goals as goal

pub returns-then-not-are_destination : goal.returns-then-not-are_destination
unfolding are_request
returns-then-not-are_destination c = rw (said-no c.are_destination.ensures c.if-not-are_destination.true)

pub returns : goal.returns
unfolding are_request
returns c = rw (said-yes c.are_destination.ensures c.if-not-are_destination.false) c.are_group.ensures
