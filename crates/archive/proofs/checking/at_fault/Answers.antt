-- The key's range, then the shape of what is left. Assumes nothing.
use Rattle.bits.proofs.Tests.{said-no, said-yes}
use Rattle.archive.specs.Inner.{fault_is}
use Rattle.archive.proofs.checking.at_fault.Goals as goal

pub returns-then-not-in_range : goal.returns-then-not-in_range
unfolding fault_is
returns-then-not-in_range c = rw (c.plain.ensures, said-no c.in_range.ensures c.if-not-in_range.true)

pub returns-then-not-rest_has_shape : goal.returns-then-not-rest_has_shape
unfolding fault_is
returns-then-not-rest_has_shape c =
    rw (c.plain-then-not-rest_has_shape.ensures, said-yes c.in_range.ensures c.if-not-in_range.false, said-no c.rest_has_shape.ensures c.if-not-rest_has_shape.true)

pub returns : goal.returns
unfolding fault_is
returns c =
    rw (said-yes c.in_range.ensures c.if-not-in_range.false, said-yes c.rest_has_shape.ensures c.if-not-rest_has_shape.false)
