-- A word and two items, one after the other. Assumes nothing.
use native.Mathlib.Omega.{arith}
use Rattle.text.proofs.Copies.{and_then}
use Rattle.archive.specs.Listing.{two_items}
use Rattle.archive.proofs.listing.write_two_items.Goals as goal

pub returns : goal.returns
unfolding two_items
returns c =
    and_then c.append-first_at.ensures.laid (and_then c.write_item-second_at.ensures.laid c.write_item.ensures.laid)
    (omega (arith, c.requires))
