-- Five items, one after the other. Assumes nothing.
use Rattle.text.proofs.Copies.{and_then}
use Rattle.archive.specs.Listing.{line}
use Rattle.archive.proofs.listing.write_line.Goals as goal

pub returns : goal.returns
unfolding line
returns c =
    and_then c.write_item-ssi_at.ensures.laid
    (and_then c.write_item-part_at.ensures.laid
    (and_then c.write_item-bits_at.ensures.laid (and_then c.write_item-day_at.ensures.laid c.write_item.ensures.laid)))
    c.requires
