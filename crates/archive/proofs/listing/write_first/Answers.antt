-- The line of the home network and the entry count. Assumes nothing.
use Rattle.archive.specs.Listing.{first_line}
use Rattle.archive.proofs.listing.write_first.Goals as goal

pub write_two_items-requires : goal.write_two_items-requires
unfolding first_line
write_two_items-requires c = c.requires

pub returns : goal.returns
unfolding first_line
returns c = c.write_two_items.ensures
