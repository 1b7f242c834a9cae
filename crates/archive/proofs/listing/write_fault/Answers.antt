-- By entry and place. Assumes nothing.
use Rattle.archive.specs.Listing.{fault_text}
use Rattle.archive.proofs.Text.Within.{nothing}
use Rattle.archive.proofs.listing.write_fault.Goals as goal

pub returns-in_default : goal.returns-in_default
unfolding fault_text
returns-in_default c = record { value = rw c.in_default.is (nothing (c.args.out.now)).0; out_after = rw c.in_default.is (nothing c.args.out.now).1 }

pub returns-in-Some-place : goal.returns-in-Some-place
returns-in-Some-place c =
    rw (c.in-Some.is, c.in-Some-place.is) c.write_entry_bit.ensures

pub returns-in-None : goal.returns-in-None
returns-in-None c =
    rw (c.in-Some.is, c.in-None.is) c.write_entry.ensures
