-- The whole text, where there is room. Assumes nothing.
use Prim.Native.Nat.{◌≤◌}
use native.Mathlib.Omega.{arith}
use lib.ListN.{length}
use Rattle.archive.specs.Reading.{reading}
use Rattle.archive.specs.Listing.{listing}
use Rattle.archive.proofs.Text.Within.{too_long, laid-whole}
use Rattle.archive.proofs.checking.Archive.write_listing.Goals as goal

pub returns-then-out-text_length : goal.returns-then-out-text_length
returns-then-out-text_length c =
    let a = c.args in let all =
    too_long (listing (reading a.self.bytes.now)) a.out.now (omega (arith, c.text_length.ensures, c.if-out-text_length.true)) in record {
      value = all.0;
      out_after = all.1;
    }

pub returns : goal.returns
returns c =
    let a = c.args in
    let fits : length (listing (reading a.self.bytes.now)) ≤ length a.out.now = omega (arith, c.text_length.ensures, c.if-out-text_length.false) in let all =
    laid-whole (listing (reading a.self.bytes.now)) a.out.now fits c.write_text.ensures in record {
      value = all.0;
      out_after = all.1;
    }

pub write_text-requires : goal.write_text-requires
write_text-requires c = omega (arith, c.text_length.ensures)
