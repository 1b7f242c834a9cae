-- The line, where there is room. Assumes nothing.
use Rattle.archive.specs.Listing.{refused_line}
use Rattle.archive.proofs.Text.Within.{too_long, laid-whole}
use Rattle.archive.proofs.listing.write_refused.Goals as goal

pub returns-then-out-lt10 : goal.returns-then-out-lt10
returns-then-out-lt10 c = let all =
    too_long refused_line _ c.if-out-lt10.true in record {
      value = all.0;
      out_after = all.1;
    }

pub returns : goal.returns
returns c = let all =
    laid-whole refused_line _ c.if-out-lt10.false (c.append.ensures.laid c.if-out-lt10.false) in record {
      value = all.0;
      out_after = all.1;
    }
