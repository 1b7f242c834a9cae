-- By the check: `refused 7` and where, or the listing. Assumes nothing.
use mathlib.Core.Path.{sym, ap, ◌∙◌}
use Rattle.archive.specs.Reading.{is_archive}
use Rattle.archive.specs.Listing.{report_of, told_of, report_is, report_out, told_out}
use Rattle.archive.proofs.Model.Checked.{archive_checked}
use Rattle.archive.proofs.Text.Within.{nothing}
use Rattle.archive.proofs.listing.report.Goals as goal

pub returns-in-Err : goal.returns-in-Err
unfolding report_of told_of report_is report_out told_out
returns-in-Err c =
    let e = c.in-Err.ensures.refused in record {
      value = rw e (λ i. record { printed = c.write_refused.ensures.value i; told = c.write_fault.ensures.value i });
      out_after = rw e c.write_refused.ensures.out_after;
      told_after = rw e c.write_fault.ensures.out_after;
    }

pub returns-in-Ok : goal.returns-in-Ok
unfolding report_of told_of report_is report_out told_out
returns-in-Ok c =
    let none = nothing c.args.told.now in
    let s = c.in-Ok.ensures.same in
    let e = archive_checked _ (ap is_archive (sym c.in-Ok.ensures.same) ∙ c.in-Ok.archive.passed) in record {
      value = rw (e, ← s) (λ i. record { printed = c.write_listing.ensures.value i; told = none.0 i });
      out_after = rw (e, ← s) c.write_listing.ensures.out_after;
      told_after = rw e none.1;
    }
