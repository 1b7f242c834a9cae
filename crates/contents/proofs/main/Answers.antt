-- No report is longer than its buffer (report-fits), so that the parts that are written are parts.
use Rattle.std.proofs.Common.{◌≡◌, ◌≤◌, ℕ, List}
use mathlib.Core.Path.{sym, subst}
use native.Mathlib.Omega.{arith}
use lib.ListN.{length-take}
use Rattle.archive.specs.declared.listing.Reported.{Reported}
use Rattle.archive.specs.Listing.{report_is}
use Rattle.archive.proofs.Text.Sizes.{report-fits}
use Rattle.contents.proofs.main.Goals as goal

at_most :
    (b : List ℕ) (room more : ℕ) {r : Reported} → r ≡ report_is b room more → (r.printed ≤ room) × (r.told ≤ more)
at_most b room more e = subst (λ (x : Reported). (x.printed ≤ room) × (x.told ≤ more)) (sym e) (report-fits b room more)

pub slice_bounds-text-end : goal.slice_bounds-text-end
slice_bounds-text-end c = omega (arith, (at_most _ _ _ c.report-report.ensures.value).0, c.report-report.auto.out)

pub slice_bounds-write_all-end : goal.slice_bounds-write_all-end
slice_bounds-write_all-end c = simp length-take (omega (arith, (at_most _ _ _ c.report-report.ensures.value).0, c.report-report.auto.out))

pub slice_bounds-fault-end : goal.slice_bounds-fault-end
slice_bounds-fault-end c = omega (arith, (at_most _ _ _ c.report-report.ensures.value).1, c.report-report.auto.told)

pub slice_bounds-write_all-end-2 : goal.slice_bounds-write_all-end-2
slice_bounds-write_all-end-2 c = simp length-take (omega (arith, (at_most _ _ _ c.report-report.ensures.value).1, c.report-report.auto.told))
