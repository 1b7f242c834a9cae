-- Each public function of `archive` has one possible outcome.
use mathlib.Core.Path.{refl}
use Rattle.archive.proofs as archive
use Rattle.promises.specs.Determined.{Determined, by_equations}

pub empty_determined : Determined archive.empty.Kinds.ps archive.empty.Kinds.r archive.empty.Reads.Learnt
empty_determined = by_equations (λ κs a x v p. (p.0, λ i. (tt, (p.1 i, tt))))

pub capture_determined : Determined archive.capture.Kinds.ps archive.capture.Kinds.r archive.capture.Reads.Learnt
capture_determined = by_equations (λ κs a x v p. (p.0, λ i. (tt, (tt, (tt, (tt, (p.1 i, tt)))))))

pub entry_determined : Determined archive.entry.Kinds.ps archive.entry.Kinds.r archive.entry.Reads.Learnt
entry_determined = by_equations (λ κs a x v p. (p, refl))

pub restore_determined : Determined archive.restore.Kinds.ps archive.restore.Kinds.r archive.restore.Reads.Learnt
restore_determined = by_equations (λ κs a x v p. (p.0, λ i. (tt, (tt, (p.1 i, tt)))))

pub list_determined : Determined archive.listing.list.Kinds.ps archive.listing.list.Kinds.r archive.listing.list.Reads.Learnt
list_determined = by_equations (λ κs a x v p. (p.0, λ i. (tt, (p.1 i, tt))))

pub report_determined : Determined archive.listing.report.Kinds.ps archive.listing.report.Kinds.r archive.listing.report.Reads.Learnt
report_determined = by_equations (λ κs a x v p. (p.0, λ i. (tt, (p.1.0 i, (p.1.1 i, tt)))))

pub fetch_determined : Determined archive.fetch.Kinds.ps archive.fetch.Kinds.r archive.fetch.Reads.Learnt
fetch_determined = by_equations (λ κs a x v p. (p, refl))

pub check_determined : Determined archive.check.Kinds.ps archive.check.Kinds.r archive.check.Reads.Learnt
check_determined = by_equations (λ κs a x v p. (p, refl))

pub plain_determined : Determined archive.refusal.Refusal.plain.Kinds.ps archive.refusal.Refusal.plain.Kinds.r archive.refusal.Refusal.plain.Reads.Learnt
plain_determined = by_equations (λ κs a x v p. (p, refl))

pub in_range_determined : Determined archive.in_range.Kinds.ps archive.in_range.Kinds.r archive.in_range.Reads.Learnt
in_range_determined = by_equations (λ κs a x v p. (p, refl))

pub home_determined : Determined archive.home.Kinds.ps archive.home.Kinds.r archive.home.Reads.Learnt
home_determined = by_equations (λ κs a x v p. (p, refl))
