-- What the check lets pass is an archive. Assumes nothing.
use mathlib.Core.Path.{sym, ◌∙◌}
use Rattle.archive.proofs.Model.Checked.{checked-archive}
use Rattle.archive.proofs.checking.Archive.checked.Goals as goal

pub invariant_of-result : goal.invariant_of-result
invariant_of-result c = record {
  passed = checked-archive _ (sym c.check.ensures ∙ c.in_ok-check.was);
  fit = λ i. (c.type_inv.bytes i).fits;
}
