-- Each test is the definition's own, and the whole text is written at the front. Assumes nothing.
use Rattle.std.specs.Prelude.{Ok}
use Rattle.std.proofs.lemmas.Result.{err_from_is_err_and}
use mathlib.Core.Path.{◌≡◌, sym, ap, ◌∙◌}
use Prim.Native.Nat.{ℕ}
use native.Mathlib.Omega.{arith}
use borrow.Author.Tests.{le-leb, lt-leb}
use Rattle.archive.specs.Reading.{is_archive}
use Rattle.archive.specs.Checking.{check_is}
use Rattle.archive.specs.Listing.{list_is, list_out}
use Rattle.archive.proofs.Model.Checked.{archive_checked}
use Rattle.archive.proofs.Bytes.Copied.{at_front}
use Rattle.archive.proofs.listing.list.Goals.{In_ok-archive}
use Rattle.archive.proofs.listing.list.Goals as goal

-- the bytes are an archive
ok : (c : In_ok-archive) → check_is c.args.archive.now ≡ Ok tt
ok c = archive_checked _ (ap is_archive (sym c.in_ok-archive.ensures.same) ∙ c.in_ok-archive.archive.passed)

pub returns-in_err-archive : goal.returns-in_err-archive
unfolding list_is list_out
returns-in_err-archive c =
    let p = err_from_is_err_and c.from_residual.result c.from_residual.ensures.1 in
    let e = c.in_err-archive.ensures.refused in record {
      value = rw (p.1, p.2, e);
      out_after = rw e;
    }

pub returns-then-out-text_length : goal.returns-then-out-text_length
unfolding list_is list_out
returns-then-out-text_length c =
    let s = c.in_ok-archive.ensures.same in
    let k = lt-leb _ _ (rw c.text_length.ensures at c.if-out-text_length.true) in record {
      value = rw (c.plain.ensures, ok (goal.at.returns-then-out-text_length c).In_ok-archive, ← s, k);
      out_after = rw (ok (goal.at.returns-then-out-text_length c).In_ok-archive, ← s, k);
    }

pub write_text-requires : goal.write_text-requires
write_text-requires c =
    omega (arith, c.text_length.ensures)

pub returns : goal.returns
unfolding list_is list_out
returns c =
    let s = c.in_ok-archive.ensures.same in
    let k = le-leb _ _ (rw c.text_length.ensures at c.if-out-text_length.false) in
    let w = at_front c.write_text.ensures in record {
      value = rw (ok (goal.at.returns c).In_ok-archive, ← s, k) (ap (λ (n : ℕ). Ok n) w.0);
      out_after = rw (ok (goal.at.returns c).In_ok-archive, ← s, k) w.1;
    }
