-- The word and the number on a line, where there is room. Assumes nothing.
use Rattle.std.specs.Prelude.{Some, None, ℕ}
use mathlib.Core.Path.{◌≡◌}
use mathlib.Core.List.{◌++◌}
use Prim.Native.Nat.{ℕ, ◌+◌, ◌≤◌}
use native.Mathlib.Omega.{arith}
use lib.ListN.{length, length-append}
use Rattle.text.proofs.Copies.{and_then}
use Rattle.archive.specs.Listing.{entry_word, line_end, fault_text}
use Rattle.text.specs.Decimal.{decimal, item}
use Rattle.archive.proofs.Text.Within.{too_long, laid-whole}
use Rattle.archive.proofs.listing.write_entry.Goals.{Else-out-digits_of}
use Rattle.archive.proofs.listing.write_entry.Goals as goal

size : (i : ℕ) → length (fault_text (Some i) None) ≡ 7 + length (decimal i)
unfolding fault_text item
size i = omega (arith, length-append (decimal i) line_end)

pub returns-then-out-digits_of : goal.returns-then-out-digits_of
returns-then-out-digits_of c =
    let i = c.args.index in let all =
    too_long (fault_text (Some i) None) _ (omega (arith, size i, c.digits_of.ensures.value, c.if-out-digits_of.true)) in record {
      value = all.0;
      out_after = all.1;
    }

-- room for the whole
whole : (c : Else-out-digits_of) → let a = c.args in 0 + length (fault_text (Some a.index) None) ≤ length a.out.now
whole c = omega (arith, size c.args.index, c.digits_of.ensures.value, c.if-out-digits_of.false)

pub returns : goal.returns
unfolding fault_text
returns c =
    let a = c.args in
    let room = whole (goal.at.returns c).Else-out-digits_of in
    let all =
    laid-whole (entry_word ++ item a.index line_end) a.out.now (omega (arith, room))
    (and_then c.append-index_at.ensures.laid c.write_item.ensures.laid room) in record {
      value = all.0;
      out_after = all.1;
    }
