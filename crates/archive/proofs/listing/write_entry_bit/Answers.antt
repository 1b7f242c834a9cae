-- The two words and numbers on a line, where there is room. Assumes nothing.
use Rattle.std.specs.Prelude.{Some, ℕ}
use mathlib.Core.Path.{◌≡◌}
use Prim.Native.Nat.{ℕ, ◌+◌, ◌≤◌}
use native.Mathlib.Omega.{arith}
use lib.ListN.{length}
use Rattle.archive.specs.Listing.{entry_word, bit_word, fault_text}
use Rattle.text.specs.Decimal.{decimal}
use Rattle.archive.proofs.Text.Lines.{length_two}
use Rattle.archive.proofs.Text.Within.{too_long, laid-whole}
use Rattle.archive.proofs.listing.write_entry_bit.Goals.{Else-out-digits_of}
use Rattle.archive.proofs.listing.write_entry_bit.Goals as goal

size : (i p : ℕ) → length (fault_text (Some i) (Some p)) ≡ 12 + length (decimal i) + length (decimal p)
unfolding fault_text
size i p = omega (arith, length_two entry_word i bit_word p)

pub returns-then-out-digits_of : goal.returns-then-out-digits_of
returns-then-out-digits_of c =
    let a = c.args in let all =
    too_long (fault_text (Some a.index) (Some a.bit)) _
    (omega (arith, size a.index a.bit, c.digits_of.ensures.value, c.digits_of-2.ensures.value, c.if-out-digits_of.true)) in record {
      value = all.0;
      out_after = all.1;
    }

-- room for the whole
whole : (c : Else-out-digits_of) → let a = c.args in
    length (fault_text (Some a.index) (Some a.bit)) ≤ length a.out.now
whole c =
    let a = c.args in
    omega (arith, size a.index a.bit, c.digits_of.ensures.value, c.digits_of-2.ensures.value, c.if-out-digits_of.false)

pub write_two_items-requires : goal.write_two_items-requires
unfolding fault_text
write_two_items-requires c = whole (goal.at.write_two_items-requires c).Else-out-digits_of

pub returns : goal.returns
unfolding fault_text
returns c = let all =
    laid-whole _ _ (whole (goal.at.returns c).Else-out-digits_of) c.write_two_items.ensures in record {
      value = all.0;
      out_after = all.1;
    }
