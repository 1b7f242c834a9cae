-- One end, the other, and their test. Assumes nothing.
use mathlib.Core.Path.{sym, ap, ◌∙◌}
use Rattle.std.specs.Prelude.{Result, Ok}
use Prim.Native.Nat.{ℕ}
use Rattle.bits.specs.declared.Cursor.{Cursor}
use Rattle.codec.specs.Reading.{got, reached, tested_is}
use Rattle.codec.specs.declared.Stop.{Stop}
use Rattle.codec.proofs.Onward.{exit, goes-on, ends, passes-test, fails-test}
use Rattle.walk.proofs.Ranges.{range-by-place}
use Rattle.walk.proofs.exact.Pdu.pass_range.Goals as goal

pub returns-in_err-first : goal.returns-in_err-first
returns-in_err-first c = exit c.from_residual.ensures.1 ∙ ap reached (sym (range-by-place _ _ ∙ ends _ _ c.in_err-first.ensures))

pub returns-in_err-last : goal.returns-in_err-last
returns-in_err-last c =
    exit c.from_residual-in_err-last.ensures.1
    ∙ ap reached (sym (range-by-place _ _ ∙ goes-on _ _ c.in_ok-first.ensures ∙ ends _ _ c.in_err-last.ensures))

pub returns-in_err-behind : goal.returns-in_err-behind
returns-in_err-behind c =
    let second = c.in_ok-first.second in
    let read : ℕ × Cursor = (c.in_ok-last.last.ssi, c.in_ok-last.end) in
    exit c.from_residual-in_err-behind.ensures.1
    ∙ ap reached (sym (range-by-place _ _ ∙ goes-on _ _ c.in_ok-first.ensures ∙ goes-on _ _ c.in_ok-last.ensures
    ∙ fails-test second read _ _ (c.in_err-behind.ensures ∙ ap (tested_is (Ok second) (Ok read)) c.ends_refusal-ends.ensures)))

pub returns : goal.returns
returns c =
    let second = c.in_ok-first.second in
    let read : ℕ × Cursor = (c.in_ok-last.last.ssi, c.in_ok-last.end) in
    let test = c.in_ok-behind.ensures ∙ ap (tested_is (Ok second) (Ok read)) c.ends_refusal-ends.ensures in
    ap {B = Result Cursor Stop} (λ (p : ℕ × Cursor). Ok p.1) (passes-test second read (got read.0 0) _ test).1
    ∙ ap reached (sym (range-by-place _ _ ∙ goes-on _ _ c.in_ok-first.ensures ∙ goes-on _ _ c.in_ok-last.ensures
    ∙ (passes-test second read _ _ test).0))
