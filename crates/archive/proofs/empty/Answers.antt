-- Each test is the definition's own, and the header is all there is of an empty archive. Assumes nothing.
use Rattle.std.specs.Prelude.{Ok}
use mathlib.Core.Path.{ap, ◌∙◌, ◌≡◌}
use mathlib.Core.List.{List}
use Prim.Native.Nat.{ℕ}
use native.Mathlib.Omega.{arith}
use borrow.Author.Tests.{lt-ltb, le-ltb, le-leb, lt-leb}
use lib.ListN.{length}
use Rattle.archive.specs.Model.{header_bytes}
use Rattle.archive.specs.Keeping.{over, empty_is, empty_out}
use Rattle.archive.proofs.Bytes.Copied.{at_front}
use Rattle.archive.proofs.empty.Goals as goal

pub returns-then-home-ge16777216 : goal.returns-then-home-ge16777216
unfolding empty_is empty_out
returns-then-home-ge16777216 c = let h = le-ltb c.args.home 16777216 c.if-home-ge16777216.true in record {
  value = rw (c.plain.ensures, h);
  out_after = rw h;
}

pub returns-then-out-lt-HEADER : goal.returns-then-out-lt-HEADER
unfolding empty_is empty_out
returns-then-out-lt-HEADER c =
    let h = lt-ltb _ _ c.if-home-ge16777216.false in
    let k = lt-leb _ _ c.if-out-lt-HEADER.true in record {
      value = rw (c.plain-then-out-lt-HEADER.ensures, h, k);
      out_after = rw (h, k);
    }

pub returns : goal.returns
unfolding empty_is empty_out header_bytes
returns c =
    let a = c.args in
    let h = lt-ltb _ _ c.if-home-ge16777216.false in
    let k = le-leb _ _ c.if-out-lt-HEADER.false in
    let e = c.header_bytes-header.ensures in
    let size : length c.header_bytes-header.result ≡ 5 = ap length e in
    let w = at_front (c.append.ensures.laid (omega arith)) in record {
      value = rw (h, k) (ap (λ (n : ℕ). Ok n) (w.0 ∙ ap length e));
      out_after = rw (h, k) (w.1 ∙ ap (λ (l : List ℕ). over l a.out.now) e);
    }
