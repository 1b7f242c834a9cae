-- The body's part of the archive, where there is room. Assumes nothing.
use mathlib.Core.Path.{◌≡◌, refl, ap, ◌∙◌}
use mathlib.Core.List.{List}
use Prim.Native.Nat.{ℕ}
use native.Mathlib.Omega.{arith}
use borrow.Author.Tests.{le-leb, lt-leb}
use lib.ListN.{length}
use Rattle.bits.proofs.Lists.{length_part}
use Rattle.bits.specs.Frame.{bytes_for}
use Rattle.archive.specs.Keeping.{over}
use Rattle.archive.proofs.Bytes.Copied.{at_front}
use Rattle.archive.proofs.Body.deliver.Goals.{After-bytes-bytes}
use Rattle.archive.proofs.Body.deliver.Goals as goal

size : (c : After-bytes-bytes) → length c.bytes-bytes.result.now ≡ bytes_for c.args.self.bits.0
size c = ap length c.bytes-bytes.ensures ∙ length_part c.args.archive.now c.args.self.off _ c.requires

pub returns-then-out-bytes : goal.returns-then-out-bytes
returns-then-out-bytes c = record {
  value = rw (c.plain.ensures, lt-leb (bytes_for c.args.self.bits.0) (length c.args.out.now) (omega (arith, size (goal.at.returns-then-out-bytes c).After-bytes-bytes, c.if-out-bytes.true)));
  out_after = refl;
}

pub returns : goal.returns
returns c = record {
  value = rw (le-leb (bytes_for c.args.self.bits.0) (length c.args.out.now) (omega (arith, size (goal.at.returns c).After-bytes-bytes, c.if-out-bytes.false)));
  out_after = (at_front (c.append.ensures.laid (omega (arith, c.if-out-bytes.false)))).1 ∙ ap (λ (s : List ℕ). over s c.args.out.now) c.bytes-bytes.ensures;
}
