-- Three bytes and two. Assumes nothing.
use mathlib.Core.Path.{◌≡◌}
use Prim.Native.Nat.{◌/◌, ◌%◌}
use native.Mathlib.Omega.{arith}
use Rattle.archive.specs.Model.{header_bytes}
use Rattle.archive.proofs.contents.header_bytes.Goals as goal

pub returns : goal.returns
unfolding header_bytes
returns c =
    let high : c.args.count / 256 % 256 ≡ c.args.count / 256 = omega arith in
    rw (c.three_bytes.ensures, c.to_be_bytes.ensures, high)
