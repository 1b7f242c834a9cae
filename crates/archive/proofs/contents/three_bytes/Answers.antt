-- Each byte is a digit of the number. Assumes nothing.
use mathlib.Core.Path.{◌≡◌}
use Prim.Native.Nat.{◌/◌, ◌%◌}
use native.Mathlib.Omega.{arith}
use Rattle.archive.proofs.contents.three_bytes.Goals as goal

pub returns : goal.returns
returns c =
    let high : c.args.n / 65536 % 256 ≡ c.args.n / 65536 = omega arith in
    rw (c.to_be_bytes.ensures, high)
