-- Each number has its bytes. Assumes nothing.
use mathlib.Core.Path.{◌≡◌}
use Prim.Native.Nat.{◌/◌, ◌%◌}
use native.Mathlib.Omega.{arith}
use Rattle.archive.specs.Model.{entry_bytes}
use Rattle.archive.proofs.contents.entry_bytes.Goals as goal

pub returns : goal.returns
unfolding entry_bytes
returns c =
    let e = c.args.entry in
    let bits : e.bits.0 / 256 % 256 ≡ e.bits.0 / 256 = omega (arith, c.requires.bits) in
    let day : e.day / 256 % 256 ≡ e.day / 256 = omega (arith, c.requires.day) in
    rw (c.three_bytes.ensures, c.three_bytes-2.ensures, c.to_be_bytes.ensures, c.to_be_bytes-2.ensures, bits, day)
