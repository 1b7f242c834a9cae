-- Each number is the one at its place, and fits its bytes. Assumes nothing.
use Prim.Native.Nat.{◌+◌}
use native.Mathlib.Omega.{arith}
use Rattle.archive.proofs.contents.entry_at.Goals as goal

pub returns : goal.returns
returns c =
    let network = c.three.ensures in
    let ssi = c.three-2.ensures in
    let part = c.from.ensures in
    let bits = c.two.ensures in
    let day = c.two-2.ensures in (
      (λ i. record { key = record { network = network.0 i; ssi = ssi.0 i; part = part i }; bits = record { 0 = bits.0 i }; day = day.0 i }),
      record {
        key = record { network = network.1; ssi = ssi.1; part = omega (arith, part, c.type_inv.b (c.args.at + 6)) };
        bits = bits.1;
        day = day.1;
      },
    )
