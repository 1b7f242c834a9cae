-- An identity is passed by its present bit. Assumes nothing.
use Prim.Native.Nat.{◌+◌, ◌≤◌, ◌<◌}
use native.Mathlib.Omega.{arith}
use Rattle.bits.proofs.Bytes.{length-bits}
use Rattle.walk.proofs.Sights.{bit_lt}
use Rattle.reader.proofs.Elements.{identity-short}
use Rattle.in_place.proofs.Skipping.{passes}
use Rattle.in_place.proofs.identities.NothingSought.at.Goals.{Start, After-bit_at}
use Rattle.in_place.proofs.identities.NothingSought.at.Goals as goal

near : (c : Start) → c.args.at + 25 ≤ 4096
near c = omega (arith, c.requires.few, length-bits c.args.s.now, identity-short _ _ c.requires.reads)

bit : (c : After-bit_at) → c.bit_at.result < 2
bit c = bit_lt c.args.s.now (c.args.at + 24) c.bit_at.ensures

pub overflow_add-at : goal.overflow_add-at
overflow_add-at c = omega (arith, near (goal.at.overflow_add-at c).Start)

pub overflow_add-result : goal.overflow_add-result
overflow_add-result c = omega (arith, near (goal.at.overflow_add-result c).Start)

pub overflow_mul-result : goal.overflow_mul-result
overflow_mul-result c = omega (arith, bit (goal.at.overflow_mul-result c).After-bit_at)

pub overflow_add-result-2 : goal.overflow_add-result-2
overflow_add-result-2 c =
    omega (arith, near (goal.at.overflow_add-result-2 c).Start, bit (goal.at.overflow_add-result-2 c).After-bit_at)

pub returns : goal.returns
returns c = passes c.args.s.now c.args.at c.requires.reads c.bit_at.ensures
