-- A shift of 1 by at most 63 is exact. Assumes nothing.
use mathlib.Core.Path.{◌∙◌}
use Prim.Native.Nat.{◌^◌}
use native.Mathlib.Nat.{one-mul}
use native.Mathlib.Omega.{arith}
use lib.Pow.{shl_exact}
use Rattle.bits.proofs.pow2.Goals as goal

pub returns : goal.returns
returns c = shl_exact {a = 1} 1 c.args.n 64 (omega arith) (omega arith) ∙ one-mul (2 ^ c.args.n)
