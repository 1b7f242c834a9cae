-- The present bit says where it ends. Assumes nothing.
use mathlib.Core.Path.{refl}
use Prim.Native.Nat.{◌+◌, ◌<◌}
use native.Mathlib.Omega.{arith}
use Rattle.walk.proofs.Aheads.{ends_as}
use Rattle.walk.proofs.Sights.{bit_lt, identity-ends}
use Rattle.walk.proofs.entry.IdentityEntry.end.Goals.{After-bit_at}
use Rattle.walk.proofs.entry.IdentityEntry.end.Goals as goal

small : (c : After-bit_at) → c.bit_at.result < 2
small c = bit_lt c.args.s.now (c.args.start + 24) c.bit_at.ensures

pub overflow_mul-result : goal.overflow_mul-result
overflow_mul-result c = omega (arith, small c)

pub overflow_add-result-2 : goal.overflow_add-result-2
overflow_add-result-2 c = omega (arith, small c)

pub returns : goal.returns
returns c = ends_as (λ l r. refl) (omega arith) (identity-ends c.bit_at.ensures)
