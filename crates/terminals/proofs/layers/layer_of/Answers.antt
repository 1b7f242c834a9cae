-- The five rows are the definition's values at 0 to 4, which antt computes in one test. Assumes nothing.
use native.Mathlib.Omega.{arith}
use Rattle.bits.proofs.Table.{at}
use Rattle.terminals.specs.Layers.{layer_at}
use Rattle.terminals.proofs.layers.layer_of.Goals as goal

pub returns : goal.returns
unfolding layer_at
returns c = at layer_at _ 5 c.args.layer (omega arith)
