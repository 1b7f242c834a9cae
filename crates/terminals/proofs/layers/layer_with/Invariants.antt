-- The layers passed end before the index. Assumes nothing.
use Prim.Native.Nat.{◌≤◌}
use Rattle.terminals.specs.Layers.{layer_at}
use Rattle.terminals.proofs.layers.layer_with.Given as goal

abbrev pub invariant-loop-layer : goal.invariant-loop-layer
invariant-loop-layer l = (layer_at l.layer).start ≤ l.place
