-- The layers passed end before the index. Assumes nothing.
use mathlib.Core.Path.{◌≡◌, ap}
use Prim.Native.Nat.{◌+◌}
use native.Mathlib.Omega.{arith}
use Rattle.terminals.specs.Layers.{layer_at}
use Rattle.terminals.specs.declared.layers.Layer.{Layer}
use Rattle.terminals.proofs.Places.{ends, goes_on}
use Rattle.terminals.proofs.layers.layer_with.Goals.{After-layer_of-row}
use Rattle.terminals.proofs.layers.layer_with.Goals as goal

pub loop-layer-init : goal.loop-layer-init
unfolding layer_at
loop-layer-init c = omega arith

-- where the layer's places end
end : (c : After-layer_of-row) → c.layer_of-row.result.start + c.layer_of-row.result.count
    ≡ (layer_at c.loop-layer.layer).start + (layer_at c.loop-layer.layer).count
end c = ap (λ (r : Layer). r.start + r.count) c.layer_of-row.ensures

pub overflow_add-row : goal.overflow_add-row
overflow_add-row c = omega (arith, end (goal.at.overflow_add-row c).After-layer_of-row, ends c.loop-layer.layer (omega arith))

pub loop-layer-preserved : goal.loop-layer-preserved
loop-layer-preserved c =
    let l = c.loop-layer in
    let next = goes_on l.layer (omega arith) c.args.place (omega (arith, end (goal.at.loop-layer-preserved c).After-layer_of-row)) c.requires in
    omega (arith, next.1, end (goal.at.loop-layer-preserved c).After-layer_of-row)

pub returns : goal.returns
unfolding layer_at
returns c =
    let l = c.loop-layer in
    let all : l.layer ≡ 4 = omega arith in
    record { known = omega arith; from = omega (arith, ap (λ k. (layer_at k).start) all, l.invariant); before = omega (arith, c.requires) }
