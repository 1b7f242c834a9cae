-- Where a layer's places stand.
use Rattle.std.specs.Prelude.{ℕ, ◌+◌, ◌≤◌, ◌<◌}
use Rattle.terminals.specs.Layers.{layer_at}

-- a layer that has the place at an index
pub record Has (l index : ℕ) : Type 0 where
  pub known : l ≤ 4
  pub from : (layer_at l).start ≤ index
  pub before : index < (layer_at l).start + (layer_at l).count
