-- Three words are copied. Assumes nothing.
use mathlib.Core.Path.{refl}
use mathlib.Core.List.{[], ◌∷◌}
use Prim.Native.Nat.{◌+◌, ◌-◌}
use native.Mathlib.Omega.{arith}
use Rattle.words.proofs.Putting.{part-put}
use Rattle.words.proofs.record.put_three.Goals as goal

pub returns : goal.returns
returns c =
    let a = c.args in
    part-put a.words.now (a.first ∷ a.second ∷ a.third ∷ []) c.copy_from_slice.new.self a.at (a.at + 3 - a.at) 3 c.copy_from_slice.ensures.after refl (omega arith)
