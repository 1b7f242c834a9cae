-- The public function of `walk` has one possible outcome.
use mathlib.Core.Path.{refl}
use Rattle.walk.proofs as walk
use Rattle.promises.specs.Determined.{Determined, by_equations}

pub walk_determined : Determined walk.walk.Kinds.ps walk.walk.Kinds.r walk.walk.Reads.Learnt
walk_determined = by_equations (λ κs a x v p. (p, refl))
