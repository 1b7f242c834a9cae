-- The public function of `in_place` has one possible outcome.
use mathlib.Core.Path.{refl}
use Rattle.in_place.proofs as walking
use Rattle.promises.specs.Determined.{Determined, by_equations}

pub decide_determined : Determined walking.decide.Kinds.ps walking.decide.Kinds.r walking.decide.Reads.Learnt
decide_determined = by_equations (λ κs a x v p. (p, refl))
