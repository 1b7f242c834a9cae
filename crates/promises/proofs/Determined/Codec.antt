-- Each public function of `codec` has one possible outcome.
use mathlib.Core.Path.{refl}
use Rattle.codec.proofs as codec
use Rattle.promises.specs.Determined.{Determined, by_equations}

pub number_determined : Determined codec.number.Kinds.ps codec.number.Kinds.r codec.number.Reads.Learnt
number_determined = by_equations (λ κs a x v p. (p, refl))

pub tested_determined : Determined codec.tested.Kinds.ps codec.tested.Kinds.r codec.tested.Reads.Learnt
tested_determined = by_equations (λ κs a x v p. (p, refl))
