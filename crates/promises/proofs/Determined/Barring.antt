-- Each public function of `barring` has one possible outcome.
use mathlib.Core.Path.{refl}
use Rattle.barring.proofs as barring
use Rattle.promises.specs.Determined.{Determined, by_equations}

pub decide_determined : Determined barring.decide.Kinds.ps barring.decide.Kinds.r barring.decide.Reads.Learnt
decide_determined = by_equations (λ κs a x v p. (p, refl))

pub judging_part_determined : Determined barring.judging_part.Kinds.ps barring.judging_part.Kinds.r barring.judging_part.Reads.Learnt
judging_part_determined = by_equations (λ κs a x v p. (p, refl))
