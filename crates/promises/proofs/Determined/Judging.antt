-- The public function of `judging` has one possible outcome.
use mathlib.Core.Path.{refl}
use Rattle.judging.proofs as judging
use Rattle.promises.specs.Determined.{Determined, by_equations}

pub judge_determined : Determined judging.judge.Kinds.ps judging.judge.Kinds.r judging.judge.Reads.Learnt
judge_determined = by_equations (λ κs a x v p. (p, refl))
