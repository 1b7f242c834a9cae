-- The public function of `reload` has one possible outcome.
use Rattle.reload.proofs as reload
use Rattle.promises.specs.Determined.{Determined, by_equations}

pub reload_determined : Determined reload.reload.Kinds.ps reload.reload.Kinds.r reload.reload.Reads.Learnt
reload_determined = by_equations (λ κs a x v p. (p.0, λ i. (tt, (tt, (tt, (tt, (p.1 i, tt)))))))
