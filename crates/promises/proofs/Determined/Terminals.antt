-- Each public function of `terminals` has one possible outcome.
use Rattle.terminals.proofs as terminals
use Rattle.promises.specs.Determined.{Determined, by_equations}

pub reset_determined : Determined terminals.reset.Kinds.ps terminals.reset.Kinds.r terminals.reset.Reads.Learnt
reset_determined = by_equations (λ κs a x v p. (p.0, λ i. (p.1 i, tt)))

pub take_determined : Determined terminals.take.Kinds.ps terminals.take.Kinds.r terminals.take.Reads.Learnt
take_determined = by_equations (λ κs a x v p. (p.0, λ i. (tt, (p.1.0 i, (p.1.1 i, tt)))))
