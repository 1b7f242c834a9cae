-- Both engines agree: as functions, and as the two calls for C. Assumes nothing.
use Rattle.barring.proofs as barring
use Rattle.in_place.proofs as walking
use Rattle.boc.proofs as boc
use Rattle.promises.specs.Engines.{Agree}
use Rattle.promises.proofs.Determined.Barring.{decide_determined}
use Rattle.promises.proofs.Determined.Boc.{boc_decide_determined}

-- on every archive and request
pub engines-agree : Agree barring.decide.Kinds.ps barring.decide.Kinds.r barring.decide.Reads.Learnt walking.decide.Reads.Learnt
engines-agree = record { same = decide_determined.same }

-- and for all words, in the number, the decision, the entry and the place
pub calls-agree : Agree boc.boc_decide.Kinds.ps boc.boc_decide.Kinds.r boc.boc_decide.Reads.Learnt boc.boc_decide_in_place.Reads.Learnt
calls-agree = record { same = boc_decide_determined.same }
