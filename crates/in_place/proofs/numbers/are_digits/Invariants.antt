-- Each turn compares a digit. Assumes nothing.
use Rattle.in_place.proofs.Digits.{Compared}
use Rattle.in_place.proofs.numbers.are_digits.Given as goal

abbrev pub invariant-loop-i : goal.invariant-loop-i
invariant-loop-i l = Compared l.s l.at l.count l.digits l.i
