-- The sum of the parts' lengths. Assumes nothing.
use native.Mathlib.Omega.{arith}
use Rattle.archive.proofs.copying.spliced_length.Goals as goal

pub returns : goal.returns
returns c = omega arith
