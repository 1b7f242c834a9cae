-- The range type from the window at its place. Assumes nothing.
use native.Mathlib.Omega.{arith}
use Rattle.reader.proofs.Elements.{number_fits, front_read}
use Rattle.in_place.proofs.sought.front_at.Goals as goal

pub overflow_add-result : goal.overflow_add-result
overflow_add-result c = omega (arith, number_fits c.args.s.now c.args.start 4 (omega arith) c.requires.few c.requires.reads)

pub returns : goal.returns
returns c = front_read c.args.s.now c.args.start 4 (omega arith) (omega arith) c.window-window.ensures c.requires.reads
