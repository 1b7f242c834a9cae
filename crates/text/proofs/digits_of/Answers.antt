-- Below ten there is one digit; else the power of ten that a number reaches says how many. Assumes nothing.
use mathlib.Core.Path.{sym, ap}
use native.Mathlib.Omega.{arith}
use lib.ListN.{length}
use Rattle.text.proofs.Decimals.{decimal-one, decimal-length}
use Rattle.text.proofs.digits_of.Goals as goal

pub returns-then-n-lt10-clause-value : goal.returns-then-n-lt10-clause-value
returns-then-n-lt10-clause-value c = sym (ap length (decimal-one c.args.n (omega arith)))

pub returns-clause-value : goal.returns-clause-value
returns-clause-value c =
    let e = c.ilog10.ensures in
    decimal-length c.ilog10.result c.args.n c.args.n (omega arith) e.power_le e.next_power_gt e.bound
