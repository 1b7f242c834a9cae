-- An identity is 25 bits, or 49 with its extension. Assumes nothing.
use Rattle.words.specs.RecordWords.{identity_from}
use Rattle.writer.proofs.Runs.{plain-run, extended_run}
use native.Mathlib.Omega.{arith}
use Rattle.writer.proofs.identities.identity_run.Goals as goal

pub returns-then-present-eq1 : goal.returns-then-present-eq1
unfolding identity_from
returns-then-present-eq1 c =
    (omega arith, omega arith, extended_run (identity_from c.args.words.now) c.args.lead c.if-present-eq1.true)

pub returns : goal.returns
unfolding identity_from
returns c = (omega arith, omega arith, plain-run (identity_from c.args.words.now) c.args.lead c.if-present-eq1.false)
