-- An identity is one run. Assumes nothing.
use mathlib.Core.Path.{◌≡◌}
use Rattle.bits.specs.Bits.{bits_of}
use Rattle.grammar.specs.Grammar.{identity}
use Rattle.words.specs.RecordWords.{identity_from}
use Rattle.writer.proofs.Runs.{room-run, put_as-run, alone, ended}
use native.Mathlib.Omega.{arith}
use Rattle.writer.proofs.identities.put_first.Goals.{After-identity_run-run}
use Rattle.writer.proofs.identities.put_first.Goals as goal

whole : (c : After-identity_run-run) → let a = c.args in
    identity.print (identity_from a.words.now) ≡ bits_of c.identity_run-run.result.width c.identity_run-run.result.bits
whole c = alone identity _ 0 _ _ c.identity_run-run.ensures.2

pub put_run-end-requires : goal.put_run-end-requires
put_run-end-requires c =
    (omega (arith, c.identity_run-run.ensures.1), room-run _ _ (whole (goal.at.put_run-end-requires c).After-identity_run-run) c.requires.1)

pub returns : goal.returns
returns c =
    let put = put_as-run _ _ (whole (goal.at.returns c).After-identity_run-run) c.put_run-end.ensures in
    (put, ended _ _ (whole (goal.at.returns c).After-identity_run-run) c.identity_run-run.ensures.0 c.requires.1 put)
