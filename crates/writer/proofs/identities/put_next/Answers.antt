-- An identity after the bits that end in the byte where it begins is one run. Assumes nothing.
use mathlib.Core.Path.{◌≡◌}
use mathlib.Core.List.{◌++◌}
use Prim.Native.Nat.{◌+◌, ◌%◌}
use Rattle.bits.specs.Bits.{bits_of}
use Rattle.grammar.specs.Grammar.{identity}
use Rattle.words.specs.RecordWords.{identity_from}
use Rattle.writer.proofs.Runs.{alone, after-bits, ended, room_again, put_again}
use native.Mathlib.Omega.{arith}
use Rattle.writer.proofs.identities.put_next.Goals.{After-identity_run-run}
use Rattle.writer.proofs.identities.put_next.Goals as goal

over : (c : After-identity_run-run) → let a = c.args in let k = a.step.at % 8 in
    bits_of (k + c.identity_run-run.result.width) c.identity_run-run.result.bits
    ≡ bits_of k a.step.last ++ identity.print (identity_from a.words.now)
over c = after-bits identity _ _ _ _ _ (omega arith) c.identity_run-run.ensures.2

pub put_run-end-requires : goal.put_run-end-requires
put_run-end-requires c =
    let h = over (goal.at.put_run-end-requires c).After-identity_run-run in
    (omega (arith, c.identity_run-run.ensures.1), room_again _ _ _ _ _ _ (omega arith) h c.requires.2)

pub returns : goal.returns
returns c =
    let h = over (goal.at.returns c).After-identity_run-run in
    let put = put_again _ _ _ _ _ _ (omega arith) h c.requires.1 (omega arith) c.put_run-end.ensures in
    (put, ended _ _ (alone identity _ _ _ _ c.identity_run-run.ensures.2) c.identity_run-run.ensures.0 c.requires.2 put)
