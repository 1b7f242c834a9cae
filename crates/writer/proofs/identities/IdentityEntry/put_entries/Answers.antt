-- None, or the first entry and those that follow it. Assumes nothing.
use Prim.Native.Nat.{◌*◌}
use native.Mathlib.Omega.{arith}
use lib.ListN.{length-drop}
use Rattle.grammar.specs.Grammar.{identity, no_identity}
use Rattle.grammar.proofs.Sizes.{size-no_identity}
use Rattle.words.specs.RecordWords.{identity_from}
use Rattle.tally.proofs.Words.{rest-of}
use Rattle.writer.proofs.PutsEntries.{Putting, putting-start, putting-room, putting-next, putting-done}
use Rattle.writer.proofs.identities.IdentityEntry.put_entries.Goals.{Start}
use Rattle.writer.proofs.identities.IdentityEntry.put_entries.Goals as goal

none : (c : Start) → let a = c.args in
    Putting identity no_identity identity_from 3 8 a.n a.words.now a.out.now a.at 0 a.out.now a.at
none c = putting-start c.requires.3

pub returns-then-n-eq0 : goal.returns-then-n-eq0
returns-then-n-eq0 c = putting-done (none (goal.at.returns-then-n-eq0 c).Start) size-no_identity (omega (arith, c.if-n-eq0.true))

pub put_first-step-requires : goal.put_first-step-requires
put_first-step-requires c =
    (omega (arith, c.requires.0), putting-room (none (goal.at.put_first-step-requires c).Start) (omega (arith, c.if-n-eq0.false)) c.requires.1)

pub loop-i-init : goal.loop-i-init
loop-i-init c = (
  putting-next (none (goal.at.loop-i-init c).Start) (omega (arith, c.if-n-eq0.false)) c.requires.1 c.put_first-step.auto.out
      c.put_first-step.ensures.0,
  c.put_first-step.ensures.1,
)

pub put_next-step-requires : goal.put_next-step-requires
put_next-step-requires c =
    rw rest-of (
      omega (arith, length-drop (3 * c.loop-i.i) c.args.words.now, c.requires.0, c.requires.1, c.loop-i-test.true),
      c.loop-i.invariant.1,
      putting-room c.loop-i.invariant.0 c.loop-i-test.true c.requires.1,
    )

pub loop-i-preserved : goal.loop-i-preserved
loop-i-preserved c =
    let next = rw rest-of at c.put_next-step.ensures in
    (putting-next c.loop-i.invariant.0 c.loop-i-test.true c.requires.1 c.put_next-step.auto.out next.0, next.1)

pub returns : goal.returns
returns c = putting-done c.loop-i.invariant.0 size-no_identity c.loop-i-test.false
