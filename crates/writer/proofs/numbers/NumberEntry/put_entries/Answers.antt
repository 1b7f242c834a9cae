-- Entry by entry, up to the last that is used. Assumes nothing.
use Prim.Native.Nat.{◌*◌}
use native.Mathlib.Omega.{arith}
use lib.ListN.{length-drop}
use Rattle.grammar.proofs.Sizes.{size-no_external}
use Rattle.words.specs.RecordWords.{number_from}
use Rattle.words.proofs.LegalRecords.{SmallNumber}
use Rattle.tally.proofs.Words.{rest-of}
use Rattle.writer.proofs.PutsEntries.{putting-start, putting-room, putting-next, putting-done, each-entry}
use Rattle.writer.proofs.numbers.NumberEntry.put_entries.Goals as goal

pub loop-i-init : goal.loop-i-init
loop-i-init c = putting-start c.requires.3

pub put_number-next-requires : goal.put_number-next-requires
put_number-next-requires c =
    rw rest-of (
      omega (arith, length-drop (25 * c.loop-i.i) c.args.words.now, c.requires.0, c.requires.1, c.loop-i-test.true),
      each-entry SmallNumber number_from 25 8 c.loop-i.i c.args.words.now c.requires.2 (omega (arith, c.requires.1, c.loop-i-test.true)),
      putting-room c.loop-i.invariant c.loop-i-test.true c.requires.1,
    )

pub loop-i-preserved : goal.loop-i-preserved
loop-i-preserved c =
    putting-next c.loop-i.invariant c.loop-i-test.true c.requires.1 c.put_number-next.auto.out (rw rest-of at c.put_number-next.ensures)

pub returns : goal.returns
returns c = putting-done c.loop-i.invariant size-no_external c.loop-i-test.false
