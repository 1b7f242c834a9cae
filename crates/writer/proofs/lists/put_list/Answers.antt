-- The range type, and as many entries as it says. Assumes nothing.
use native.Mathlib.Omega.{arith}
use lib.ListN.{length-drop}
use Rattle.grammar.proofs.Codes.{entries_of_le}
use Rattle.words.specs.RecordWords.{word}
use Rattle.tally.proofs.Words.{rest-of}
use Rattle.writer.proofs.Puts.{room-first, room_next, put_then}
use Rattle.writer.proofs.PutsEntries.{room-used, put-used}
use Rattle.writer.proofs.lists.put_list.Goals as goal

pub put_element-after_code-requires : goal.put_element-after_code-requires
put_element-after_code-requires g c = (omega arith, room-first _ c.requires.2)

pub put_entries-requires : goal.put_entries-requires
put_entries-requires g c =
    let e = g.E.Entry in
    rw rest-of (
      omega (arith, length-drop 1 c.args.words.now, c.requires.0),
      omega (arith, c.entries_of.ensures, entries_of_le (word c.args.words.now 0)),
      c.requires.1,
      room-used e.used e.unused 8 c.entries_of.ensures (room_next _ c.requires.2 c.put_element-after_code.ensures),
    )

pub returns : goal.returns
returns g c =
    let e = g.E.Entry in
    put_then _ c.requires.2 c.put_element-after_code.ensures
    (λ h. put-used e.used e.unused 8 c.entries_of.ensures (rw rest-of at c.put_entries.ensures))
