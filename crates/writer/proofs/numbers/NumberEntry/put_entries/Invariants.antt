-- Entry by entry, up to the last that is used. Assumes nothing.
use Rattle.grammar.specs.Grammar.{external, no_external}
use Rattle.words.specs.RecordWords.{number_from}
use Rattle.writer.proofs.PutsEntries.{Putting}
use Rattle.writer.proofs.numbers.NumberEntry.put_entries.Given as goal

abbrev pub invariant-loop-i : goal.invariant-loop-i
invariant-loop-i l = Putting external no_external number_from 25 8 l.n l.words l.initial.out l.at l.i l.out l.next
