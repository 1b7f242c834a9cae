-- Entry by entry, up to the last that is used. Assumes nothing.
use Rattle.grammar.specs.Grammar.{identity, no_identity}
use Rattle.words.specs.RecordWords.{identity_from}
use Rattle.writer.specs.Inner.{Ended}
use Rattle.writer.proofs.PutsEntries.{Putting}
use Rattle.writer.proofs.identities.IdentityEntry.put_entries.Given as goal

abbrev pub invariant-loop-i : goal.invariant-loop-i
invariant-loop-i l = Putting identity no_identity identity_from 3 8 l.n l.words l.fn.out l.at l.i l.out l.step.at × Ended l.out l.step.at l.step.last
