-- Entry by entry, then the words that are not used. Assumes nothing.
use Rattle.tally.proofs.Entries.{Tallying}
use Rattle.tally.proofs.Tally.entries.Given as goal

abbrev pub invariant-loop-i : goal.invariant-loop-i
invariant-loop-i g l =
    Tallying g.E.Counted.used g.E.Counted.unused g.E.Counted.among g.E.Counted.WORDS g.row.PLACES l.n l.words l.initial.sum l.i l.sum
