-- Each turn puts one entry. Assumes nothing.
use lib.ListN.{length}
use Rattle.words.proofs.Putting.{Turned}
use Rattle.words.proofs.entries.put_each.Given as goal

abbrev pub invariant-loop-entry : goal.invariant-loop-entry
invariant-loop-entry g l =
    let e = g.E.Spelt in
    Turned e.spelt l.entries e.WIDTH (length l.entries) l.initial.words l.initial.next l.entry-index l.words l.next
