-- Those that are alike come to as many bits each; then the words that are not used. Assumes nothing.
use native.Mathlib.Omega.{arith}
use Rattle.tally.specs.Inner.{Alike}
use Rattle.tally.proofs.Entries.{tallying-done, all-inside, others}
use Rattle.tally.proofs.Alike.{alike-counted, alike-fit}
use Rattle.tally.proofs.Tally.eight_entries.Goals as goal

pub returns : goal.returns
returns g c =
    let k = g.E.Counted.WORDS in
    let n = c.args.n in
    tallying-done (alike-counted g.E.Counted.unused c.requires.1 (c.bits_alike.ensures _ c.in-Some.is) c.requires.3 n (omega arith)) c.requires.2
    (omega arith) (others k 8 c.requires.0 n c.requires.1) (all-inside k 8 c.requires.0 n c.requires.1) (rw c.WORDS-size.ensures at c.unused.ensures)

pub overflow_mul-sum : goal.overflow_mul-sum
overflow_mul-sum g c = omega (arith, alike-fit g.E.Counted.unused c.requires.1 (c.bits_alike.ensures _ c.in-Some.is) c.requires.3)

pub overflow_add-sum : goal.overflow_add-sum
overflow_add-sum g c = omega (arith, alike-fit g.E.Counted.unused c.requires.1 (c.bits_alike.ensures _ c.in-Some.is) c.requires.3)
