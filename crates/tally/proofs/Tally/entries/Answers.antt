-- Entry by entry, then the words that are not used. Assumes nothing.
use mathlib.Core.Path.{◌≡◌}
use Prim.Native.Nat.{◌*◌}
use native.Mathlib.Omega.{arith}
use lib.ListN.{length-drop}
use Rattle.tally.proofs.Entries.{tallying-start, tallying-fits, tallying-next, tallying-done, inside, all-inside, others}
use Rattle.tally.proofs.Words.{rest-of}
use Rattle.tally.proofs.Tally.entries.Goals as goal

pub loop-i-init : goal.loop-i-init
loop-i-init g c = tallying-start c.requires.3

pub tally-sum-requires : goal.tally-sum-requires
tally-sum-requires g c =
    let k = g.E.Counted.WORDS in
    rw (c.WORDS-size.ensures, rest-of) (
      omega (
        arith,
        length-drop (k * c.loop-i.i) c.args.words.now,
        inside k g.row.PLACES c.requires.0 c.loop-i.i c.args.n c.loop-i-test.true c.requires.1,
      ),
      tallying-fits c.loop-i.invariant c.loop-i-test.true c.requires.1,
    )

pub loop-i-preserved : goal.loop-i-preserved
loop-i-preserved g c =
    tallying-next c.loop-i.invariant c.loop-i-test.true c.requires.1 (rw (c.WORDS-size.ensures, rest-of) at c.tally-sum.ensures)

pub returns : goal.returns
returns g c =
    let n = c.args.n in
    let k = g.E.Counted.WORDS in
    let all : c.loop-i.i ≡ n = omega (arith, c.loop-i.auto.i-end, c.loop-i-test.false) in
    tallying-done (rw all at c.loop-i.invariant) c.requires.2 (omega arith) (others k g.row.PLACES c.requires.0 n c.requires.1)
    (all-inside k g.row.PLACES c.requires.0 n c.requires.1) (rw c.WORDS-size.ensures at c.unused.ensures)
