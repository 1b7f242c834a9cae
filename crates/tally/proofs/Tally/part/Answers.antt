-- By the part: identities, numbers, or nothing. Assumes nothing.
use borrow.Author.Tests.{eq-eqb, ne_eqb}
use Rattle.tally.proofs.Unused.{uncarried-part, skipped}
use Rattle.tally.proofs.Tally.part.Goals as goal

pub identity_part-requires : goal.identity_part-requires
identity_part-requires c = (c.requires.0, rw (eq-eqb c.args.part 1 c.if-part-eq1.true) at c.requires.1)

pub returns-then-part-eq1 : goal.returns-then-part-eq1
returns-then-part-eq1 c = rw (eq-eqb c.args.part 1 c.if-part-eq1.true) c.identity_part.ensures

pub number_part-requires : goal.number_part-requires
number_part-requires c =
    (c.requires.0, rw (ne_eqb c.args.part 1 c.if-part-eq1.false, eq-eqb c.args.part 2 c.if-part-eq2.true) at c.requires.1)

pub returns-then-part-eq2 : goal.returns-then-part-eq2
returns-then-part-eq2 c =
    let r = c.args.part in
    rw (ne_eqb r 1 c.if-part-eq1.false, eq-eqb r 2 c.if-part-eq2.true) c.number_part.ensures

pub returns : goal.returns
returns c =
    let r = c.args.part in
    rw (ne_eqb r 1 c.if-part-eq1.false, ne_eqb r 2 c.if-part-eq2.false)
    (skipped (uncarried-part _ c.requires.0) c.unused.ensures)
