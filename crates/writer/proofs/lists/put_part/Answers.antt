-- The part says which lists are put. Assumes nothing.
use borrow.Author.Tests.{eq-eqb, ne_eqb}
use native.Mathlib.Omega.{arith}
use lib.ListN.{length-drop}
use Rattle.grammar.proofs.Sizes.{size-no_part}
use Rattle.words.specs.RecordWords.{numbers_from, lists_from}
use Rattle.tally.proofs.Words.{rest-of}
use Rattle.writer.proofs.Puts.{room_as, put_as, put-none}
use Rattle.writer.proofs.Listed.{each-any, identities-three, numbers-three}
use Rattle.writer.proofs.lists.put_part.Goals as goal

pub put_three-requires : goal.put_three-requires
put_three-requires c =
    let w = c.args.words.now in
    rw (rest-of w 25, rest-of w 50) (record {
      groups_there = omega (arith, c.requires.0);
      restricted_there = (omega (arith, length-drop 25 w, c.requires.0), each-any _);
      exceptions_there = (omega (arith, length-drop 50 w, c.requires.0), each-any _);
      room = room_as (identities-three w) (rw (eq-eqb c.args.part 1 c.if-part-eq1.true) at c.requires.2);
    })

pub returns-then-part-eq1 : goal.returns-then-part-eq1
returns-then-part-eq1 c =
    let w = c.args.words.now in
    rw (eq-eqb c.args.part 1 c.if-part-eq1.true) (put_as (identities-three w) (rw (rest-of w 25, rest-of w 50) at c.put_three.ensures))

pub put_three-requires-then-part-eq2 : goal.put_three-requires-then-part-eq2
unfolding lists_from numbers_from
put_three-requires-then-part-eq2 c =
    let w = c.args.words.now in
    rw (rest-of w 75, rest-of w 276) (record {
      groups_there = omega (arith, c.requires.0);
      restricted_there = (omega (arith, length-drop 75 w, c.requires.0), c.requires.1.0);
      exceptions_there = (omega (arith, length-drop 276 w, c.requires.0), c.requires.1.1);
      room =
          room_as (numbers-three w)
          (rw (ne_eqb c.args.part 1 c.if-part-eq1.false, eq-eqb c.args.part 2 c.if-part-eq2.true) at c.requires.2);
    })

pub returns-then-part-eq2 : goal.returns-then-part-eq2
returns-then-part-eq2 c =
    let w = c.args.words.now in
    rw (ne_eqb c.args.part 1 c.if-part-eq1.false, eq-eqb c.args.part 2 c.if-part-eq2.true)
    (put_as (numbers-three w) (rw (rest-of w 75, rest-of w 276) at c.put_three-then-part-eq2.ensures))

pub returns : goal.returns
returns c =
    let r = c.args.part in
    rw (ne_eqb r 1 c.if-part-eq1.false, ne_eqb r 2 c.if-part-eq2.false) (put-none size-no_part)
