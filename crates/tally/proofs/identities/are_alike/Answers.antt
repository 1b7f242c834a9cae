-- Nothing is set in all of them together, so in none. Assumes nothing.
use mathlib.Core.Path.{subst}
use native.Mathlib.Omega.{arith}
use borrow.Author.Count.{below_more}
use borrow.Author.Tests.{eqb-true}
use lib.ListN.{get_or}
use Rattle.grammar.specs.declared.record.Identity.{Identity}
use Rattle.tally.specs.Inner.{Plain}
use Rattle.tally.proofs.Alike.{none_other}
use Rattle.tally.proofs.Words.{rest-of}
use Rattle.tally.proofs.identities.are_alike.Goals as goal

pub loop-i-preserved : goal.loop-i-preserved
loop-i-preserved c e =
    let h = none_other _ _ c.identity_from-e.result e in
    below_more _ _ (c.loop-i.invariant h.0)
    (subst (λ (x : Identity). Plain (get_or c.args.words.now 1 0) x) (rw rest-of at c.identity_from-e.ensures) h.1)

pub returns : goal.returns
returns c e = record { bit = omega arith; each = λ k h. c.loop-i.invariant (eqb-true _ _ e) k (omega (arith, c.loop-i-test.false)) }
