-- SSI, extension present, and the extension exactly if that is 1. Assumes nothing.
use mathlib.Core.Path.{sym, subst}
use lib.ListN.{take, drop}
use borrow.Author.Tests.{eq-eqb, ne_eqb}
use Rattle.codec.specs.Parts.{absent}
use Rattle.grammar.specs.Grammar.{identity, extension}
use Rattle.grammar.specs.declared.record.Identity.{Identity}
use Rattle.tally.specs.Tally.{Tallies}
use Rattle.tally.specs.Inner.{Fits, Absent}
use Rattle.tally.proofs.Parts.{numbered, then, shape, fits-number, fits-first, fits_next, fits-shape}
use Rattle.tally.proofs.Unused.{skipped}
use Rattle.tally.proofs.Words.{extension-unused}
use native.Mathlib.Omega.{arith}
use Rattle.tally.proofs.identities.IdentityCounted.tally.Goals.{After-identity_from-e}
use Rattle.tally.proofs.identities.IdentityCounted.tally.Goals as goal

-- the identity that was found fits
fits : (c : After-identity_from-e) → Fits identity c.identity_from-e.result c.args.start
fits c = subst (λ (x : Identity). Fits identity x c.args.start) (sym c.identity_from-e.ensures) c.requires.1

pub element-after_ssi-requires : goal.element-after_ssi-requires
unfolding identity
element-after_ssi-requires c = (omega arith, fits-number 24 (fits-first _ (fits-shape _ _ _ _ (fits c))))

pub element-after_present-requires : goal.element-after_present-requires
unfolding identity
element-after_present-requires c =
    let h = fits-shape _ _ _ _ (fits (goal.at.element-after_present-requires c).After-identity_from-e) in
    (omega arith, fits-number 1 (fits-first _ (fits_next _ h (numbered 24 c.element-after_ssi.ensures))))

pub element-requires : goal.element-requires
unfolding identity extension
element-requires c =
    let all = fits-shape _ _ _ _ (fits (goal.at.element-requires c).After-identity_from-e) in
    let h = fits_next _ (fits_next _ all (numbered 24 c.element-after_ssi.ensures)) (numbered 1 c.element-after_present.ensures) in
    (omega arith, fits-number 24 (rw (eq-eqb c.identity_from-e.result.present 1 c.if-e-eq1.true) at h))

pub returns-then-e-eq1 : goal.returns-then-e-eq1
unfolding identity extension
returns-then-e-eq1 c =
    subst (λ (x : Identity). Tallies identity x c.args.start c.element.result) c.identity_from-e.ensures
    (shape _ _ _ _ (then _ (numbered 24 c.element-after_ssi.ensures) (then _ (numbered 1 c.element-after_present.ensures)
    (rw (eq-eqb c.identity_from-e.result.present 1 c.if-e-eq1.true) (numbered 24 c.element.ensures)))))

pub returns : goal.returns
unfolding identity extension
returns c =
    let w = c.args.words.now in
    let none = subst (λ (x : Identity). Absent absent x.extension (take 1 (drop 2 w))) (sym c.identity_from-e.ensures)
    (extension-unused w c.requires.0) in
    subst (λ (x : Identity). Tallies identity x c.args.start c.unused.result) c.identity_from-e.ensures
    (shape _ _ _ _ (then _ (numbered 24 c.element-after_ssi.ensures) (then _ (numbered 1 c.element-after_present.ensures)
    (rw (ne_eqb c.identity_from-e.result.present 1 c.if-e-eq1.false) (skipped none c.unused.ensures)))))
