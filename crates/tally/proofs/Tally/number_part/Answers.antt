-- The groups, then the two lists of numbers; no other identities are carried. Assumes nothing.
use lib.ListN.{length-drop, drop}
use Rattle.codec.specs.Parts.{seq}
use Rattle.grammar.specs.Grammar.{no_identities, externals, number_part}
use Rattle.grammar.specs.declared.site.ListKind.TheVariants.{Identities}
use Rattle.words.specs.RecordWords.{identities_from, numbers_from, lists_from}
use Rattle.tally.specs.Tally.{Tallies}
use Rattle.tally.specs.Inner.{Fits}
use Rattle.tally.proofs.Parts.{then, shape, fits-first, fits_next, fits-shape}
use Rattle.tally.proofs.Unused.{skipped, uncarried-identity, uncarried-identities, uncarried-number}
use Rattle.tally.proofs.Listed.{identities-fit, identities_tallied, numbers-fit, numbers_tallied}
use Rattle.tally.proofs.Words.{rest-of}
use native.Mathlib.Omega.{arith}
use Rattle.tally.proofs.Tally.number_part.Goals.{After-unused-no_restricted, After-unused-no_exceptions, Start}
use Rattle.tally.proofs.Tally.number_part.Goals as goal

no-restricted : (c : After-unused-no_restricted) →
    Tallies no_identities (identities_from (drop 25 c.args.words.now)) c.list-after_groups.result c.unused-no_restricted.result
no-restricted c = skipped (uncarried-identities _ (omega (arith, length-drop 25 c.args.words.now, c.requires.0))) c.unused-no_restricted.ensures

no-exceptions : (c : After-unused-no_exceptions) →
    Tallies no_identities (identities_from (drop 50 c.args.words.now)) c.unused-no_restricted.result c.unused-no_exceptions.result
no-exceptions c = skipped (uncarried-identities _ (omega (arith, length-drop 50 c.args.words.now, c.requires.0))) c.unused-no_exceptions.ensures

pub list-after_groups-requires : goal.list-after_groups-requires
unfolding number_part lists_from
list-after_groups-requires c =
    (omega (arith, c.requires.0), uncarried-identity, identities-fit _ Identities (fits-first _ (fits-shape _ _ _ _ c.requires.1)))

-- after the lists of identities
numbers_fit : (c : After-unused-no_exceptions) → let w = c.args.words.now in
    Fits (seq externals (λ x. externals)) (numbers_from (drop 75 w), numbers_from (drop 276 w)) c.unused-no_exceptions.result
unfolding number_part lists_from
numbers_fit c =
    let h = fits_next _ (fits-shape _ _ _ _ c.requires.1) (identities_tallied _ Identities c.list-after_groups.ensures) in
    fits_next _ (fits_next _ h (no-restricted (goal.at.After-unused-no_exceptions c).After-unused-no_restricted)) (no-exceptions c)

pub list-after_numbers-requires : goal.list-after_numbers-requires
list-after_numbers-requires c =
    rw rest-of (
      omega (arith, length-drop 75 c.args.words.now, c.requires.0),
      uncarried-number,
      numbers-fit _ (fits-first _ (numbers_fit (goal.at.list-after_numbers-requires c).After-unused-no_exceptions)),
    )

pub list-requires : goal.list-requires
list-requires c =
    rw rest-of (
      omega (arith, length-drop 276 c.args.words.now, c.requires.0),
      uncarried-number,
      numbers-fit _ (fits_next _ (numbers_fit (goal.at.list-requires c).After-unused-no_exceptions)
          (numbers_tallied _ (rw rest-of at c.list-after_numbers.ensures))),
    )

pub returns : goal.returns
unfolding number_part lists_from
returns c =
    shape _ _ _ _ (then _ (identities_tallied _ Identities c.list-after_groups.ensures)
    (then _ (no-restricted (goal.at.returns c).After-unused-no_restricted)
    (then _ (no-exceptions (goal.at.returns c).After-unused-no_exceptions)
    (then _ (numbers_tallied _ (rw rest-of at c.list-after_numbers.ensures)) (numbers_tallied _ (rw rest-of at c.list.ensures))))))
