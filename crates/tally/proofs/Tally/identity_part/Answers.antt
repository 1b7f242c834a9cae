-- The three lists of identities; the numbers are not carried. Assumes nothing.
use lib.ListN.{length-drop}
use Rattle.grammar.specs.Grammar.{identity_part}
use Rattle.grammar.specs.declared.site.ListKind.TheVariants.{Identities}
use Rattle.words.specs.RecordWords.{lists_from}
use Rattle.tally.proofs.Parts.{then, shape, fits-first, fits_next, fits-shape}
use Rattle.tally.proofs.Unused.{skipped, uncarried-identity}
use Rattle.tally.proofs.Listed.{identities-fit, identities_tallied}
use Rattle.tally.proofs.Words.{rest-of, numbers-unused}
use native.Mathlib.Omega.{arith}
use Rattle.tally.proofs.Tally.identity_part.Goals as goal

pub list-after_groups-requires : goal.list-after_groups-requires
unfolding identity_part lists_from
list-after_groups-requires c =
    (omega (arith, c.requires.0), uncarried-identity, identities-fit _ Identities (fits-first _ (fits-shape _ _ _ _ c.requires.1)))

pub list-after_restricted-requires : goal.list-after_restricted-requires
unfolding identity_part lists_from
list-after_restricted-requires c =
    let groups = identities_tallied _ Identities c.list-after_groups.ensures in
    rw rest-of (
      omega (arith, length-drop 25 c.args.words.now, c.requires.0),
      uncarried-identity,
      identities-fit _ Identities (fits-first _ (fits_next _ (fits-shape _ _ _ _ c.requires.1) groups)),
    )

pub list-after_exceptions-requires : goal.list-after_exceptions-requires
unfolding identity_part lists_from
list-after_exceptions-requires c =
    let groups = identities_tallied _ Identities c.list-after_groups.ensures in
    let restricted = identities_tallied _ Identities (rw rest-of at c.list-after_restricted.ensures) in
    rw rest-of (
      omega (arith, length-drop 50 c.args.words.now, c.requires.0),
      uncarried-identity,
      identities-fit _ Identities (fits-first _ (fits_next _ (fits_next _ (fits-shape _ _ _ _ c.requires.1) groups) restricted)),
    )

pub returns : goal.returns
unfolding identity_part lists_from
returns c =
    let none = skipped (numbers-unused c.args.words.now c.requires.0) c.unused.ensures in
    shape _ _ _ _ (then _ (identities_tallied _ Identities c.list-after_groups.ensures)
    (then _ (identities_tallied _ Identities (rw rest-of at c.list-after_restricted.ensures))
    (then _ (identities_tallied _ Identities (rw rest-of at c.list-after_exceptions.ensures)) none)))
