-- The length, and as many digits. Assumes nothing.
use Rattle.grammar.specs.SiteSheet.{length_refusal}
use Rattle.grammar.specs.Grammar.{external}
use Rattle.words.specs.RecordWords.{number_from}
use lib.ListN.{length-drop}
use Rattle.tally.proofs.Parts.{then, shape, fits-element, fits-first, fits_next, fits-shape}
use Rattle.tally.proofs.Narrow.{length-narrowed}
use Rattle.tally.proofs.Words.{rest-of}
use native.Mathlib.Omega.{arith}
use Rattle.tally.proofs.numbers.NumberCounted.tally.Goals as goal

pub element-after_length-requires : goal.element-after_length-requires
unfolding external number_from
element-after_length-requires c = (omega arith, fits-element 5 length_refusal (fits-first _ (fits-shape _ _ _ _ c.requires.1)))

pub digits-requires : goal.digits-requires
unfolding external number_from
digits-requires c =
    let e = length-narrowed c.element-after_length.ensures c.between_refusal.ensures in
    rw rest-of (omega (arith, length-drop 1 c.args.words.now, c.requires.0), fits_next _ (fits-shape _ _ _ _ c.requires.1) e)

pub returns : goal.returns
unfolding external number_from
returns c =
    let e = length-narrowed c.element-after_length.ensures c.between_refusal.ensures in
    shape _ _ _ _ (then _ e (rw rest-of at c.digits.ensures))
