-- The range type, as many entries as it says, and the test of them. Assumes nothing.
use mathlib.Core.Path.{ap}
use native.Mathlib.Omega.{arith}
use lib.ListN.{length-drop}
use Rattle.codec.specs.Places.{places}
use Rattle.grammar.specs.SiteSheet.{range_refusal}
use Rattle.grammar.proofs.Codes.{entries_of_le}
use Rattle.words.specs.RecordWords.{word}
use Rattle.tally.proofs.Parts.{refusing, then, test, fits-element, fits-first, fits_next, fits-test, tallies_as, fits_as}
use Rattle.tally.proofs.Words.{rest-of}
use Rattle.tally.proofs.Tally.list.Goals as goal

pub element-after_code-requires : goal.element-after_code-requires
element-after_code-requires g c = (omega arith, fits-element 4 (range_refusal c.args.list) (fits-first _ c.requires.2))

pub eight_entries-after_entries-requires : goal.eight_entries-after_entries-requires
eight_entries-after_entries-requires g c =
    let e = refusing 4 (range_refusal c.args.list) c.element-after_code.ensures c.range_refusal.ensures in
    let w = c.args.words.now in
    rw rest-of (
      omega (arith, length-drop 1 w, c.requires.0),
      omega (arith, c.entries_of.ensures, entries_of_le (word w 0)),
      c.requires.1,
      fits_as (ap (places g.E.Counted.used g.E.Counted.unused 8) c.entries_of.ensures) (fits-test _ _ (fits_next _ c.requires.2 e)),
    )

pub returns : goal.returns
returns g c =
    let e = refusing 4 (range_refusal c.args.list) c.element-after_code.ensures c.range_refusal.ensures in
    let l = tallies_as (ap (places g.E.Counted.used g.E.Counted.unused 8) c.entries_of.ensures)
    (rw rest-of at c.eight_entries-after_entries.ensures) in
    then _ e (test _ _ l (rw rest-of at c.ends.ensures) c.first_refusal.ensures)
