-- As many words as a record has, or zeros. Assumes nothing.
use borrow.Author.Tests.{eq-eqb, ne_eqb}
use Rattle.words.specs.RecordWords.{given_figures}
use Rattle.words.proofs.record.figures_from.Goals as goal

pub returns-then-words-ne-RECORD_WORDS : goal.returns-then-words-ne-RECORD_WORDS
unfolding given_figures
returns-then-words-ne-RECORD_WORDS c = rw (ne_eqb _ 520 c.if-words-ne-RECORD_WORDS.true, c.zero_figures.ensures)

pub returns : goal.returns
unfolding given_figures
returns c = rw (eq-eqb _ _ c.if-words-ne-RECORD_WORDS.false, c.nine_from.ensures)
