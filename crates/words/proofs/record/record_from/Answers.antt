-- As many words as a record has, or none. Assumes nothing.
use borrow.Author.Tests.{eq-eqb, ne_eqb}
use Rattle.words.specs.RecordWords.{given_record}
use Rattle.words.proofs.record.record_from.Goals as goal

pub returns-then-words-ne-RECORD_WORDS : goal.returns-then-words-ne-RECORD_WORDS
unfolding given_record
returns-then-words-ne-RECORD_WORDS c = rw (ne_eqb _ 520 c.if-words-ne-RECORD_WORDS.true)

pub returns : goal.returns
unfolding given_record
returns c = rw (eq-eqb _ _ c.if-words-ne-RECORD_WORDS.false, c.fields_from.ensures)
