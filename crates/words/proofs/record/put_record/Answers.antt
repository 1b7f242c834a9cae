-- As many words as a record has are all put; any other number of them stays. Assumes nothing.
use borrow.Author.Tests.{eq-eqb, ne_eqb}
use Rattle.words.specs.RecordWords.{put_record}
use Rattle.words.proofs.record.put_record.Goals as goal

pub returns-then-words-eq-RECORD_WORDS : goal.returns-then-words-eq-RECORD_WORDS
unfolding put_record
returns-then-words-eq-RECORD_WORDS c = rw (eq-eqb _ 520 c.if-words-eq-RECORD_WORDS.true) c.put_fields.ensures

pub returns-else-words-eq-RECORD_WORDS : goal.returns-else-words-eq-RECORD_WORDS
unfolding put_record
returns-else-words-eq-RECORD_WORDS c = rw (ne_eqb _ _ c.if-words-eq-RECORD_WORDS.false)
