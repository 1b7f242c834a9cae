-- A code and entries. Assumes nothing.
use Rattle.words.specs.RecordWords.{numbers_words}
use Rattle.words.proofs.record.NumbersStored.put.Goals as goal

pub returns : goal.returns
unfolding numbers_words
returns c = c.put_list.ensures
