-- A code and entries. Assumes nothing.
use Rattle.words.specs.RecordWords.{identities_words}
use Rattle.words.proofs.record.IdentitiesStored.put.Goals as goal

pub returns : goal.returns
unfolding identities_words
returns c = c.put_list.ensures
