-- Three words. Assumes nothing.
use Rattle.words.specs.RecordWords.{identity_words}
use Rattle.words.proofs.record.IdentityStored.put.Goals as goal

pub returns : goal.returns
unfolding identity_words
returns c = c.put_three.ensures
