-- A code and entries. Assumes nothing.
use Rattle.words.specs.RecordWords.{identities_from}
use Rattle.words.proofs.record.IdentitiesStored.read.Goals as goal

pub returns : goal.returns
unfolding identities_from
returns c = λ i. record { code = (c.list_from-code.ensures i).0; entries = (c.list_from-code.ensures i).1 }
