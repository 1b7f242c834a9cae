-- One store. Assumes nothing.
use Rattle.words.proofs.Putting.{word-put}
use Rattle.words.proofs.record.put_word.Goals as goal

pub returns : goal.returns
returns c = word-put c.args.words.now c.args.at c.args.word c.requires
