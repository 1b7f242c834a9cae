use Rattle.std.proofs.Common.{length}
use Rattle.trials.proofs.last.Last.write.Given as goal

abbrev pub decreases-loop-words : goal.decreases-loop-words
decreases-loop-words g l = length l.words.rest.now
