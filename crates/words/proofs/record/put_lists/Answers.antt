-- Five lists, one after the other. Assumes nothing.
use native.Mathlib.Omega.{arith}
use Rattle.words.specs.RecordWords.{lists_words}
use Rattle.words.proofs.Putting.{then}
use Rattle.words.proofs.record.put_lists.Goals as goal

pub returns : goal.returns
unfolding lists_words
returns c =
    let room = c.requires in
    then (omega arith) c.put-restricted_at.ensures
    (then (omega arith) c.put-exceptions_at.ensures
    (then (omega arith) c.put-numbers_at.ensures
    (then (omega arith) c.put-excepted_at.ensures c.put.ensures)))
