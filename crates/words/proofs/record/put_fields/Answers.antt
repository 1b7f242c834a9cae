-- Seven parts, one after the other, and together as long as the slice. Assumes nothing.
use native.Mathlib.Omega.{arith}
use Rattle.words.specs.RecordWords.{record_words}
use Rattle.words.proofs.Putting.{then, put_whole}
use Rattle.words.proofs.record.put_fields.Goals as goal

pub returns : goal.returns
unfolding record_words
returns c =
    put_whole c.requires
    (then (omega arith) c.put_word-affected_at.ensures
    (then (omega arith) c.put-asked_at.ensures
    (then (omega arith) c.put_three-services_at.ensures
    (then (omega arith) c.put-lists_at.ensures
    (then (omega arith) c.put_lists-delivery_at.ensures
    (then (omega arith) c.put_three-defined_at.ensures c.put_three.ensures))))))
