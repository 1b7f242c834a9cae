-- Through the words of the record, which read back as that record. Assumes nothing.
use mathlib.Core.Path.{◌∙◌}
use Prim.Native.Nat.{ℕ}
use lib.ListN.{replicate, length-replicate}
use Rattle.writer.proofs.Writes.{answer_back, out-back, put-spelt}
use Rattle.writer.proofs.Sized.{sized-record}
use Rattle.writer.proofs.write.Goals as goal

pub returns : goal.returns
returns c =
    let sized = sized-record c.args.r _ c.well_formed.0 in
    let spelt = c.put_record.ensures ∙ put-spelt c.args.r (replicate 520 0) (length-replicate {A = ℕ} 520 0) in
    let e = c.write_words.ensures in
    (e.0 ∙ answer_back c.args.r sized spelt c.args.out.now, e.1 ∙ out-back c.args.r sized spelt c.args.out.now)
