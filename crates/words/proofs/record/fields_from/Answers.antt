-- Each part from its place on. Assumes nothing.
use Rattle.words.specs.RecordWords.{word, record_from}
use Rattle.words.proofs.record.fields_from.Goals as goal

pub returns : goal.returns
unfolding record_from
returns c =
    let w = c.args.words.now in
    λ i. record {
      kind = word w 0;
      affected = c.read.ensures i;
      figures = c.nine_from.ensures i;
      services = c.read-2.ensures i;
      lists = c.lists_from.ensures i;
    }
