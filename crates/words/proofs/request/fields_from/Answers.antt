-- Each part from its words. Assumes nothing.
use Rattle.words.specs.Places.{service_at}
use Rattle.words.specs.RecordWords.{word}
use Rattle.words.specs.RequestWords.{user_from, request_from}
use Rattle.words.proofs.request.fields_from.Goals as goal

pub returns : goal.returns
unfolding request_from
returns c =
    let w = c.args.words.now in
    λ i. record {
      user = user_from w 0;
      service = word w service_at;
      destination = c.destination_from.ensures i;
      digits = c.digits_from.ensures i;
      group = c.group_from.ensures i;
    }
