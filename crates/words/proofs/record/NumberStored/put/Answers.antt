-- The length, then the digits. Assumes nothing.
use mathlib.Core.Path.{◌≡◌}
use native.Mathlib.Omega.{arith}
use lib.ListN.{length}
use Rattle.grammar.proofs.Arrays.{digits-length}
use Rattle.words.specs.Places.{digit_places}
use Rattle.words.specs.RecordWords.{number_words}
use Rattle.words.proofs.Putting.{then, in_turn_words}
use Rattle.words.proofs.record.NumberStored.put.Goals as goal

pub returns : goal.returns
unfolding number_words
returns c =
    let long : length c.args.self.digits ≡ digit_places = digits-length c.args.self _ c.well_formed.0 in
    then (omega arith) c.put_word-first.ensures (rw (in_turn_words, long) at c.put_each.ensures)
