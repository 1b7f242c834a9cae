-- The code, then the entries. Assumes nothing.
use mathlib.Core.Path.{◌≡◌}
use native.Mathlib.Omega.{arith}
use lib.ListN.{length}
use Rattle.std.proofs.Common.{rules}
use Rattle.words.specs.Places.{list_places}
use Rattle.words.proofs.Putting.{then}
use Rattle.words.proofs.entries.put_list.Goals as goal

pub returns : goal.returns
returns g c =
    let long : length c.args.entries.now ≡ list_places = search rules in
    then (omega arith) c.put_word-first.ensures (rw long at c.put_each.ensures)
