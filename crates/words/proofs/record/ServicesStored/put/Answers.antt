-- The count, then the services as they are. Assumes nothing.
use mathlib.Core.Path.{◌≡◌}
use Prim.Native.Nat.{ℕ, ◌+◌, ◌-◌}
use native.Mathlib.Omega.{arith}
use lib.ListN.{length}
use Rattle.grammar.proofs.Arrays.{services-length}
use Rattle.words.specs.Places.{service_places}
use Rattle.words.specs.RecordWords.{services_words}
use Rattle.words.proofs.Putting.{then, part-put}
use Rattle.words.proofs.record.ServicesStored.put.Goals as goal

pub returns : goal.returns
unfolding services_words
returns c =
    let s = c.args.self in
    let first : ℕ = c.put_word-first.result in
    let long : length s.list ≡ service_places = services-length s _ c.well_formed.0 in
    then (omega arith) c.put_word-first.ensures
    (part-put c.put_word-first.new.words s.list c.copy_from_slice.new.self first (first + 7 - first) 7 c.copy_from_slice.ensures.after long (omega arith))
