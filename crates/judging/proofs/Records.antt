-- What judging says of the record that reading gives. Assumes nothing.
use mathlib.Core.Path.{◌≡◌, refl}
use Rattle.std.specs.Prelude.{Some, None}
use Rattle.bits.specs.Bits.{pick}
use Rattle.grammar.specs.Grammar.{user_of}
use Rattle.grammar.specs.declared.record.Record.{Record}
use Rattle.walk.specs.Walk.{head_of}
use Rattle.judging.specs.Judge.{may_hold, judged_is}

pub judged-record : (r : Record) → judged_is (head_of r) ≡ pick (may_hold r) (Some (user_of r, r.figures.result)) None
unfolding judged_is
judged-record r = refl
