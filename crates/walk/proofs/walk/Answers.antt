-- Refusal 1, or the answer by the walk ahead. Assumes nothing.
use mathlib.Core.Path.{◌≡◌, sym}
use mathlib.Core.Bool.{true}
use Rattle.bits.specs.Frame.{framed}
use Rattle.bits.proofs.Tests.{said-no, said-yes}
use Rattle.walk.proofs.Ending.{not-framed}
use Rattle.walk.proofs.walk.Goals.{Else-not-is_framed}
use Rattle.walk.proofs.walk.Goals as goal

pub returns-then-not-is_framed : goal.returns-then-not-is_framed
returns-then-not-is_framed c = sym (not-framed _ _ (said-no c.is_framed.ensures c.if-not-is_framed.true))

is_framed : (c : Else-not-is_framed) → framed c.args.s.now c.args.n.0 ≡ true
is_framed c = said-yes c.is_framed.ensures c.if-not-is_framed.false

pub sighted-requires : goal.sighted-requires
sighted-requires c =
    (is_framed (goal.at.sighted-requires c).Else-not-is_framed, c.short_ahead.ensures)

pub sighted-requires-2 : goal.sighted-requires-2
sighted-requires-2 c =
    (is_framed (goal.at.sighted-requires-2 c).Else-not-is_framed, c.pdu_ahead.ensures)
