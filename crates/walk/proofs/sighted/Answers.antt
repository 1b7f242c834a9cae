-- The head, where the walk ahead ends with the PDU; or the exact walk's answer. Assumes nothing.
use mathlib.Core.Path.{sym, ap, ◌∙◌}
use native.Mathlib.Omega.{arith}
use Rattle.std.specs.Prelude.{Ok}
use Rattle.bits.proofs.Frames.{framed-says, length-bits_in}
use Rattle.walk.proofs.Ending.{accepted}
use Rattle.walk.proofs.sighted.Goals as goal

pub returns-then-seen-n : goal.returns-then-seen-n
returns-then-seen-n c =
    let a = c.args in
    let says = framed-says a.s.now a.n.0 c.requires.0 in
    ap Ok c.head_in.ensures
    ∙ sym (accepted _ _ c.requires.0 (c.requires.1.there a.n.0 says.short
    (omega (arith, length-bits_in a.s.now a.n.0 says, c.if-seen-n.true))) c.if-seen-n.true)
