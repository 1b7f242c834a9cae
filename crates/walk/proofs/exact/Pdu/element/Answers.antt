-- The number, and its test. Assumes nothing.
use mathlib.Core.Path.{sym, ap, ◌∙◌}
use Rattle.std.specs.Prelude.{Ok}
use Rattle.codec.specs.Reading.{said, tested_is}
use Rattle.codec.proofs.Onward.{exit, goes-on, ends, tested-at, element-at}
use Rattle.walk.proofs.exact.Pdu.element.Goals as goal

pub returns-in_err-read : goal.returns-in_err-read
returns-in_err-read g c refuse says =
    exit c.from_residual.ensures.1 ∙ ap said (sym (element-at _ refuse _ _ ∙ ends _ _ c.in_err-read.ensures))

pub returns : goal.returns
returns g c refuse says =
    let at = c.args.at in
    let read = c.in_ok-read.read in
    c.tested.ensures
    ∙ ap (tested_is (Ok at) (Ok read)) (says _ _ c.refusal.ensures)
    ∙ tested-at at read _
    ∙ ap said (sym (element-at _ refuse _ _ ∙ goes-on _ _ c.in_ok-read.ensures))
