-- Three lists, one behind the other. Assumes nothing.
use mathlib.Core.Path.{ap, ◌∙◌}
use Rattle.codec.proofs.Onward.{exit}
use Rattle.walk.specs.Inner.{pass, bits_of, listed, lists}
use Rattle.walk.proofs.exact.Pdu.pass_lists.Goals as goal

pub returns-in_err-second : goal.returns-in_err-second
unfolding pass lists
returns-in_err-second g c =
    let list = pass (listed g.E.Listed.LIST g.E.Listed.entries) (bits_of c.args.self) in
    exit c.from_residual.ensures.1 ∙ ap (λ r. list (list r)) c.in_err-second.ensures

pub returns-in_err-third : goal.returns-in_err-third
unfolding pass lists
returns-in_err-third g c =
    let list = pass (listed g.E.Listed.LIST g.E.Listed.entries) (bits_of c.args.self) in
    exit c.from_residual-in_err-third.ensures.1 ∙ ap list (rw c.LIST.ensures at c.in_err-third.ensures ∙ ap list c.in_ok-second.ensures)

pub returns : goal.returns
unfolding pass lists
returns g c =
    let list = pass (listed g.E.Listed.LIST g.E.Listed.entries) (bits_of c.args.self) in
    rw c.LIST-2.ensures at c.pass_list-3.ensures
    ∙ ap list (rw c.LIST.ensures at c.in_ok-third.ensures ∙ ap list c.in_ok-second.ensures)
