-- So many entries, one behind the other. Assumes nothing.
use Rattle.std.proofs.Common.{rules}
use mathlib.Core.Path.{ap, ◌∙◌}
use Rattle.grammar.specs.declared.site.Row.{Row}
use Rattle.walk.specs.Inner.{pass, bits_of}
use Rattle.walk.proofs.Passes.{pass-stays, steps-count}
use Rattle.walk.proofs.exact.Pdu.pass_each.Goals as goal

pub returns : goal.returns
unfolding pass
returns g c =
    let part = g.E.Entry.part in
    let l = bits_of c.args.self in
    c.repeated.ensures (pass part l) (λ at r p. search rules) (pass-stays part l)
    ∙ steps-count _ _ (ap (λ (r : Row). r.entries) c.row_of.ensures)
