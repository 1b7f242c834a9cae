-- The lists of a part, or none. Assumes nothing.
use mathlib.Core.Path.{◌≡◌, sym, ap, ◌∙◌}
use native.Mathlib.Omega.{arith}
use borrow.Author.Tests.{ne_eqb}
use Rattle.codec.specs.Reading.{reached}
use Rattle.grammar.proofs.Steps.{no_part-at}
use Rattle.walk.specs.Inner.{pass}
use Rattle.walk.proofs.Lists.{identity-part, number-part}
use Rattle.walk.proofs.exact.Pdu.pass_part.Goals as goal

pub returns-in-1 : goal.returns-in-1
unfolding pass
returns-in-1 c =
    let e : c.args.part ≡ 1 = c.in-1.is in
    rw e (c.pass_lists.ensures ∙ sym (identity-part _ _))

pub returns-in-2 : goal.returns-in-2
unfolding pass
returns-in-2 c =
    let e : c.args.part ≡ 2 = c.in-2.is in
    rw e (c.pass_lists-in-2.ensures ∙ sym (number-part _ _))

pub returns-in_default : goal.returns-in_default
returns-in_default c =
    let part = c.args.part in
    rw (ne_eqb part 1 (λ e. omega arith), ne_eqb part 2 (λ e. omega arith)) (ap reached (sym (no_part-at _ _)))
