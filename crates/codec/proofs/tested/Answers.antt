-- What stood before is passed on; then no refusal, or this one. Assumes nothing.
use mathlib.Core.Path.{sym, ap, ◌∙◌}
use Rattle.std.specs.Prelude.{Ok}
use Rattle.codec.specs.Reading.{tested_is}
use Rattle.codec.proofs.Onward.{exit, tested-some}
use Rattle.codec.proofs.tested.Goals as goal

pub returns-in_err-at : goal.returns-in_err-at
unfolding tested_is
returns-in_err-at c = exit c.from_residual.ensures.1 ∙ ap (λ r. tested_is r c.args.read c.args.refusal) (sym c.in_err-at.was)

pub returns-in_err-found : goal.returns-in_err-found
unfolding tested_is
returns-in_err-found c =
    exit c.from_residual-in_err-found.ensures.1
    ∙ sym (λ i. tested_is (c.in_ok-at.was i) (c.in_err-found.was i) c.args.refusal)

pub returns-then-refusal-eq0 : goal.returns-then-refusal-eq0
unfolding tested_is
returns-then-refusal-eq0 c =
    sym (λ i. tested_is (c.in_ok-at.was i) (c.in_ok-found.was i) (c.if-refusal-eq0.true i))

pub returns : goal.returns
returns c =
    tested-some _ _ _ c.if-refusal-eq0.false
    ∙ sym (λ i. tested_is (c.in_ok-at.was i) (c.in_ok-found.was i) c.args.refusal)
