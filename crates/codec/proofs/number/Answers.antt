-- The cursor's answer is the codec's; a refusal is passed on. Assumes nothing.
use mathlib.Core.Path.{sym, ap, ◌∙◌}
use Rattle.std.specs.Option.{ok_or}
use Rattle.codec.specs.Reading.{said, resume, element_of}
use Rattle.codec.proofs.Onward.{exit}
use Rattle.codec.proofs.Reading.{said-taken, element_of-taken}
use Rattle.codec.proofs.number.Goals as goal

pub returns-in_err-at : goal.returns-in_err-at
unfolding resume
returns-in_err-at c =
    let a = c.args in
    exit c.from_residual.ensures.1 ∙ ap (λ r. said (resume r (element_of a.s.now a.n.0 a.width))) (sym c.in_err-at.was)

pub returns : goal.returns
unfolding resume
returns c =
    let a = c.args in
    let at = c.in_ok-at.at in
    c.ok_or.ensures.value
    ∙ ap (λ o. ok_or o (record { number = 2; at = at.at })) c.take.ensures
    ∙ said-taken at _
    ∙ ap said (sym (element_of-taken a.s.now a.n.0 a.width at.at))
    ∙ ap (λ r. said (resume r (element_of a.s.now a.n.0 a.width))) (sym c.in_ok-at.was)
