-- What judging says of the head is what is filed. Assumes nothing.
use mathlib.Core.Path.{sym, ◌∙◌}
use Rattle.archive.proofs.Model.Bodies.{filing-other, filing-part}
use Rattle.archive.proofs.filing.filing_of.Goals as goal

pub returns-in_err-user : goal.returns-in_err-user
returns-in_err-user c =
    c.from_residual.ensures ∙ sym (filing-other _ _ (sym c.judge.ensures ∙ c.in_err-user.was))

pub returns : goal.returns
returns c =
    sym (filing-part _ _ (sym c.judge.ensures ∙ c.in_ok-user.was) c.network_of.ensures)
