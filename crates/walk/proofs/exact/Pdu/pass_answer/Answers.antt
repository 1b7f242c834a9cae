-- Interrogation result and delivery status, one behind the other. Assumes nothing.
use Rattle.std.proofs.Common.{rules}
use mathlib.Core.Path.{sym, ap, ◌∙◌}
use Rattle.codec.specs.Reading.{said}
use Rattle.codec.proofs.Onward.{exit, goes-on, ends}
use Rattle.grammar.specs.SiteSheet.{result_refusal}
use Rattle.grammar.specs.Rows.{part_in}
use Rattle.walk.specs.Inner.{steered_from}
use Rattle.walk.proofs.Results.{answer_at}
use Rattle.walk.proofs.exact.Pdu.pass_answer.Goals as goal

pub returns-in_err-answer : goal.returns-in_err-answer
unfolding steered_from part_in
returns-in_err-answer c =
    exit c.from_residual.ensures.1
    ∙ ap said (sym (answer_at _ _ ∙ ends _ _ (c.in_err-answer.ensures result_refusal (λ v k p. search rules))))

pub returns-in_err-end : goal.returns-in_err-end
unfolding steered_from part_in
returns-in_err-end c =
    exit c.from_residual-in_err-end.ensures.1
    ∙ ap said (sym (answer_at _ _ ∙ goes-on _ _ (c.in_ok-answer.ensures result_refusal (λ v k p. search rules))
    ∙ ends _ _ c.in_err-end.ensures))

pub returns : goal.returns
unfolding steered_from part_in
returns c =
    ap said (sym (answer_at _ _ ∙ goes-on _ _ (c.in_ok-answer.ensures result_refusal (λ v k p. search rules))
    ∙ goes-on _ _ c.in_ok-end.ensures))
