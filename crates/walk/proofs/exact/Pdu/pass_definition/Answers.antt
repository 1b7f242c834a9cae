-- Delivery, acknowledgement and definition type, each behind the one before it. Assumes nothing.
use Rattle.std.proofs.Common.{rules}
use mathlib.Core.Path.{sym, ap, ◌∙◌}
use Rattle.codec.specs.Reading.{said}
use Rattle.codec.proofs.Onward.{exit, goes-on, ends}
use Rattle.grammar.specs.SiteSheet.{acknowledgement_refusal}
use Rattle.walk.proofs.Results.{definition-at}
use Rattle.walk.proofs.exact.Pdu.pass_definition.Goals as goal

pub returns-in_err-delivery : goal.returns-in_err-delivery
returns-in_err-delivery c =
    exit c.from_residual.ensures.1 ∙ ap said (sym (definition-at _ _ _ ∙ ends _ _ c.in_err-delivery.ensures))

pub returns-in_err-kind : goal.returns-in_err-kind
returns-in_err-kind c =
    let asked = acknowledgement_refusal c.in_ok-delivery.delivery in
    exit c.from_residual-in_err-kind.ensures.1
    ∙ ap said (sym (definition-at _ _ _ ∙ goes-on _ _ c.in_ok-delivery.ensures
    ∙ ends _ _ (c.in_err-kind.ensures asked (λ v k p. search rules))))

pub returns : goal.returns
returns c =
    let asked = acknowledgement_refusal c.in_ok-delivery.delivery in
    c.pass_defined.ensures
    ∙ ap said (sym (definition-at _ _ _ ∙ goes-on _ _ c.in_ok-delivery.ensures
    ∙ goes-on _ _ (c.in_ok-kind.ensures asked (λ v k p. search rules))))
