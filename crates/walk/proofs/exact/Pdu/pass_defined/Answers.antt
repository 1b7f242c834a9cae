-- One element, and what it steers. Assumes nothing.
use Rattle.std.proofs.Common.{rules}
use mathlib.Core.Path.{sym, ap, ◌∙◌}
use Prim.Native.Nat.{ℕ}
use Rattle.codec.specs.Reading.{Found, got, said}
use Rattle.codec.proofs.Onward.{exit, goes-on, ends}
use Rattle.grammar.specs.SiteSheet.{definition_refusal}
use Rattle.walk.specs.Inner.{defined_by}
use Rattle.walk.specs.declared.exact.Steering.{Steering}
use Rattle.walk.proofs.exact.Pdu.pass_defined.Goals as goal

pub returns-in_err-definition : goal.returns-in_err-definition
unfolding defined_by
returns-in_err-definition c =
    exit c.from_residual.ensures.1 ∙ ap said (sym (ends _ _ (c.in_err-definition.ensures definition_refusal (λ v k p. search rules))))

pub returns : goal.returns
unfolding defined_by
returns c =
    ap said (ap {B = Found Steering} (λ (part : ℕ). got (record { result = 0; part = part }) c.in_ok-definition.end.at) c.defined_part.ensures
    ∙ sym (goes-on _ _ (c.in_ok-definition.ensures definition_refusal (λ v k p. search rules))))
