-- The number of services, then the services, each with its test. Assumes nothing.
use mathlib.Core.Path.{sym, ◌∙◌, refl}
use native.Mathlib.Omega.{arith}
use borrow.Author.Tests.{eq-eqb, ne_eqb}
use Rattle.bits.proofs.Tests.{said-yes, said-no}
use Rattle.walk.specs.Inner.{services_in}
use Rattle.walk.proofs.ahead.services_in.Goals as goal

pub returns-then-between_refusal-ne0 : goal.returns-then-between_refusal-ne0
unfolding services_in
returns-then-between_refusal-ne0 c = rw (ne_eqb _ _ (λ h. c.if-between_refusal-ne0.true (c.between_refusal.ensures ∙ h))) (refl, omega arith)

pub returns-then-not-are_services : goal.returns-then-not-are_services
unfolding services_in
returns-then-not-are_services c =
    rw (eq-eqb _ _ (sym c.between_refusal.ensures ∙ c.if-between_refusal-ne0.false), said-no c.are_services.ensures c.if-not-are_services.true) (refl, omega arith)

pub returns : goal.returns
unfolding services_in
returns c =
    rw (eq-eqb _ _ (sym c.between_refusal.ensures ∙ c.if-between_refusal-ne0.false), said-yes c.are_services.ensures c.if-not-are_services.false) (refl, omega arith)
