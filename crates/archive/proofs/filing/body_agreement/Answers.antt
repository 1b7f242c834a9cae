-- The walk's refusal, or whether the accepted PDU is filed under the entry. Assumes nothing.
use Rattle.std.proofs.Common.{rules}
use Rattle.std.specs.Prelude.{Ok, Err, None}
use Rattle.std.proofs.lemmas.Result.{err_from_is_err_and}
use mathlib.Core.Path.{◌≡◌, sym, ap, ◌∙◌}
use mathlib.Core.Bool.{Bool}
use Rattle.bits.specs.Bits.{pick}
use Rattle.walk.specs.Walk.{walk_is}
use Rattle.walk.specs.declared.Refusal as pdu
use Rattle.archive.specs.Inner.{agreement_is}
use Rattle.archive.proofs.Mapped.{refused_as, map_err-is, ok-was, err-was}
use Rattle.archive.proofs.Model.Checked.{agreement-refused, agreement-filed}
use Rattle.archive.proofs.filing.body_agreement.Goals.{After-map_err, After-is_filed_under}
use Rattle.archive.proofs.filing.body_agreement.Goals as goal

-- the walk's answer, with the place alone of a refusal
walked : (c : After-map_err) → c.map_err.result ≡ refused_as (λ (f : pdu.Refusal). f.place) (walk_is c.args.body.now c.args.entry.bits.0)
walked c =
    map_err-is (λ (f : pdu.Refusal). f.place) _ (λ e f p. search rules) c.walk.result c.map_err.ensures.cases
    ∙ ap (refused_as (λ (f : pdu.Refusal). f.place)) c.walk.ensures

pub returns-in_err-head : goal.returns-in_err-head
returns-in_err-head c =
    let p = err_from_is_err_and c.from_residual.result c.from_residual.ensures.1 in
    let w = err-was (λ (f : pdu.Refusal). f.place) _ (sym (walked (goal.at.returns-in_err-head c).After-map_err) ∙ c.in_err-head.was) in
    rw (p.1, p.2, ← w.2) (sym (agreement-refused _ _ w.1))

-- by the filing
filed : (c : After-is_filed_under) →
    let a = c.args in
    agreement_is a.home (record { entry = a.entry; body = a.body.now }) ≡ pick c.is_filed_under.result (Ok tt) (Err None)
filed c =
    agreement-filed _ _ (ok-was (λ (f : pdu.Refusal). f.place) _ (sym (walked (goal.at.After-is_filed_under c).After-map_err) ∙ c.in_ok-head.was))
    ∙ ap (λ (t : Bool). pick t (Ok tt) (Err None)) (sym c.is_filed_under.ensures)

pub returns-then-is_filed_under : goal.returns-then-is_filed_under
returns-then-is_filed_under c = sym (filed (goal.at.returns-then-is_filed_under c).After-is_filed_under ∙ rw c.if-is_filed_under.true)

pub returns : goal.returns
returns c = sym (filed (goal.at.returns c).After-is_filed_under ∙ rw c.if-is_filed_under.false)
