-- 9 comes before 7; then each answer of the archive is the definition's own case. Assumes nothing.
use mathlib.Core.Path.{◌≡◌, sym, ap, ◌∙◌}
use Rattle.std.proofs.Common.{rules}
use Rattle.std.proofs.lemmas.Result.{err_from_is_err_and}
use Prim.Native.Nat.{ℕ}
use borrow.Author.Tests.{ne_eqb}
use Rattle.rules.specs.Request.{request_refusal}
use Rattle.archive.specs.Restoring.{fetch_is}
use Rattle.barring.specs.Decide.{key_for, judging_part}
use Rattle.barring.proofs.Decided.{part-fetched, mapped}
use Rattle.barring.proofs.judging_part.Goals.{After-fetch}
use Rattle.barring.proofs.judging_part.Goals as goal

pub returns-then-number-ne0 : goal.returns-then-number-ne0
unfolding judging_part
returns-then-number-ne0 c = rw (← c.request_refusal-number.ensures, ne_eqb _ _ c.if-number-ne0.true)

-- the request is in range
ranged : (c : After-fetch) → request_refusal c.args.request ≡ 0
ranged c = sym c.request_refusal-number.ensures ∙ c.if-number-ne0.false

-- and its part was fetched
fetches : (c : After-fetch) →
    let a = c.args in
    fetch_is a.archive.now (key_for a.request) ≡ c.fetch.result
fetches c =
    let a = c.args in
    sym
    (c.fetch.ensures
    ∙ ap (λ (part : ℕ). fetch_is a.archive.now (record { network = a.request.user.network; ssi = a.request.user.ssi; part = part }))
    c.part_for.ensures)

pub returns-in_err-held : goal.returns-in_err-held
returns-in_err-held c =
    let p = err_from_is_err_and c.from_residual.result c.from_residual.ensures.1 in
    rw (p.1, p.2)
    (part-fetched _ _ (ranged (goal.at.returns-in_err-held c).After-fetch) (fetches (goal.at.returns-in_err-held c).After-fetch ∙ c.in_err-held.was))

pub returns : goal.returns
returns c =
    let f = part-fetched _ _ (ranged (goal.at.returns c).After-fetch) (fetches (goal.at.returns c).After-fetch ∙ c.in_ok-held.was) in
    mapped c.in_ok-held.held (search rules) ∙ f
