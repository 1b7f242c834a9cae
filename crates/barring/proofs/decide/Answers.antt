-- The part that judges is read; if it is not held, that is the answer. Assumes nothing.
use mathlib.Core.Path.{◌≡◌, sym, ap, ◌∙◌}
use Rattle.std.proofs.Common.{Ok}
use Rattle.std.proofs.lemmas.Result.{err_from_is_err_and}
use Rattle.barring.specs.Decision.{decision_of}
use Rattle.barring.specs.Decide.{judging_part}
use Rattle.barring.proofs.Decided.{decided, body-within, body-accepted, decide-body, part_at, part-missing, part-refused}
use Rattle.barring.proofs.decide.Goals.{After-judging_part}
use Rattle.barring.proofs.decide.Goals as goal

judged : (c : After-judging_part) → let a = c.args in judging_part a.archive.now a.request ≡ c.judging_part.result
judged c = sym c.judging_part.ensures

pub returns-in_err-part : goal.returns-in_err-part
returns-in_err-part c =
    let p = err_from_is_err_and c.from_residual.result c.from_residual.ensures.1 in
    rw (p.1, p.2) (part-refused _ _ (judged (goal.at.returns-in_err-part c).After-judging_part ∙ c.in_err-part.was))

pub ruling_of_body-requires : goal.ruling_of_body-requires
ruling_of_body-requires c =
    let p = part_at _ _ (judged (goal.at.ruling_of_body-requires c).After-judging_part ∙ c.in_ok-part.was ∙ ap (λ x. Ok x) c.in-Some.is) in
    record { within = body-within _ _ p.0 _ _ p.2; accepted = body-accepted _ _ p.0 _ _ p.2 }

pub returns-in-Some : goal.returns-in-Some
returns-in-Some c =
    let p = part_at _ _ (judged (goal.at.returns-in-Some c).After-judging_part ∙ c.in_ok-part.was ∙ ap (λ x. Ok x) c.in-Some.is) in
    ap decided (c.from.ensures ∙ ap decision_of c.ruling_of_body.ensures) ∙ decide-body _ _ p.0 _ _ p.2

pub returns-in-None : goal.returns-in-None
returns-in-None c = part-missing _ _ (judged (goal.at.returns-in-None c).After-judging_part ∙ c.in_ok-part.was ∙ ap (λ x. Ok x) c.in-None.is)
