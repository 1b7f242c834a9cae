-- The check's refusal; none beyond the last; or the entry read at its place. Assumes nothing.
use Rattle.std.specs.Prelude.{Ok, Err}
use Rattle.std.proofs.lemmas.Result.{err_from_is_err_and}
use mathlib.Core.Path.{sym, ap, ◌∙◌}
use native.Mathlib.Omega.{arith}
use Rattle.archive.specs.declared.contents.Entry as contents
use Rattle.archive.specs.declared.refusal.Refusal.{Refusal}
use Rattle.archive.proofs.Calls.Entry.{no-archive, entry_read, no-entry}
use Rattle.archive.proofs.entry.Goals as goal

pub returns-in_err-archive : goal.returns-in_err-archive
returns-in_err-archive c =
    let p = err_from_is_err_and c.from_residual.result c.from_residual.ensures.1 in
    rw (p.1, p.2) (sym (no-archive _ _ c.in_err-archive.ensures.refused))

pub returns-then-count-index : goal.returns-then-count-index
returns-then-count-index c =
    rw (← c.in_ok-archive.ensures.same)
    (ap (λ (f : Refusal). Err f) c.plain.ensures
    ∙ sym (no-entry _ _ c.in_ok-archive.archive.passed (omega (arith, c.count.ensures.0, c.if-count-index.true))))

pub entry-requires : goal.entry-requires
entry-requires c = omega (arith, c.count.ensures.0, c.if-count-index.false)

pub returns : goal.returns
returns c =
    rw (← c.in_ok-archive.ensures.same)
    (ap (λ (e : contents.Entry). Ok e) c.entry.ensures.0
    ∙ sym (entry_read _ _ c.in_ok-archive.archive.passed (omega (arith, c.count.ensures.0, c.if-count-index.false))))
