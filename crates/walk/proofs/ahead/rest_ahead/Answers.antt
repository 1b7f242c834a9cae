-- One window up to the lists, and the lists. Assumes nothing.
use borrow.Author.Tests.{not-true, not-false}
use mathlib.Core.Path.{sym, ap, ◌∙◌, subst}
use Prim.Native.Nat.{ℕ, ◌+◌, ◌-◌, ◌/◌, ◌%◌, ◌^◌, ◌≤◌}
use native.Mathlib.Omega.{arith}
use Rattle.bits.specs.Element.{window_at}
use Rattle.grammar.specs.Grammar.{part_of}
use Rattle.grammar.specs.Rows.{figures_in}
use Rattle.grammar.specs.declared.figures.Form.{Form}
use Rattle.grammar.proofs.Rows.{narrow}
use Rattle.walk.specs.Inner.{pass, services_in, Ends}
use Rattle.walk.proofs.Aheads.{found-off}
use Rattle.walk.proofs.Following.{figures_find, listed_find}
use Rattle.walk.proofs.ahead.rest_ahead.Goals.{Start}
use Rattle.walk.proofs.ahead.rest_ahead.Goals as goal

-- figures have at most five bits
few : (c : Start) → c.args.form.width ≤ 5
few c = subst (λ (f : Form). f.width ≤ 5) (sym c.requires.1) (narrow c.args.kind)

pub returns-then-figures_refusal-ne0 : goal.returns-then-figures_refusal-ne0
returns-then-figures_refusal-ne0 c = rw c.beyond.ensures (found-off _ _ _ 0)

pub overflow_add-result : goal.overflow_add-result
overflow_add-result c = omega (arith, few (goal.at.overflow_add-result c).Start)

pub returns-then-not-form : goal.returns-then-not-form
returns-then-not-form c =
    let form = c.requires.1 in
    rw form (figures_find c.args.kind _ c.args.start (c.figures_in-f.ensures ∙ ap (figures_in c.args.kind) c.window-window.ensures)
    (sym c.figures_refusal.ensures ∙ c.if-figures_refusal-ne0.false) (sym (ap (λ (f : Form). f.services) form) ∙ not-true _ c.if-not-form.true))

pub overflow_sub-width : goal.overflow_sub-width
overflow_sub-width c = omega (arith, few (goal.at.overflow_sub-width c).Start)

pub returns-then-services_width-eq0 : goal.returns-then-services_width-eq0
returns-then-services_width-eq0 c = rw c.beyond-then-services_width-eq0.ensures (found-off _ _ _ 0)

pub overflow_add-lists : goal.overflow_add-lists
overflow_add-lists c = omega (arith, few (goal.at.overflow_add-lists c).Start)

pub overflow_add-lists-2 : goal.overflow_add-lists-2
overflow_add-lists-2 c = omega (arith, few (goal.at.overflow_add-lists-2 c).Start, c.services_in-services_width.ensures.1)

pub part_ahead-requires : goal.part_ahead-requires
part_ahead-requires c = omega (arith, few (goal.at.part_ahead-requires c).Start, c.services_in-services_width.ensures.1)

pub returns : goal.returns
returns c =
    let form = c.requires.1 in
    let width = ap (λ (f : Form). f.width) form in
    let kind = c.args.kind in
    let s = c.args.s.now in
    listed_find kind s c.args.start (c.figures_in-f.ensures ∙ ap (figures_in kind) c.window-window.ensures)
    (sym c.figures_refusal.ensures ∙ c.if-figures_refusal-ne0.false) (sym (ap (λ (f : Form). f.services) form) ∙ not-false _ c.if-not-form.false)
    (c.services_in-services_width.ensures.0 ∙ ap (λ (x : ℕ). services_in (x / 2 ^ (33 - c.args.form.width) % 2 ^ 24)) c.window-window.ensures
    ∙ ap (λ (k : ℕ). services_in (window_at s c.args.start / 2 ^ (33 - k) % 2 ^ 24)) width)
    c.if-services_width-eq0.false c.part_in.ensures
    (subst (λ (k : ℕ). Ends (pass (part_of c.part_in.result)) s (c.args.start + k + c.services_in-services_width.result) _ c.part_ahead.result) width
    c.part_ahead.ensures)
