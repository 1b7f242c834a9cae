-- The windows at 0 and at the first user, where there is one. Assumes nothing.
use borrow.Author.Tests.{not-true, not-false}
use mathlib.Core.Path.{ap, ◌∙◌}
use Prim.Native.Nat.{ℕ, ◌/◌, ◌%◌, ◌^◌}
use Rattle.grammar.specs.SiteSheet.{pdu_type}
use Rattle.grammar.specs.Rows.{form_of}
use Rattle.grammar.specs.declared.figures.Form.{Form}
use Rattle.bits.proofs.Windows.{window_lt}
use Rattle.walk.specs.Inner.{head_in}
use Rattle.walk.proofs.head_in.Goals as goal

pub returns-then-not-form : goal.returns-then-not-form
unfolding head_in
returns-then-not-form c =
    let form = c.form_of-form.ensures ∙ ap form_of (c.pdu_type.ensures ∙ ap (λ (x : ℕ). pdu_type (x / 2 ^ 46 % 32)) c.window-first.ensures) in
    rw (← ap (λ (f : Form). f.users) form, not-true c.form_of-form.result.users c.if-not-form.true, c.window-first.ensures)

pub identity_in-user-requires : goal.identity_in-user-requires
identity_in-user-requires c = rw c.window.ensures (window_lt c.args.s.now 15)

pub returns : goal.returns
unfolding head_in
returns c =
    let form = c.form_of-form.ensures ∙ ap form_of (c.pdu_type.ensures ∙ ap (λ (x : ℕ). pdu_type (x / 2 ^ 46 % 32)) c.window-first.ensures) in
    rw (
      ← ap (λ (f : Form). f.users) form,
      not-false c.form_of-form.result.users c.if-not-form.false,
      c.identity_in-user.ensures,
      c.window.ensures,
      c.window-first.ensures,
    )
