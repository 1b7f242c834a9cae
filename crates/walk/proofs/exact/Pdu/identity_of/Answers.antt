-- SSI, present bit, and the extension exactly if that is 1. Assumes nothing.
use mathlib.Core.Path.{◌≡◌, refl, sym, ap, ◌∙◌}
use mathlib.Core.Bool.{Bool}
use mathlib.Core.List.{List}
use Prim.Native.Nat.{ℕ}
use borrow.Author.Tests.{ne_eqb}
use Rattle.codec.specs.Reading.{Found, got, and_next, read_at, said}
use Rattle.codec.proofs.Reading.{read_at-absent}
use Rattle.codec.proofs.Onward.{exit, goes-on, ends}
use Rattle.grammar.specs.Grammar.{extension, identity}
use Rattle.grammar.specs.declared.record.Identity.{Identity}
use Rattle.grammar.proofs.Steps.{identity-at}
use Rattle.walk.specs.Inner.{bits_of}
use Rattle.walk.proofs.exact.Pdu.identity_of.Goals.{In_ok-present}
use Rattle.walk.proofs.exact.Pdu.identity_of.Goals as goal

pub returns-in_err-ssi : goal.returns-in_err-ssi
returns-in_err-ssi c = exit c.from_residual.ensures.1 ∙ ap said (sym (identity-at _ _ ∙ ends _ _ c.in_err-ssi.ensures))

pub returns-in_err-present : goal.returns-in_err-present
returns-in_err-present c =
    exit c.from_residual-in_err-present.ensures.1
    ∙ ap said (sym (identity-at _ _ ∙ goes-on _ _ c.in_ok-ssi.ensures ∙ ends _ _ c.in_err-present.ensures))

-- what is left to read after the present bit
after-present : (c : In_ok-present) →
    {present : ℕ} → c.in_ok-present.present ≡ present →
    let l = bits_of c.args.self in
    read_at identity l c.args.at.at ≡ and_next {B = Identity} (read_at (extension present) l c.in_ok-present.behind.at) (λ ext p.
    got (record { ssi = c.in_ok-ssi.ssi; present = present; extension = ext }) p)
after-present c e =
    identity-at _ _ ∙ goes-on _ _ c.in_ok-ssi.ensures ∙ goes-on _ _ c.in_ok-present.ensures
    ∙ ap {B = Found Identity} (λ (x : ℕ). and_next (read_at (extension x) (bits_of c.args.self) c.in_ok-present.behind.at) (λ ext p.
    got (record { ssi = c.in_ok-ssi.ssi; present = x; extension = ext }) p)) e

pub returns-in_err-extension : goal.returns-in_err-extension
unfolding extension
returns-in_err-extension c =
    let e : c.in_ok-present.present ≡ 1 = c.if-present-eq1.true in
    exit c.from_residual-in_err-extension.ensures.1
    ∙ ap said (sym (after-present (goal.at.returns-in_err-extension c).In_ok-present e ∙ ends _ _ c.in_err-extension.ensures))

pub returns-then-present-eq1 : goal.returns-then-present-eq1
unfolding extension
returns-then-present-eq1 c =
    let e : c.in_ok-present.present ≡ 1 = c.if-present-eq1.true in
    ap said (sym (after-present (goal.at.returns-then-present-eq1 c).In_ok-present e ∙ goes-on _ _ c.in_ok-extension.ensures))

no-extension : (l : List Bool) (at : ℕ) {present : ℕ} → (present ≡ 1 → ⊥) → read_at (extension present) l at ≡ got 0 at
unfolding extension
no-extension l at {present} h = rw (ne_eqb present 1 h) (read_at-absent l at)

pub returns : goal.returns
returns c =
    ap said (sym (after-present (goal.at.returns c).In_ok-present refl
    ∙ ap (λ (o : Found ℕ). and_next {B = Identity} o (λ ext p.
    got (record { ssi = c.in_ok-ssi.ssi; present = c.in_ok-present.present; extension = ext }) p)) (no-extension _ _ c.if-present-eq1.false)))
