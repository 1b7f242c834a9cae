-- Nothing at the default; otherwise the profile, then the place. Assumes nothing.
use mathlib.Core.Path.{◌≡◌, sym, subst}
use mathlib.Core.List.{List}
use Prim.Native.Nat.{ℕ}
use Rattle.bits.proofs.Laying.{none}
use Rattle.text.proofs.Copies.{Fitted, and_then}
use Rattle.terminals.proofs.Texts.{off-line, no_line}
use Rattle.terminals.proofs.reading.write_line.Goals as goal

pub returns-then-profile-eq-BOTH : goal.returns-then-profile-eq-BOTH
returns-then-profile-eq-BOTH c =
    let a = c.args in
    subst (λ (s : List ℕ). Fitted a.out.now a.at s a.out.now a.at) (sym (no_line a.profile a.place c.if-profile-eq-BOTH.true))
    (λ h. none a.out.now a.at)

pub returns : goal.returns
returns c =
    let a = c.args in
    subst (λ (s : List ℕ). Fitted a.out.now a.at s c.write_place.new.out c.write_place.result)
    (sym (off-line a.profile a.place c.if-profile-eq-BOTH.false)) (and_then c.write_item-layer_at.ensures.laid c.write_place.ensures)
