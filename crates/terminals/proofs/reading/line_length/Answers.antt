-- The digits of each number, and what stands between them. Assumes nothing.
use mathlib.Core.Path.{◌≡◌, ap, ◌∙◌}
use Prim.Native.Nat.{ℕ, ◌+◌}
use native.Mathlib.Omega.{arith}
use borrow.Author.Tests.{eq-eqb}
use lib.ListN.{length}
use Rattle.std.specs.Prelude.{Option}
use Rattle.text.specs.Decimal.{decimal}
use Rattle.terminals.specs.Reading.{place_text, line_text}
use Rattle.terminals.proofs.Texts.{length-off, length-given, length-missing}
use Rattle.terminals.proofs.reading.line_length.Goals as goal

pub returns-then-profile-eq-BOTH : goal.returns-then-profile-eq-BOTH
unfolding line_text
returns-then-profile-eq-BOTH c = (rw (eq-eqb c.args.profile 2 c.if-profile-eq-BOTH.true), omega arith)

pub returns-in-Some : goal.returns-in-Some
returns-in-Some c =
    let place = c.args.place in
    let x = c.in-Some.value in
    let line = length-off c.args.profile place c.if-profile-eq-BOTH.false in
    let rest : length (place_text place.layer place.third) ≡ length (decimal place.layer) + 1 + (length (decimal x) + 2) =
    ap (λ (y : Option ℕ). length (place_text place.layer y)) c.in-Some.is ∙ length-given place.layer x in
    (omega arith, omega arith)

pub returns-in-None : goal.returns-in-None
returns-in-None c =
    let place = c.args.place in
    let line = length-off c.args.profile place c.if-profile-eq-BOTH.false in
    let rest : length (place_text place.layer place.third) ≡ length (decimal place.layer) + 2 =
    ap (λ (y : Option ℕ). length (place_text place.layer y)) c.in-None.is ∙ length-missing place.layer in
    (omega arith, omega arith)
