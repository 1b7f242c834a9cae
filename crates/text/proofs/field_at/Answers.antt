-- A place past the end has no digit, and otherwise the digits are counted from there on. Assumes nothing.
use mathlib.Core.Path.{◌≡◌, refl, ap, ◌∙◌}
use Prim.Native.Nat.{ℕ, ◌-◌, ◌≤◌}
use native.Mathlib.Omega.{arith}
use lib.ListN.{length, take, drop, length-drop, length-take}
use lib.Seq.{take_all}
use Rattle.text.specs.Field.{run}
use Rattle.text.proofs.Fields.{run-is, run-size, run-take, field-none, field-some}
use Rattle.text.proofs.field_at.Goals.{After-run-digits}
use Rattle.text.proofs.field_at.Goals as goal

pub returns-in_err-rest : goal.returns-in_err-rest
returns-in_err-rest c =
    let a = c.args in
    let over : length (drop a.at a.s.now) ≤ 0 = omega (arith, length-drop a.at a.s.now, c.in_err-rest.ensures.lookup) in
    c.from_residual.ensures ∙ field-none a.s.now a.at a.widest {n = run (drop a.at a.s.now)} refl (λ h. omega (arith, run-size (drop a.at a.s.now)))

-- what is left from the place on, and how many digits stand first there
rest-is : (c : After-run-digits) → c.in_ok-rest.rest.now ≡ drop c.args.at c.args.s.now
rest-is c =
    let a = c.args in
    c.in_ok-rest.ensures.lookup.0.2 ∙ take_all (length a.s.now - a.at) (drop a.at a.s.now) (omega (arith, length-drop a.at a.s.now))

digits-are : (c : After-run-digits) → c.run-digits.result ≡ run (drop c.args.at c.args.s.now)
digits-are c = c.run-digits.ensures ∙ run-is _ ∙ ap run (rest-is c)

pub returns-then-digits-lt1 : goal.returns-then-digits-lt1
returns-then-digits-lt1 c =
    let a = c.args in field-none a.s.now a.at a.widest (digits-are (goal.at.returns-then-digits-lt1 c).After-run-digits) (λ h. omega arith)

pub number_of-requires : goal.number_of-requires
number_of-requires c =
    let s = c.in_ok-rest.rest.now in
    let e : c.run-digits.result ≡ run s = c.run-digits.ensures ∙ run-is s in
    let l = length-take c.run-digits.result s in
    (omega arith, omega (arith, ap (λ (n : ℕ). run (take n s)) e, run-take s))

pub returns : goal.returns
returns c =
    let a = c.args in
    let here = (goal.at.returns c).After-run-digits in
    field-some a.s.now a.at a.widest (digits-are here) (rest-is here) (omega arith) (omega arith) (omega arith) c.number_of.ensures
