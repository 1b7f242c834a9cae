-- Digit by digit, the number so far with the digits that are left says what all of them say. Assumes nothing.
use mathlib.Core.Path.{◌≡◌, sym, ap, ◌∙◌}
use Prim.Native.Nat.{ℕ, ◌+◌, ◌*◌, ◌^◌, ◌≤◌, ◌<◌}
use native.Mathlib.Omega.{arith}
use native.Mathlib.Nat.{pow-suc}
use native.Mathlib.Numerals.{add-one}
use lib.ListN.{length, get_or, drop, drop_of_length-le}
use Rattle.text.specs.Field.{number_from}
use Rattle.text.proofs.Fields.{digit-at, number-digit, small}
use Rattle.text.proofs.number_of.Goals.{In-loop-digit}
use Rattle.text.proofs.number_of.Goals as goal

-- the byte at hand is a digit
digit : (c : In-loop-digit) → let b = get_or c.args.digits.now c.loop-digit.digit-index 0 in (48 ≤ b) × (b ≤ 57)
digit c = digit-at c.args.digits.now c.loop-digit.digit-index (omega arith)

-- the number so far has at most eight digits
so_far : (c : In-loop-digit) → c.loop-digit.number < 100000000
so_far c = let l = c.loop-digit in small l.number l.digit-index 8 l.invariant.0 (omega arith)

pub overflow_mul-number : goal.overflow_mul-number
overflow_mul-number c = omega (arith, so_far (goal.at.overflow_mul-number c).In-loop-digit)

pub overflow_sub-digit : goal.overflow_sub-digit
overflow_sub-digit c = (digit (goal.at.overflow_sub-digit c).In-loop-digit).0

pub overflow_add-number : goal.overflow_add-number
overflow_add-number c =
    let here = (goal.at.overflow_add-number c).In-loop-digit in omega (arith, so_far here, digit here, c.from.ensures)

pub loop-digit-preserved : goal.loop-digit-preserved
loop-digit-preserved c =
    let l = c.loop-digit in
    let s = c.args.digits.now in
    let here = (goal.at.loop-digit-preserved c).In-loop-digit in
    let power : 10 ^ (l.digit-index + 1) ≡ 10 ^ l.digit-index * 10 = rw add-one (pow-suc 10 l.digit-index) in (
      omega (arith, l.invariant.0, digit here, power, c.from.ensures),
      l.invariant.1 ∙ number-digit s l.number l.digit-index (omega arith)
          ∙ ap (λ (k : ℕ). number_from (l.number * 10 + k) (drop (l.digit-index + 1) s)) (sym c.from.ensures),
    )

pub returns : goal.returns
unfolding number_from
returns c =
    let l = c.loop-digit in
    let all : length c.args.digits.now ≤ l.digit-index = omega arith in
    sym (l.invariant.1 ∙ ap (number_from l.number) (drop_of_length-le c.args.digits.now all))
