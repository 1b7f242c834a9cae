-- The length, then the digits if it is the same. Assumes nothing.
use mathlib.Core.Path.{◌≡◌}
use Prim.Native.Nat.{◌+◌, ◌/◌, ◌^◌, ◌≤◌}
use native.Mathlib.Omega.{arith}
use Rattle.reader.proofs.Elements.{number_fits}
use Rattle.in_place.proofs.Windows.{front-is}
use Rattle.in_place.proofs.Digits.{length-read, length-few, digits-reads, other_length, same_length}
use Rattle.in_place.proofs.numbers.NumberSought.at.Goals.{After-window}
use Rattle.in_place.proofs.numbers.NumberSought.at.Goals as goal

count-is : (c : After-window) → c.window.result / 2 ^ 52 ≡ c.requires.reads.value.length.0
count-is c =
    front-is c.args.s.now c.args.at c.window.ensures 5 (omega arith) (omega arith) (length-read _ _ c.requires.reads)

near : (c : After-window) → (c.args.at + 5 ≤ 4096) × (c.window.result / 2 ^ 52 ≤ 24)
near c =
    let length = length-read _ _ c.requires.reads in (
      number_fits c.args.s.now c.args.at 5 (omega arith) c.requires.few (record { value = _; end = _; read = length }),
      length-few _ _ c.requires.reads (count-is c),
    )

pub returns-then-count-length : goal.returns-then-count-length
returns-then-count-length c = other_length _ _ c.requires.reads (count-is (goal.at.returns-then-count-length c).After-window) _ c.if-count-length.true

pub are_digits-requires : goal.are_digits-requires
are_digits-requires c =
    let w = (goal.at.are_digits-requires c).After-window in
    ((near w).1, record { few = c.requires.few; reads = digits-reads _ _ c.requires.reads (count-is w) })

pub returns : goal.returns
returns c =
    same_length _ _ c.requires.reads (count-is (goal.at.returns c).After-window) _ c.if-count-length.false c.are_digits.ensures

pub overflow_add-start : goal.overflow_add-start
overflow_add-start c =
    omega (arith, near c)

pub overflow_mul-end : goal.overflow_mul-end
overflow_mul-end c =
    omega (arith, near c)

pub overflow_add-end : goal.overflow_add-end
overflow_add-end c =
    omega (arith, near c)
