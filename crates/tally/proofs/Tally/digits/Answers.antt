-- None used is above 12, and none unused above 0. Assumes nothing.
use mathlib.Core.Path.{◌≡◌, ◌∙◌, ap}
use Prim.Native.Nat.{◌+◌, min}
use Rattle.codec.specs.Codec.{first}
use Rattle.words.specs.RecordWords.{narrow}
use Rattle.tally.proofs.Digits.{digits-fit, digits_tallied}
use native.Mathlib.Omega.{arith}
use Rattle.std.proofs.Common.{rules}
use Rattle.tally.proofs.Tally.digits.Goals.{After-min-used}
use Rattle.tally.proofs.Tally.digits.Goals as goal

few : (c : After-min-used) → c.min-used.result ≡ min (narrow c.args.n) 24
few c = omega (arith, c.min-used.ensures)

pub overflow_add-result : goal.overflow_add-result
overflow_add-result c =
    let a = c.args in
    omega (
      arith,
      c.bits.ensures,
      digits-fit a.words.now (narrow a.n) c.min-used.result c.requires.0 (few (goal.at.overflow_add-result c).After-min-used) c.requires.1,
    )

pub returns : goal.returns
returns c =
    let a = c.args in
    digits_tallied a.words.now (narrow a.n) c.min-used.result c.requires.0 (few (goal.at.returns c).After-min-used)
    c.are_legal-legal.ensures c.none_above-unused.ensures (search rules)
    (c.first_refusal.ensures ∙ ap (first a.self.refusal) c.refusal_unless.ensures)
    (ap (◌+◌ a.self.bits) c.bits.ensures)
