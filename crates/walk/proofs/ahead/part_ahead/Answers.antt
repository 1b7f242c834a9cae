-- The lists of a part, or none. Assumes nothing.
use mathlib.Core.Path.{◌≡◌}
use native.Mathlib.Omega.{arith}
use borrow.Author.Tests.{ne_eqb}
use Rattle.grammar.specs.Grammar.{no_part}
use Rattle.grammar.specs.Zero.{zero_lists}
use Rattle.grammar.proofs.Steps.{no_part-at}
use Rattle.walk.proofs.Passes.{pass-nothing}
use Rattle.walk.proofs.Lists.{identity-part, number-part}
use Rattle.walk.proofs.Aheads.{ends_as}
use Rattle.walk.proofs.ahead.part_ahead.Goals as goal

pub returns-in-1 : goal.returns-in-1
returns-in-1 c =
    let e : c.args.part ≡ 1 = c.in-1.is in
    rw e (ends_as identity-part (omega arith) c.lists_ahead.ensures)

pub returns-in-2 : goal.returns-in-2
returns-in-2 c =
    let e : c.args.part ≡ 2 = c.in-2.is in
    rw e (ends_as number-part (omega arith) c.lists_ahead-in-2.ensures)

pub returns-in_default : goal.returns-in_default
returns-in_default c =
    let part = c.args.part in
    rw (ne_eqb part 1 (λ e. omega arith), ne_eqb part 2 (λ e. omega arith)) (record {
      after = omega arith;
      near = omega arith;
      there = λ n few i. pass-nothing no_part zero_lists _ (no_part-at _) _;
    })
