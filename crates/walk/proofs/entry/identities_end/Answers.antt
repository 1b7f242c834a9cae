-- As long as no present bit is another than the first, each entry ends where it was expected to. Assumes nothing.
use mathlib.Core.Path.{◌≡◌, refl, subst}
use mathlib.Core.List.{List}
use Prim.Native.Nat.{ℕ, ◌+◌, ◌*◌, ◌<◌}
use native.Mathlib.Omega.{arith}
use Rattle.grammar.specs.Grammar.{identity}
use Rattle.walk.specs.Inner.{pass, Ends}
use Rattle.walk.proofs.Passes.{steps-count}
use Rattle.walk.proofs.Aheads.{ends_as, ends-none, ends_more}
use Rattle.walk.proofs.Sights.{bit_lt, identity-ends}
use Rattle.walk.proofs.entry.identities_end.Goals.{After-bit_at, After-bit_at-present, At-loop}
use Rattle.walk.proofs.entry.identities_end.Goals as goal

abbrev s-of : At-loop → List ℕ
s-of l = l.args.s.now

-- present bits are 0 or 1
first : (c : After-bit_at-present) → c.bit_at-present.result < 2
first c = let a = c.args in bit_lt a.s.now (a.start + 24) c.bit_at-present.ensures

next : (c : After-bit_at) → c.bit_at.result < 2
next c = bit_lt (s-of (goal.at.After-bit_at c).At-loop) (c.loop.at + 24) c.bit_at.ensures

pub loop-preserved : goal.loop-preserved
loop-preserved c =
    let p = c.bit_at-present.result in
    let b = c.bit_at.result in
    let one = first (goal.at.loop-preserved c).After-bit_at-present in
    let more = next c in (
      omega arith,
      omega (arith, c.loop.invariant.1, one),
      λ e.
          let none : c.loop.other ≡ 0 = omega (arith, e) in
          let same : b ≡ p = omega (arith, e, one, more) in
          ends_more _ _ refl (c.loop.invariant.2 none)
          (subst (λ (q : ℕ). Ends (pass identity) (s-of (goal.at.loop-preserved c).At-loop) c.loop.at 49 q) (omega (arith, same)) (identity-ends c.bit_at.ensures)),
    )

-- the first entry
pub loop-init : goal.loop-init
loop-init c =
    let a = c.args in
    let end : a.start + 25 + 24 * c.bit_at-present.result ≡ a.start + (25 + 24 * c.bit_at-present.result) = omega arith in (
      omega arith,
      omega (arith, first c),
      λ e. ends_more 0 1 refl (ends-none (pass identity) a.s.now a.start)
          (subst (λ (q : ℕ). Ends (pass identity) a.s.now a.start 49 q) end (identity-ends c.bit_at-present.ensures)),
    )

pub returns : goal.returns
returns c =
    let i = c.loop.invariant in
    ends_as (λ l r. steps-count _ r (omega arith)) (omega arith) (i.2 c.if-other-ne0.false)

pub overflow_mul-width : goal.overflow_mul-width
overflow_mul-width c =
    omega (arith, first c)

pub overflow_add-width : goal.overflow_add-width
overflow_add-width c =
    omega (arith, first c)

pub overflow_add-at : goal.overflow_add-at
overflow_add-at c =
    omega (arith, first c)

pub overflow_add-other : goal.overflow_add-other
overflow_add-other c =
    omega (arith, next c, first (goal.at.overflow_add-other c).After-bit_at-present)

pub overflow_add-at-in-loop-2 : goal.overflow_add-at-in-loop-2
overflow_add-at-in-loop-2 c =
    omega (arith, first (goal.at.overflow_add-at-in-loop-2 c).After-bit_at-present, c.loop.invariant.1)
