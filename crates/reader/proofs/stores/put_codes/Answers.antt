-- Each turn puts one number. Assumes nothing.
use mathlib.Core.Path.{◌≡◌, refl, sym, ap, ◌∙◌}
use mathlib.Core.List.{List, [], ◌∷◌, ◌++◌}
use Prim.Native.Nat.{ℕ, ◌-◌, ◌*◌, ◌/◌, ◌%◌, ◌^◌}
use native.Mathlib.Nat.{one-mul}
use native.Mathlib.Numerals.{add-one}
use native.Mathlib.Omega.{arith}
use lib.ListN.{length-set}
use lib.Pow.{shl_exact}
use lib.Seq.{take_all, take-suc, take-suc-set}
use Rattle.reader.specs.Inner.{codes_in}
use Rattle.reader.proofs.Runs.{code-at, codes-long}
use Rattle.reader.proofs.stores.put_codes.Goals as goal

pub loop-i-init : goal.loop-i-init
loop-i-init g c = (c.requires.2, refl)

pub loop-i-preserved : goal.loop-i-preserved
loop-i-preserved g c =
    let count : ℕ = g.row.COUNT in
    let width : ℕ = g.row.WIDTH in
    let i : ℕ = c.loop-i.i in
    let run : ℕ = c.args.run in
    let codes : List ℕ = codes_in count width run in
    let size : 1 * 2 ^ width % 2 ^ 64 ≡ 2 ^ width = shl_exact {a = 1} 1 width 64 (omega arith) (omega arith) ∙ one-mul (2 ^ width) in
    let code = code-at count width run i c.loop-i-test.true ∙ ap (λ (m : ℕ). run / 2 ^ (width * (count - 1 - i)) % m) (sym size) in
    let long = c.loop-i.invariant.0 in (
      length-set c.loop-i.words i _ ∙ long,
      rw add-one (take-suc-set c.loop-i.words i _ (omega (arith, long)) ∙ (λ j. c.loop-i.invariant.1 j ++ (sym code j ∷ []))
          ∙ sym (take-suc codes i 0 (omega (arith, codes-long count width run)))),
    )

pub returns : goal.returns
returns g c =
    let count : ℕ = g.row.COUNT in
    let width : ℕ = g.row.WIDTH in
    let codes : List ℕ = codes_in count width c.args.run in
    let i : ℕ = c.loop-i.i in
    let h = c.loop-i.invariant in
    sym (take_all i c.loop-i.words (omega (arith, h.0, c.loop-i-test.false))) ∙ h.1
    ∙ take_all i codes (omega (arith, codes-long count width c.args.run, c.loop-i-test.false))
