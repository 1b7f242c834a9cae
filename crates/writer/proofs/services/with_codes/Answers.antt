-- Code by code. Assumes nothing.
use mathlib.Core.Path.{◌≡◌, ◌∙◌, ap, sym, subst}
use mathlib.Core.List.{List}
use Prim.Native.Nat.{ℕ, ◌+◌, ◌*◌, ◌%◌, ◌^◌, ◌<◌}
use native.Mathlib.Nat.{lt_of_lt_of_le, mul-le-mul_left, mod-lt}
use native.Mathlib.Omega.{arith}
use lib.ListN.{length, take, get_or}
use lib.Seq.{take_all}
use lib.Arith.{digits_lt}
use lib.Pow.{pow-add, pow_mono}
use Rattle.writer.specs.Inner.{CodesAfter}
use Rattle.writer.proofs.Codes.{no-codes, more-codes}
use Rattle.writer.proofs.services.with_codes.Goals.{In-loop-code}
use Rattle.writer.proofs.services.with_codes.Goals as goal

-- a code more takes at most four bits more
wider : (c : In-loop-code) (d : ℕ) → c.loop-code.run * c.args.scale + d % c.args.scale < 2 ^ (8 + 4 * (c.loop-code.code-index + 1))
wider c d =
    let s = c.args.scale in
    let before : ℕ = 8 + 4 * c.loop-code.code-index in
    let size : before + 4 ≡ 8 + 4 * (c.loop-code.code-index + 1) = omega arith in
    subst (λ (m : ℕ). c.loop-code.run * s + d % s < m) (sym (pow-add 2 before 4) ∙ ap (λ (n : ℕ). 2 ^ n) size)
    (lt_of_lt_of_le (digits_lt c.loop-code.invariant.0 (mod-lt d c.requires.1)) (mul-le-mul_left (2 ^ before) c.requires.2))

fits : (c : In-loop-code) (d : ℕ) → c.loop-code.run * c.args.scale + d % c.args.scale < 2 ^ 56
fits c d = lt_of_lt_of_le (wider c d) (pow_mono {j = 56} (omega (arith, c.requires.3, c.loop-code-test.true)))

pub loop-code-init : goal.loop-code-init
loop-code-init c = (omega arith, λ w e. no-codes w c.args.start)

pub loop-code-preserved : goal.loop-code-preserved
loop-code-preserved c =
    let i : ℕ = c.loop-code.code-index in
    let codes : List ℕ = c.args.codes.now in
    let code : ℕ = get_or codes i 0 in (
      wider (goal.at.loop-code-preserved c).In-loop-code code,
      λ w e.
          subst (λ (m : ℕ). CodesAfter w (i + 1) c.args.start (take (i + 1) codes) (c.loop-code.run * m + code % m)) (sym e)
          (more-codes w codes i c.args.start c.loop-code.run c.loop-code-test.true (c.loop-code.invariant.1 w e)),
    )

pub returns : goal.returns
returns c =
    let i : ℕ = c.loop-code.code-index in
    let codes : List ℕ = c.args.codes.now in
    let all : i ≡ length codes = omega (arith, c.loop-code-test.false, c.loop-code.auto.code-index-end) in
    λ w e.
    subst (λ (n : ℕ). CodesAfter w n c.args.start codes c.loop-code.run) all
    (subst (λ (l : List ℕ). CodesAfter w i c.args.start l c.loop-code.run) (take_all i codes (omega (arith, all))) (c.loop-code.invariant.1 w e))

pub overflow_mul-run : goal.overflow_mul-run
overflow_mul-run c =
    omega (arith, fits (goal.at.overflow_mul-run c).In-loop-code 0)

pub overflow_add-run : goal.overflow_add-run
overflow_add-run c =
    omega (arith, fits (goal.at.overflow_add-run c).In-loop-code (get_or c.args.codes.now c.loop-code.code-index 0))
