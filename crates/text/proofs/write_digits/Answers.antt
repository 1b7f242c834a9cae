-- Each turn puts the last digit of what is left in front of those that are there: whatever lays the digits left lays them all.
-- Assumes nothing.
use mathlib.Core.Path.{◌≡◌, sym, ap, ◌∙◌, subst}
use mathlib.Core.List.{List, [], ◌∷◌, ◌++◌}
use Prim.Native.Nat.{ℕ, ◌+◌, ◌-◌, ◌/◌, ◌%◌, ◌≤◌}
use native.Mathlib.Omega.{arith}
use lib.ListN.{length, set, length-append}
use Rattle.bits.specs.Inner.{Laid}
use Rattle.bits.proofs.Laying.{one, none}
use Rattle.text.specs.Decimal.{digit, decimal}
use Rattle.text.proofs.Decimals.{padded, padded-none, padded-more, length-padded, decimal-padded}
use Rattle.text.proofs.Copies.{before_it}
use Rattle.text.proofs.write_digits.Goals as goal

pub loop-place-init : goal.loop-place-init
loop-place-init c =
    let n = c.args.n in
    let size : length (decimal n) ≡ c.args.end - c.args.at = omega (arith, c.requires.0) in
    let all : decimal n ≡ padded (c.args.end - c.args.at) n =
    decimal-padded n (omega arith) ∙ ap (λ (k : ℕ). padded k n) size
    in (
      omega (arith, c.requires.0),
      λ out' m l. record {
        ends = c.requires.0;
        same = (subst (λ (s : List ℕ). Laid c.args.out.now c.args.at s out' m) (sym all) l).same;
      },
    )

pub loop-place-preserved : goal.loop-place-preserved
loop-place-preserved c =
    let l = c.loop-place in
    let at = c.args.at in
    let rest = l.rest in
    let k : ℕ = l.place - 1 - at in
    let s : List ℕ = padded k (rest / 10) in
    let size : length s ≡ k = length-padded k (rest / 10) in
    let more : padded (l.place - at) rest ≡ s ++ (digit (rest % 10) ∷ []) = padded-more (l.place - at) k rest (omega arith) in
    let place : l.place - 1 ≡ at + length s = omega arith in
    let byte : Laid l.out (at + length s) (digit (rest % 10) ∷ []) (set l.out (l.place - 1) (digit (rest % 10))) (l.place - 1 + 1) =
    subst (λ (k : ℕ). Laid l.out k (digit (rest % 10) ∷ []) (set l.out (l.place - 1) (digit (rest % 10))) (l.place - 1 + 1)) place
    (one l.out (l.place - 1) (digit (rest % 10)) (omega (arith, c.requires.1, l.auto.out, l.auto.place)))
    in
    let room : at + length (s ++ (digit (rest % 10) ∷ [])) ≤ length l.out =
    omega (arith, length-append s (digit (rest % 10) ∷ []), c.requires.1, l.auto.out, l.auto.place) in (
      omega arith,
      λ out' m x. l.invariant.1 out' (l.place - 1 + 1) (subst (λ (s : List ℕ). Laid l.out at s out' (l.place - 1 + 1)) (sym more) (before_it room byte x)),
    )

pub returns : goal.returns
returns c =
    let l = c.loop-place in
    let at = c.args.at in
    let left : padded (l.place - at) l.rest ≡ [] = padded-none (l.place - at) l.rest (omega arith) in
    l.invariant.1 l.out at (subst (λ (s : List ℕ). Laid l.out at s l.out at) (sym left) (none l.out at))
