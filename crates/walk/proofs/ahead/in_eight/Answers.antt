-- The window at the front has all bits of fewer than eight bytes. Assumes nothing.
use mathlib.Core.Path.{◌≡◌, ap, ◌∙◌, subst}
use mathlib.Core.Bool.{Bool}
use mathlib.Core.List.{List}
use Prim.Native.Nat.{ℕ, ◌+◌, ◌-◌, ◌*◌, ◌/◌, ◌^◌, ◌≤◌}
use native.Mathlib.Omega.{arith}
use lib.ListN.{length, take, replicate}
use lib.Seq.{take_all}
use Rattle.bits.specs.Bits.{bits, value, bits_of}
use Rattle.bits.specs.Element.{window_at, lay_at}
use Rattle.bits.proofs.Bytes.{length-bits}
use Rattle.bits.proofs.Numbers.{bits_of_value}
use Rattle.bits.proofs.Windows.{window-front}
use Rattle.bits.proofs.Lays.{lay-front}
use Rattle.walk.proofs.ahead.in_eight.Goals as goal

all-in-front : (s : List ℕ) → 8 * length s ≤ 57 → bits_of (8 * length s) (window_at s 0 / 2 ^ (57 - 8 * length s)) ≡ bits s
all-in-front s few =
    ap (bits_of (8 * length s)) (window-front s 0 (8 * length s) few (omega arith))
    ∙ ap (λ (l : List Bool). bits_of (8 * length s) (value l)) (take_all (8 * length s) (bits s) (omega (arith, length-bits s)))
    ∙ subst (λ (n : ℕ). bits_of n (value (bits s)) ≡ bits s) (length-bits s) (bits_of_value (bits s))

pub returns : goal.returns
returns c =
    let s = c.args.s.now in
    let size : ℕ = 8 * length s in
    let held : List ℕ = replicate 8 0 in
    let start : 0 + size ≡ size = omega arith in
    let v : ℕ = window_at s 0 / 2 ^ (57 - size) in
    ap (take size) (c.lay.ensures.1 ∙ ap (λ (x : ℕ). lay_at held 0 size (x / 2 ^ (57 - size))) c.window.ensures)
    ∙ subst (λ (n : ℕ). take n (lay_at held 0 size v) ≡ bits_of size v) start (lay-front held 0 size v (omega arith) (omega arith))
    ∙ all-in-front s (omega arith)
