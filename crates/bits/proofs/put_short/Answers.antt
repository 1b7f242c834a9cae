-- Put among zeros after the bytes, and copied back. Assumes nothing.
use mathlib.Core.Path.{◌≡◌, ◌∙◌, ap}
use mathlib.Core.List.{List}
use Prim.Native.Nat.{ℕ, ◌-◌}
use native.Mathlib.Omega.{arith}
use borrow.Author.Rules.{rules}
use lib.ListN.{length, replicate}
use Rattle.bits.specs.Bits.{bits, bits_of, splice}
use Rattle.bits.proofs.Numbers.{length-bits_of}
use Rattle.bits.proofs.Stores.{splice_front}
use Rattle.bits.proofs.put_short.Goals as goal

pub returns : goal.returns
returns c =
    let a = c.args in
    let s = a.buf.now in
    let held = c.put_within.new.buf in
    let eight : length held ≡ 8 = search rules in
    let new = bits_of a.width a.element in
    ap bits c.copy_from_slice.ensures.after
    ∙ splice_front s (replicate (8 - length s) 0) held a.at new
    (omega (arith, eight))
    (c.put_within.ensures ∙ ap (λ (x : List ℕ). splice (bits x) a.at new) c.padded-held.ensures)
    (omega (arith, length-bits_of a.width a.element))
