-- The number of the eight bytes that are copied. Assumes nothing.
use mathlib.Core.Path.{◌≡◌, sym, ap, subst, ◌∙◌}
use mathlib.Core.List.{List}
use Prim.Native.Nat.{ℕ, ◌+◌, ◌-◌}
use native.Mathlib.Omega.{arith}
use lib.ListN.{take, drop}
use Rattle.bits.specs.Bits.{value, bits, Bytes}
use Rattle.bits.proofs.Bytes.{bytes_within}
use Rattle.bits.proofs.Loads.{value-eight}
use Rattle.bits.proofs.eight.Goals as goal

pub returns : goal.returns
returns c =
    let a = c.args in
    let s = a.s.now in
    let held = c.copy_from_slice.new.self in
    let many : a.from + 8 - a.from ≡ 8 = omega arith in
    let copied : held ≡ take 8 (drop a.from s) = c.copy_from_slice.ensures.after ∙ ap (λ (k : ℕ). take k (drop a.from s)) many in
    c.from_be_bytes.ensures ∙ sym (value-eight held c.copy_from_slice.ensures.len (subst Bytes (sym copied) (bytes_within s a.from 8 (λ i. (c.type_inv.s i).fits)))) ∙ ap (λ (t : List ℕ). value (bits t)) copied
