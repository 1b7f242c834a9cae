-- A PDU's bits and the zeros after them, in as many bytes as hold them, are its bytes. Assumes nothing.
use mathlib.Core.Path.{◌≡◌, sym, ap, ◌∙◌}
use mathlib.Core.Bool.{Bool}
use mathlib.Core.List.{List, ◌++◌}
use Prim.Native.Nat.{ℕ, ◌*◌}
use native.Mathlib.Omega.{arith}
use lib.ListN.{length, take}
use lib.Seq.{take_all}
use Rattle.bits.specs.Bits.{Bytes, bits}
use Rattle.bits.specs.Frame.{bytes_for, pack}
use Rattle.bits.proofs.Bytes.{bits-take, bits_inj}
use Rattle.bits.proofs.Frames.{padding, bits-pack, bytes-pack}

pub filled : (s : List ℕ) (l : List Bool) → Bytes s → length s ≡ bytes_for (length l) → take (8 * bytes_for (length l)) (bits s) ≡ l ++ padding l
    → s ≡ pack l
filled s l b e there =
    let n : ℕ = bytes_for (length l) in
    bits_inj s (pack l) b (bytes-pack l)
    (ap bits (sym (take_all n s (omega (arith, e)))) ∙ sym (bits-take n s (omega (arith, e))) ∙ there ∙ sym (bits-pack l))
