-- A byte's share of an element: n bits of the byte at q, with r bits before them and k after. Assumes nothing.
use mathlib.Core.Path.{◌≡◌, sym, ap, ◌∙◌}
use mathlib.Core.List.{List, ◌++◌, append_assoc}
use mathlib.Core.Bool.{Bool}
use Prim.Native.Nat.{ℕ, suc, ◌+◌, ◌*◌, ◌/◌, ◌^◌, ◌<◌}
use native.Mathlib.Omega.{arith}
use lib.ListN.{length, get_or, take, drop, length-append}
use lib.Seq.{take_at, drop_at}
use Rattle.bits.specs.Bits.{bits_of, bits}
use Rattle.bits.proofs.Numbers.{length-bits_of, bits_of-three}
use Rattle.bits.proofs.Bytes.{bits-split, length-bits-take}

pub read-within : (s : List ℕ) (q r n k : ℕ) → q < length s → r + (n + k) ≡ 8 → take n (drop (8 * q + r) (bits s)) ≡ bits_of n (get_or s q 0 / 2 ^ k)
read-within s q r n k inside byte =
    let b : ℕ = get_or s q 0 in
    let front : List Bool = bits (take q s) in
    let high : List Bool = bits_of r (b / 2 ^ (n + k)) in
    let own : List Bool = bits_of n (b / 2 ^ k) in
    let rest : List Bool = bits_of k b ++ bits (drop (suc q) s) in
    let layout : bits s ≡ (front ++ high) ++ (own ++ rest) =
    bits-split s q inside
    ∙ ap (λ (m : ℕ). front ++ (bits_of m b ++ bits (drop (suc q) s))) (sym byte)
    ∙ ap (λ (l : List Bool). front ++ (l ++ bits (drop (suc q) s))) (bits_of-three r n k b)
    ∙ simp append_assoc in
    ap (λ (l : List Bool). take n (drop (8 * q + r) l)) layout
    ∙ ap (take n) (drop_at (front ++ high) (own ++ rest) (8 * q + r)
    (omega (arith, length-append front high, length-bits-take q s (omega arith), length-bits_of r (b / 2 ^ (n + k)))))
    ∙ take_at own rest n (length-bits_of n (b / 2 ^ k))
