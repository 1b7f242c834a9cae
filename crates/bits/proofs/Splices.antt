-- Splices: these elements replaced, all others as they were. Assumes nothing.
use mathlib.Core.Path.{◌≡◌, sym, ap, ap₂, ◌∙◌}
use mathlib.Core.List.{List, [], ◌++◌, append_assoc}
use Prim.Native.Nat.{ℕ, ◌+◌, ◌≤◌}
use native.Mathlib.Nat.{add_assoc, add-zero}
use native.Mathlib.Omega.{arith}
use lib.ListN.{length, take, drop, length-append, length-take, length-drop, take-append-drop}
use lib.Seq.{take_at, drop_at, drop-drop, drop-append-add, length-take-le}
use Rattle.bits.specs.Bits.{splice}

-- the part b replaced
pub splice_at : {A : Type 0} (a b c new : List A) (at : ℕ) → length a ≡ at → length b ≡ length new
    → splice (a ++ (b ++ c)) at new ≡ a ++ (new ++ c)
splice_at {A} a b c new at ea eb =
    ap₂ (λ (p q : List A). p ++ (new ++ q))
    (take_at a (b ++ c) at ea)
    (ap (λ (l : List A). drop (at + length new) l) (sym (append_assoc a b c))
    ∙ drop_at (a ++ b) c (at + length new) (omega (arith, length-append a b)))

pub length-splice : {A : Type 0} (l : List A) (at : ℕ) (new : List A) → at + length new ≤ length l → length (splice l at new) ≡ length l
length-splice l at new h = simp (length-append, length-take, length-drop) (omega arith)

pub splice-nil : {A : Type 0} (l : List A) (at : ℕ) → splice l at [] ≡ l
splice-nil l at = ap (λ (n : ℕ). take at l ++ drop n l) (add-zero at) ∙ take-append-drop at l

-- two splices, one after the other
pub splice-splice : {A : Type 0} (l : List A) (at : ℕ) (x y : List A) → at ≤ length l
    → splice (splice l at x) (at + length x) y ≡ splice l at (x ++ y)
splice-splice {A} l at x y h =
    let p : List A = take at l ++ x in
    let d : List A = drop (at + length x) l in
    let lp : length p ≡ at + length x = length-append (take at l) x ∙ ap (λ (n : ℕ). n + length x) (length-take-le at l h) in
    ap (λ (z : List A). splice z (at + length x) y) (sym (append_assoc (take at l) x d))
    ∙ ap₂ (λ (a b : List A). a ++ (y ++ b))
    (take_at p d (at + length x) lp)
    (ap (λ (n : ℕ). drop (n + length y) (p ++ d)) (sym lp) ∙ drop-append-add p d (length y)
    ∙ drop-drop (length y) (at + length x) l
    ∙ ap (λ (n : ℕ). drop n l) (add_assoc at (length x) (length y) ∙ ap (λ (n : ℕ). at + n) (sym (length-append x y))))
    ∙ append_assoc (take at l) x (y ++ drop (at + length (x ++ y)) l)
    ∙ ap (λ (z : List A). take at l ++ z) (sym (append_assoc x y (drop (at + length (x ++ y)) l)))

-- what stands there already need not be put
pub splice-same : {A : Type 0} (l : List A) (at : ℕ) (x y : List A) → at ≤ length l → x ≡ take (length x) (drop at l)
    → splice l at (x ++ y) ≡ splice l (at + length x) y
splice-same {A} l at x y h e =
    let same : splice l at x ≡ l =
    ap₂ (λ (a b : List A). take at l ++ (a ++ b)) e (sym (drop-drop (length x) at l))
    ∙ ap (λ (a : List A). take at l ++ a) (take-append-drop (length x) (drop at l)) ∙ take-append-drop at l in
    sym (splice-splice l at x y h) ∙ ap (λ (z : List A). splice z (at + length x) y) same

-- up to its end, what is put stands after what stood before it
pub take-splice : {A : Type 0} (l : List A) (at n : ℕ) (x y : List A) → at ≤ length l → length x ≡ n
    → take (at + n) (take at l ++ (x ++ y)) ≡ take at l ++ x
take-splice l at n x y h e =
    ap (take (at + n)) (sym (append_assoc (take at l) x y))
    ∙ take_at (take at l ++ x) y (at + n) (omega (arith, length-append (take at l) x, length-take-le at l h))
