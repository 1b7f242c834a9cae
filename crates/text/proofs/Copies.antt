-- Bytes copied to a buffer: by a loop, by a part that is lent on, before others that were laid first; and where there is room for them or not.
-- Assumes nothing.
use mathlib.Core.Path.{◌≡◌, refl, sym, ap, ◌∙◌}
use mathlib.Core.Bool.{false}
use mathlib.Core.List.{List, [], ◌∷◌, ◌++◌, append_assoc, append-nil}
use Prim.Native.Nat.{ℕ, zero, suc, ◌+◌, ◌-◌, ◌≤◌, ◌<◌}
use native.Mathlib.Omega.{arith}
use native.Mathlib.Nat.{le_of_suc-le-suc, not-suc-le-zero, add-sub_cancel_left}
use native.Mathlib.Numerals.{add-one}
use borrow.Author.Tests.{le-leb}
use lib.Dec.{leb}
use lib.ListN.{length, get_or, take, drop, set, length-append, drop_of_length-le}
use lib.Seq.{take_all, take-add, drop-drop, length-take-le}
use Rattle.bits.specs.Bits.{splice}
use Rattle.bits.specs.Inner.{Laid}
use Rattle.bits.proofs.Laying.{then, first_fits, rest-fits}
use Rattle.bits.proofs.Lists.{length_part}
use Rattle.bits.proofs.Splices.{splice_at}
use Rattle.text.specs.Laying.{end_at, laid_at}

-- a turn's store takes the copy of i bytes to the copy of one more
pub copied-one : (src dst : List ℕ) (i : ℕ) → i < length src → i < length dst
    → set (take i src ++ drop i dst) i (get_or src i 0) ≡ take (i + 1) src ++ drop (i + 1) dst
copied-one src dst i h k = rw add-one (go src dst i h k)
  where
    go : (src dst : List ℕ) (i : ℕ) → i < length src → i < length dst
        → set (take i src ++ drop i dst) i (get_or src i 0) ≡ take (suc i) src ++ drop (suc i) dst
    go [] dst i h k = absurd (not-suc-le-zero h)
    go (x ∷ xs) [] i h k = absurd (not-suc-le-zero k)
    go (x ∷ xs) (y ∷ ys) zero h k = refl
    go (x ∷ xs) (y ∷ ys) (suc i) h k = ap (λ (l : List ℕ). x ∷ l) (go xs ys i (le_of_suc-le-suc h) (le_of_suc-le-suc k))

pub copied_all : (src dst : List ℕ) (i : ℕ) → length src ≤ i → length dst ≤ i → take i src ++ drop i dst ≡ src
copied_all src dst i h k = rw (take_all i src h, drop_of_length-le dst k) (append-nil src)

-- what a part that is lent on leaves, where the writer left s in it
pub lent : (out s : List ℕ) (at : ℕ) {s' : List ℕ} → s' ≡ s
    → Laid out at s (take at out ++ (s' ++ drop (at + length s - at) (drop at out))) (at + length s)
lent out s at e = record { ends = refl; same = rw (e, add-sub_cancel_left, drop-drop) }

-- a part laid before one that was laid first
pub before_it : {out out' out'' s t : List ℕ} {at m end : ℕ} → at + length (s ++ t) ≤ length out
    → Laid out (at + length s) t out' end → Laid out' at s out'' m → Laid out at (s ++ t) out'' end
before_it {out} {s = s} {t = t} {at = at} h x y =
    let n : length (s ++ t) ≡ length s + length t = length-append s t in
    let mid : List ℕ = take (length s) (drop at out) in
    let rest : List ℕ = drop (at + length s + length t) out in
    let split : splice out (at + length s) t ≡ take at out ++ (mid ++ (t ++ rest)) =
    rw (take-add at (length s) out) (append_assoc (take at out) mid (t ++ rest))
    in
    let laid : splice (take at out ++ (mid ++ (t ++ rest))) at s ≡ take at out ++ (s ++ (t ++ rest)) =
    splice_at (take at out) mid (t ++ rest) s at (length-take-le at out (omega arith)) (length_part out at (length s) (omega arith))
    in
    let place : at + length s + length t ≡ at + length (s ++ t) = omega arith in
    record {
      ends = omega (arith, x.ends);
      same = y.same
          ∙ ap (λ (l : List ℕ). splice l at s) (x.same ∙ split)
          ∙ laid
          ∙ ap (λ (l : List ℕ). take at out ++ l) (sym (append_assoc s t rest))
          ∙ ap (λ (k : ℕ). take at out ++ ((s ++ t) ++ drop k out)) place;
    }

-- ---- with room and without

module _ {out s : List ℕ} {at : ℕ} where
  -- where there is room, the bytes are laid
  pub laid_in : {out' : List ℕ} {end : ℕ} → at + length s ≤ length out → (end ≡ end_at (length out) at s) × (out' ≡ laid_at out at s)
      → Laid out at s out' end
  unfolding end_at laid_at
  laid_in h e = let t = le-leb (at + length s) (length out) h in record { ends = e.0 ∙ rw t refl; same = e.1 ∙ rw t refl }

  pub by-laid : {out' : List ℕ} {end : ℕ} → at + length s ≤ length out → Laid out at s out' end
      → (end ≡ end_at (length out) at s) × (out' ≡ laid_at out at s)
  unfolding end_at laid_at
  by-laid h l = let t = le-leb (at + length s) (length out) h in (rw t l.ends, rw t l.same)

-- where there is none, nothing changes
pub no_room : (out s : List ℕ) (at : ℕ) → leb (at + length s) (length out) ≡ false → (at ≡ end_at (length out) at s) × (out ≡ laid_at out at s)
unfolding end_at laid_at
no_room out s at t = (rw t refl, rw t refl)

-- what a writer leaves: the bytes, where there is room for them
abbrev pub Fitted : List ℕ → ℕ → List ℕ → List ℕ → ℕ → Type 0
Fitted out at s out' end = at + length s ≤ length out → Laid out at s out' end

-- one writer after the other
pub and_then : {out out' out'' s t : List ℕ} {at m end : ℕ} → Fitted out at s out' m → Fitted out' m t out'' end → Fitted out at (s ++ t) out'' end
and_then {s = s} {t = t} {at = at} x y h =
    let l = x (first_fits s t at h) in then (omega (arith, h, length-append s t)) l (y (rest-fits t h l))
