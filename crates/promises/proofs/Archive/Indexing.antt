-- What stands at an index of an archive is one of its entries, in range, and the only one there. Assumes nothing.
use Rattle.std.specs.Prelude.{None, Some}
use mathlib.Core.Path.{◌≡◌, refl, ap, subst}
use mathlib.Core.Bool.{true}
use mathlib.Core.List.{List, [], ◌∷◌, ◌++◌, Memᴰ}
use Prim.Native.Nat.{ℕ, zero, suc, ◌≤◌, ◌<◌}
use native.Mathlib.Nat.{not-suc-le-zero}
use native.Mathlib.Omega.{arith}
use lib.ListN.{length}
use Rattle.bits.proofs.Tests.{never}
use Rattle.archive.specs.Model.{Held, in_range}
use Rattle.archive.specs.Filing.{keeps_rules}
use Rattle.archive.specs.Restoring.{held_nth}
use Rattle.archive.proofs.Model.Checked.{agrees-ranged}
use Rattle.promises.specs.Archive.{StandsAt}
use Rattle.promises.proofs.Archive.Finding.{among-kept}

pub among-joined : (h : Held) (pre post : List Held) → Memᴰ h (pre ++ (h ∷ post))
among-joined h [] post = Memᴰ.head refl
among-joined h (x ∷ pre) post = Memᴰ.tail (among-joined h pre post)

pub stands-among : {hs : List Held} {index : ℕ} {h : Held} → StandsAt hs index h → Memᴰ h hs
stands-among {h = h} s = rw s.split (among-joined h s.before s.after)

-- so its user and part are in range
pub stands-ranged : (home : ℕ) (hs : List Held) (index : ℕ) (h : Held) → home < 16777216 → keeps_rules home 0 hs ≡ true → StandsAt hs index h
    → in_range h.entry.key ≡ true
stands-ranged home hs index h small rules s = agrees-ranged home h small (among-kept home 0 h hs rules (stands-among s)).1

-- ---- by its index

pub nth-stands : (hs : List Held) (i : ℕ) {h : Held} → held_nth hs i ≡ Some h → StandsAt hs i h
unfolding held_nth
nth-stands [] i e = never cc
nth-stands (x ∷ hs) zero {h} e = let same : x ≡ h = cc in record { before = []; after = hs; split = ap (λ (y : Held). y ∷ hs) same; standing = refl }
nth-stands (x ∷ hs) (suc i) e =
    let s = nth-stands hs i e in
    record { before = x ∷ s.before; after = s.after; split = ap (λ (l : List Held). x ∷ l) s.split; standing = ap suc s.standing }

nth-joined : (h : Held) (pre post : List Held) → held_nth (pre ++ (h ∷ post)) (length pre) ≡ Some h
unfolding held_nth
nth-joined h [] post = refl
nth-joined h (x ∷ pre) post = nth-joined h pre post

pub stands_nth : {hs : List Held} {i : ℕ} {h : Held} → StandsAt hs i h → held_nth hs i ≡ Some h
stands_nth {hs} {h = h} s = subst (λ (i : ℕ). held_nth hs i ≡ Some h) s.standing (rw s.split (nth-joined h s.before s.after))

pub nth-none : (hs : List Held) (i : ℕ) → held_nth hs i ≡ None → length hs ≤ i
unfolding held_nth
nth-none [] i e = omega arith
nth-none (x ∷ hs) zero e = never cc
nth-none (x ∷ hs) (suc i) e = omega (arith, nth-none hs i e)

pub none_nth : (hs : List Held) (i : ℕ) → length hs ≤ i → held_nth hs i ≡ None
unfolding held_nth
none_nth [] i h = refl
none_nth (x ∷ hs) zero h = absurd (not-suc-le-zero h)
none_nth (x ∷ hs) (suc i) h = none_nth hs i (omega arith)
