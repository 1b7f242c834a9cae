-- The home network; one entry more; what the search finds from an entry on. Assumes nothing.
use mathlib.Core.Path.{◌≡◌, refl, ap}
use mathlib.Core.List.{List, ◌∷◌}
use Prim.Native.Nat.{ℕ, zero, suc, ◌+◌, ◌-◌, ◌≤◌, ◌<◌}
use native.Mathlib.Omega.{arith}
use native.Mathlib.Nat.{not-suc-le-zero}
use lib.ListN.{length}
use lib.Dec.{leb}
use borrow.Author.Tests.{lt-ltb, le-ltb, le-leb, eq-eqb, ne_eqb}
use Rattle.bits.specs.Bits.{Bytes}
use Rattle.bits.proofs.Tests.{by-test}
use Rattle.archive.specs.Model.{rank, header_width, entry_width, sizes}
use Rattle.archive.specs.Reading.{number3, home_of, entry_at, size_at, held_at, held_from}
use Rattle.archive.specs.Inner.{place_of, gap_at, seek}

pub number3-small : (b : List ℕ) (at : ℕ) → Bytes b → number3 b at < 16777216
number3-small b at y = omega (arith, y at, y (at + 1), y (at + 2))

pub home-is : (b : List ℕ) → header_width ≤ length b → home_of b ≡ number3 b 0
unfolding home_of
home-is b h = rw (le-leb header_width (length b) h)

pub home-small : (b : List ℕ) → Bytes b → home_of b < 16777216
unfolding home_of
home-small b y = by-test (λ (x : ℕ). x < 16777216) (leb header_width (length b)) (number3-small b 0 y) (omega arith)

-- ---- one entry more

pub held_from-next : (b : List ℕ) (n at off : ℕ) → 0 < n
    → held_from b n at off ≡ held_at b at off ∷ held_from b (n - 1) (at + entry_width) (off + size_at b at)
unfolding held_from
held_from-next b zero at off h = absurd (not-suc-le-zero h)
held_from-next b (suc n) at off h =
    let e : n ≡ suc n - 1 = omega arith in
    ap (λ (k : ℕ). held_at b at off ∷ held_from b k (at + entry_width) (off + size_at b at)) e

pub length-held_from : (b : List ℕ) (n at off : ℕ) → length (held_from b n at off) ≡ n
unfolding held_from
length-held_from b zero at off = refl
length-held_from b (suc n) at off = ap suc (length-held_from b n (at + entry_width) (off + size_at b at))

pub sizes-next : (b : List ℕ) (n at off : ℕ) → 0 < n
    → sizes (held_from b n at off) ≡ size_at b at + sizes (held_from b (n - 1) (at + entry_width) (off + size_at b at))
sizes-next b n at off h = rw (held_from-next b n at off h)

-- ---- the search

module _ (b : List ℕ) (key n at off : ℕ) (h : 0 < n) where
  pub seek-past : rank (held_at b at off) < key
      → seek key at off (held_from b n at off)
      ≡ seek key (at + entry_width) (off + size_at b at) (held_from b (n - 1) (at + entry_width) (off + size_at b at))
  unfolding seek
  seek-past p = rw (held_from-next b n at off h, lt-ltb _ _ p)

  pub seek-held : rank (held_at b at off) ≡ key → seek key at off (held_from b n at off) ≡ place_of at off (entry_at b at)
  unfolding seek
  seek-held p = rw (held_from-next b n at off h, le-ltb (rank (held_at b at off)) key (omega arith), eq-eqb _ _ p)

  pub seek_gap : key < rank (held_at b at off) → seek key at off (held_from b n at off) ≡ gap_at at off
  unfolding seek
  seek_gap p = rw (
    held_from-next b n at off h,
    le-ltb (rank (held_at b at off)) key (omega arith),
    ne_eqb (rank (held_at b at off)) key
        (λ q. omega arith),
  )

pub seek-none : (b : List ℕ) (key n at off : ℕ) → n ≤ 0 → seek key at off (held_from b n at off) ≡ gap_at at off
unfolding seek held_from
seek-none b key zero at off h = refl
seek-none b key (suc n) at off h = absurd (not-suc-le-zero h)
