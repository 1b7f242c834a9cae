-- The listing's parts: their lengths, and the lines of the entries as they stand in an archive's bytes. Assumes nothing.
use mathlib.Core.Path.{◌≡◌, refl, sym, ap, ◌∙◌}
use mathlib.Core.List.{List, [], ◌++◌}
use Prim.Native.Nat.{ℕ, zero, suc, ◌+◌, ◌-◌, ◌*◌, ◌≤◌, ◌<◌}
use native.Mathlib.Omega.{arith}
use native.Mathlib.Nat.{not-suc-le-zero}
use lib.ListN.{length, length-append}
use Rattle.archive.specs.Model.{header_width, entry_width}
use Rattle.archive.specs.Reading.{home_of, count_of, entry_at, size_at, held_from, bodies_at, reading}
use Rattle.archive.specs.Inner.{lines_from}
use Rattle.text.specs.Decimal.{decimal, item}
use Rattle.archive.specs.Listing.{home_word, entries_word, two_items, first_line, line, lines, listing}
use Rattle.archive.specs.declared.contents.Entry.{Entry}
use Rattle.archive.proofs.Bytes.Walking.{home-is, length-held_from}

-- ---- lengths

pub length-line : (e : Entry) → length (line e)
    ≡ length (decimal e.key.network) + length (decimal e.key.ssi) + length (decimal e.key.part) + length (decimal e.bits.0)
    + length (decimal e.day) + 19
unfolding line item
length-line e = simp length-append (omega arith)

pub length_two : (word : List ℕ) (n : ℕ) (other : List ℕ) (m : ℕ)
    → length (two_items word n other m) ≡ length word + length (decimal n) + length other + length (decimal m) + 1
unfolding two_items item
length_two word n other m = simp length-append (omega arith)

pub length-first : (home count : ℕ) → length (first_line home count) ≡ length (decimal home) + length (decimal count) + 15
unfolding first_line
length-first home count = omega (arith, length_two home_word home entries_word count)

-- ---- one entry more

pub lines_from-next : (b : List ℕ) (n at : ℕ) → 0 < n → lines_from b n at ≡ line (entry_at b at) ++ lines_from b (n - 1) (at + entry_width)
unfolding lines_from
lines_from-next b zero at h = absurd (not-suc-le-zero h)
lines_from-next b (suc n) at h = let e : n ≡ suc n - 1 = omega arith in ap (λ (k : ℕ). line (entry_at b at) ++ lines_from b k (at + entry_width)) e

pub lines_from-none : (b : List ℕ) (n at : ℕ) → n ≤ 0 → lines_from b n at ≡ []
unfolding lines_from
lines_from-none b zero at h = refl
lines_from-none b (suc n) at h = absurd (not-suc-le-zero h)

-- the same by an entry's index
module _ (b : List ℕ) (n i : ℕ) where
  pub lines_from-at : i < n
      → lines_from b (n - i) (header_width + entry_width * i)
      ≡ line (entry_at b (header_width + entry_width * i)) ++ lines_from b (n - (i + 1)) (header_width + entry_width * (i + 1))
  lines_from-at h =
      let left : n - i - 1 ≡ n - (i + 1) = omega arith in
      let next : header_width + entry_width * i + entry_width ≡ header_width + entry_width * (i + 1) = omega arith in
      lines_from-next b (n - i) (header_width + entry_width * i) (omega arith)
      ∙ (λ j. line (entry_at b (header_width + entry_width * i)) ++ lines_from b (left j) (next j))

  pub lines_from-over : n ≤ i → lines_from b (n - i) (header_width + entry_width * i) ≡ []
  lines_from-over h = lines_from-none b (n - i) (header_width + entry_width * i) (omega arith)

-- ---- the whole

-- the bodies do not matter
lines-read : (b : List ℕ) (n at off : ℕ) → lines (held_from b n at off) ≡ lines_from b n at
unfolding lines lines_from held_from
lines-read b zero at off = refl
lines-read b (suc n) at off = ap (λ (s : List ℕ). line (entry_at b at) ++ s) (lines-read b n (at + entry_width) (off + size_at b at))

pub listing-read : (b : List ℕ) → header_width ≤ length b
    → listing (reading b) ≡ first_line (home_of b) (count_of b) ++ lines_from b (count_of b) header_width
unfolding listing reading
listing-read b h =
    let l = length-held_from b (count_of b) header_width (bodies_at b) in
    let r = lines-read b (count_of b) header_width (bodies_at b) in
    λ i. first_line (sym (home-is b h) i) (l i) ++ r i
