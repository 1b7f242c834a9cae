-- The shape of an archive, header, contents and length, as a test and as document 02 says it. Assumes nothing.
use mathlib.Core.Path.{◌≡◌, refl, sym, subst}
use mathlib.Core.Logic.{⊎_elim}
use mathlib.Core.Bool.{true, ◌&&◌}
use mathlib.Core.List.{List, [], ◌∷◌}
use Prim.Native.Nat.{ℕ, ◌+◌, ◌*◌, ◌<◌}
use native.Mathlib.Omega.{arith}
use lib.ListN.{length}
use lib.Dec.{ltb, leb, eqb}
use borrow.Author.Tests.{ltb-true, leb-true, eqb-true, lt-ltb, le-leb, eq-eqb}
use Rattle.bits.specs.Lists.{Each}
use Rattle.bits.proofs.Tests.{both, both⁻¹}
use Rattle.archive.specs.Model.{Held, Archive, rank, in_range, is_day, length_of, within_limits}
use Rattle.archive.specs.Reading.{count_of, bodies_at, held_in, reading}
use Rattle.archive.specs.Checking.{in_order, has_shape}
use Rattle.archive.specs.Inner.{KeyFits}
use Rattle.archive.specs.declared.contents.Key.{Key}
use Rattle.archive.proofs.Bytes.Walking.{length-held_from}
use Rattle.promises.specs.Archive.{Rising, Ranged, Laid}
use Rattle.promises.specs.Broken.{HasShape}
use Rattle.promises.proofs.Archive.Forming.{before, above, Dated}
use Rattle.promises.proofs.Archive.Laying.{laid-size, reads-laid, read_as}
use Rattle.promises.proofs.Archive.Finding.{ranged-says, ranged-is}

key_fits : (k : Key) → Ranged k → KeyFits k
key_fits k r = record { network = r.network; ssi = r.ssi; part = ⊎_elim (λ e. omega (arith, e)) (λ e. omega (arith, e)) r.part }

abbrev Keys : List Held → Type 0
Keys hs = Each (λ h. Ranged h.entry.key) hs

-- the first of an order: it is above the rank, in range, and before the others
record Ordered (last : ℕ) (h : Held) (hs : List Held) : Type 0 where
  pub rises : last < rank h
  pub ranged : in_range h.entry.key ≡ true
  pub day : h.entry.day < 65536
  pub others : in_order (rank h) hs ≡ true

ordered : (last : ℕ) (h : Held) (hs : List Held) → in_order last (h ∷ hs) ≡ true → Ordered last h hs
unfolding in_order
ordered last h hs e =
    let p = both (ltb last (rank h)) (in_range h.entry.key && (is_day h.entry.day && in_order (rank h) hs)) e in
    let q = both (in_range h.entry.key) (is_day h.entry.day && in_order (rank h) hs) p.1 in
    let d = both (is_day h.entry.day) (in_order (rank h) hs) q.1 in
    record { rises = ltb-true _ _ p.0; ranged = q.0; day = ltb-true _ _ d.0; others = d.1 }

is-ordered : (last : ℕ) (h : Held) (hs : List Held) → Ordered last h hs → in_order last (h ∷ hs) ≡ true
unfolding in_order
is-ordered last h hs o = both⁻¹ (lt-ltb _ _ o.rises) (both⁻¹ o.ranged (both⁻¹ (lt-ltb _ _ o.day) o.others))

keys-ranged : (last : ℕ) (hs : List Held) → in_order last hs ≡ true → Keys hs
keys-ranged last [] e = tt
keys-ranged last (h ∷ hs) e =
    let o = ordered last h hs e in
    (ranged-says h.entry.key o.ranged, keys-ranged (rank h) hs o.others)

days-fit : (last : ℕ) (hs : List Held) → in_order last hs ≡ true → Dated hs
days-fit last [] e = tt
days-fit last (h ∷ hs) e = let o = ordered last h hs e in (o.day, days-fit (rank h) hs o.others)

keys_rise : (last : ℕ) (hs : List Held) → in_order last hs ≡ true → Rising hs
keys_rise last [] e = tt
keys_rise last (h ∷ []) e = tt
keys_rise last (h ∷ g ∷ hs) e =
    let o = ordered last h (g ∷ hs) e in
    let p = ordered (rank h) g hs o.others in
    let first = key_fits h.entry.key (ranged-says _ o.ranged) in
    let second = key_fits g.entry.key (ranged-says _ p.ranged) in
    (before h.entry.key g.entry.key first second p.rises, keys_rise (rank h) (g ∷ hs) o.others)

abbrev Above : ℕ → List Held → Type 0
Above last [] = Unit
Above last (h ∷ hs) = last < rank h

in_order_lem : (last : ℕ) (hs : List Held) → Keys hs → Dated hs → Rising hs → Above last hs → in_order last hs ≡ true
unfolding in_order
in_order_lem last [] k d r a = refl
in_order_lem last (h ∷ []) k d r a = is-ordered last h [] (record { rises = a; ranged = ranged-is _ k.0; day = d.0; others = refl })
in_order_lem last (h ∷ g ∷ hs) k d r a =
    let l = above h.entry.key g.entry.key (key_fits _ k.0) (key_fits _ k.1.0) r.0 in
    is-ordered last h (g ∷ hs)
    (record { rises = a; ranged = ranged-is _ k.0; day = d.0; others = in_order_lem (rank h) (g ∷ hs) k.1 d.1 r.1 l })

above_zero : (hs : List Held) → Keys hs → Above 0 hs
above_zero [] k = tt
above_zero (h ∷ hs) k = ⊎_elim (λ e. omega (arith, e)) (λ e. omega (arith, e)) k.0.part

module _ (b : List ℕ) where
  abbrev a : Archive
  a = reading b

  pub shape-says : has_shape b ≡ true → HasShape b
  unfolding has_shape reading
  shape-says e =
      let whole = eqb (length_of a) (length b) in
      let limits = within_limits (length a.held) (length_of a) in
      let p = both (ltb a.home 16777216) (limits && (in_order 0 a.held && whole)) e in
      let q = both limits (in_order 0 a.held && whole) p.1 in
      let o = both (in_order 0 a.held) whole q.1 in
      let l = both (leb (length a.held) 512) (leb (length_of a) 65536) q.0 in
      let size = eqb-true (length_of a) (length b) o.1 in
      let n : length (held_in b) ≡ count_of b = length-held_from b (count_of b) 5 (bodies_at b) in
      record {
        archive = a;
        network = ltb-true _ _ p.0;
        few = leb-true _ _ l.0;
        small = omega (arith, size, leb-true (length_of a) 65536 l.1);
        keys = keys-ranged 0 a.held o.0;
        rising = keys_rise 0 a.held o.0;
        days = days-fit 0 a.held o.0;
        home = refl;
        count = n;
        laid = subst (λ (k : ℕ). Laid b 5 (5 + 11 * k) (held_in b)) (sym n) (reads-laid b (count_of b) 5 (bodies_at b) (omega (arith, size, n)));
      }

  pub same-archive : (k : HasShape b) → k.archive ≡ a
  same-archive k = read_as b k.archive k.home k.count k.laid

  pub shape_is : HasShape b → has_shape b ≡ true
  unfolding has_shape
  shape_is k =
      let hs = k.archive.held in
      let size = laid-size b 5 (5 + 11 * length hs) hs k.laid in
      rw (sym (same-archive k))
      (both⁻¹ (lt-ltb _ _ k.network)
      (both⁻¹ (both⁻¹ (le-leb (length hs) 512 k.few) (le-leb (length_of k.archive) 65536 (omega (arith, size, k.small))))
      (both⁻¹ (in_order_lem 0 hs k.keys k.days k.rising (above_zero hs k.keys)) (eq-eqb (length_of k.archive) (length b) (omega (arith, size))))))
