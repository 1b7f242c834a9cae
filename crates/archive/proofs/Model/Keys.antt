-- Keys: one key twice, keys in range, and that the number by which entries rise is by network, then SSI, then part, and names one user and
-- part. Assumes nothing.
use Rattle.std.specs.Prelude.{Option, Some}
use Rattle.std.proofs.Common.{Ordering, Less, Equal, Greater}
use Rattle.std.specs.Ordering.{nat_cmp, partial_ordering_then, is_some_and, is_lt, is_le}
use mathlib.Core.Path.{◌≡◌, refl, sym, ap, ◌∙◌}
use mathlib.Core.Bool.{Bool, true, false, ◌&&◌}
use Prim.Native.Nat.{ℕ, ◌<◌, ◌≤◌}
use native.Mathlib.Omega.{arith}
use lib.Dec.{ltb, leb, eqb}
use borrow.Author.Tests.{ltb-true, ltb-false, leb-true, eqb-true, eqb-false, eq-eqb, ne_eqb, lt-ltb, le-ltb, le-leb, lt-leb}
use Rattle.bits.proofs.Tests.{differ, both, both⁻¹}
use Rattle.archive.specs.Model.{rank_of, in_range}
use Rattle.archive.specs.Inner.{KeyFits}
use Rattle.archive.specs.Filing.{same_key}
use Rattle.archive.specs.declared.contents.Key.{Key}

-- ---- one key

pub same_key_lem : (a k : Key) → same_key a k ≡ true → a ≡ k
same_key_lem a k h =
    let p = both (eqb a.network k.network) (eqb a.ssi k.ssi && eqb a.part k.part) h in
    let q = both (eqb a.ssi k.ssi) (eqb a.part k.part) p.1 in
    let network = eqb-true a.network k.network p.0 in
    let ssi = eqb-true a.ssi k.ssi q.0 in
    let part = eqb-true a.part k.part q.1 in
    λ i. record { network = network i; ssi = ssi i; part = part i }

pub is-same_key : (a k : Key) → a ≡ k → same_key a k ≡ true
is-same_key a k h =
    both⁻¹ (eq-eqb _ _ (λ i. (h i).network)) (both⁻¹ (eq-eqb _ _ (λ i. (h i).ssi)) (eq-eqb _ _ (λ i. (h i).part)))

-- ---- in range

pub record Ranged (k : Key) : Type 0 where
  pub network : k.network < 16777216
  pub ssi : k.ssi < 16777216
  pub low : 1 ≤ k.part
  pub high : k.part ≤ 2

pub ranged : (k : Key) → in_range k ≡ true → Ranged k
unfolding in_range
ranged k e =
    let p = both (ltb k.network 16777216) (ltb k.ssi 16777216 && (leb 1 k.part && leb k.part 2)) e in
    let q = both (ltb k.ssi 16777216) (leb 1 k.part && leb k.part 2) p.1 in
    let r = both (leb 1 k.part) (leb k.part 2) q.1 in
    record { network = ltb-true _ _ p.0; ssi = ltb-true _ _ q.0; low = leb-true _ _ r.0; high = leb-true _ _ r.1 }

pub in-range : (k : Key) → k.network < 16777216 → k.ssi < 16777216 → 1 ≤ k.part → k.part ≤ 2 → in_range k ≡ true
unfolding in_range
in-range k n s l h = both⁻¹ (lt-ltb _ _ n) (both⁻¹ (lt-ltb _ _ s) (both⁻¹ (le-leb _ _ l) (le-leb _ _ h)))

-- ---- the order

pub by-network : (k l : Key) → KeyFits k → k.network < l.network → rank_of k < rank_of l
by-network k l h n = omega (arith, h.ssi, h.part)

pub by-ssi : (k l : Key) → KeyFits k → k.network ≡ l.network → k.ssi < l.ssi → rank_of k < rank_of l
by-ssi k l h n s = omega (arith, h.part)

pub by_part : (k l : Key) → k.network ≡ l.network → k.ssi ≡ l.ssi → k.part < l.part → rank_of k < rank_of l
by_part k l n s p = omega arith

-- ---- the order that the code derives, field by field, is that of the ranks

less : {x y : ℕ} → x < y → nat_cmp x y ≡ Less
less {x} {y} h = rw (lt-ltb x y h)

equal : {x y : ℕ} → x ≡ y → nat_cmp x y ≡ Equal
equal {x} {y} h = rw (le-ltb x y (omega (arith, h)), eq-eqb x y h)

greater : {x y : ℕ} → y < x → nat_cmp x y ≡ Greater
greater {x} {y} h = rw (le-ltb x y (omega arith), ne_eqb x y (λ (e : x ≡ y). omega arith))

abbrev pub by_fields : Key → Key → Option Ordering
by_fields a b =
    partial_ordering_then (Some (nat_cmp a.network b.network))
    (partial_ordering_then (Some (nat_cmp a.ssi b.ssi)) (Some (nat_cmp a.part b.part)))

module _ (a b : Key) (h : KeyFits a) (k : KeyFits b) where
  pub by_ranks : by_fields a b ≡ Some (nat_cmp (rank_of a) (rank_of b))
  by_ranks = go (ltb a.network b.network) refl (eqb a.network b.network) refl
    where
      part : a.network ≡ b.network → a.ssi ≡ b.ssi → (t : Bool) → ltb a.part b.part ≡ t → (q : Bool) → eqb a.part b.part ≡ q
          → Some (nat_cmp a.part b.part) ≡ Some (nat_cmp (rank_of a) (rank_of b))
      part n s true e q f = let l = ltb-true _ _ e in rw (less l, less (by_part a b n s l))
      part n s false e true f = let p = eqb-true _ _ f in rw (equal p, equal (ap rank_of (λ i. record { network = n i; ssi = s i; part = p i })))
      part n s false e false f =
          let l : b.part < a.part = omega (arith, ltb-false _ _ e, eqb-false _ _ f) in
          rw (greater l, greater (by_part b a (sym n) (sym s) l))

      ssi : a.network ≡ b.network → (t : Bool) → ltb a.ssi b.ssi ≡ t → (q : Bool) → eqb a.ssi b.ssi ≡ q
          → partial_ordering_then (Some (nat_cmp a.ssi b.ssi)) (Some (nat_cmp a.part b.part)) ≡ Some (nat_cmp (rank_of a) (rank_of b))
      ssi n true e q f = let l = ltb-true _ _ e in rw (less l, less (by-ssi a b h n l))
      ssi n false e true f = let s = eqb-true _ _ f in rw (equal s) (part n s (ltb a.part b.part) refl (eqb a.part b.part) refl)
      ssi n false e false f =
          let l : b.ssi < a.ssi = omega (arith, ltb-false _ _ e, eqb-false _ _ f) in
          rw (greater l, greater (by-ssi b a k (sym n) l))

      go : (t : Bool) → ltb a.network b.network ≡ t → (q : Bool) → eqb a.network b.network ≡ q
          → by_fields a b ≡ Some (nat_cmp (rank_of a) (rank_of b))
      go true e q f = let l = ltb-true _ _ e in rw (less l, less (by-network a b h l))
      go false e true f = let n = eqb-true _ _ f in rw (equal n) (ssi n (ltb a.ssi b.ssi) refl (eqb a.ssi b.ssi) refl)
      go false e false f =
          let l : b.network < a.network = omega (arith, ltb-false _ _ e, eqb-false _ _ f) in
          rw (greater l, greater (by-network b a k l))

  lt_of : (x y : ℕ) → is_lt (nat_cmp x y) ≡ ltb x y
  lt_of x y = go (ltb x y) refl (eqb x y) refl
    where
      go : (t : Bool) → ltb x y ≡ t → (q : Bool) → eqb x y ≡ q → is_lt (nat_cmp x y) ≡ t
      go true e q f = rw e
      go false e true f = rw (e, f)
      go false e false f = rw (e, f)

  le_of : (x y : ℕ) → is_le (nat_cmp x y) ≡ leb x y
  le_of x y = go (ltb x y) refl (eqb x y) refl
    where
      go : (t : Bool) → ltb x y ≡ t → (q : Bool) → eqb x y ≡ q → is_le (nat_cmp x y) ≡ leb x y
      go true e q f = rw (e, le-leb x y (omega (arith, ltb-true x y e)))
      go false e true f = rw (e, f, le-leb x y (omega (arith, eqb-true x y f)))
      go false e false f = rw (e, f, lt-leb x y (omega (arith, ltb-false x y e, eqb-false x y f)))

  pub lt-ranks : is_some_and is_lt (by_fields a b) ≡ ltb (rank_of a) (rank_of b)
  lt-ranks = ap (is_some_and is_lt) by_ranks ∙ lt_of (rank_of a) (rank_of b)

  pub le-ranks : is_some_and is_le (by_fields a b) ≡ leb (rank_of a) (rank_of b)
  le-ranks = ap (is_some_and is_le) by_ranks ∙ le_of (rank_of a) (rank_of b)

-- a rank is one user's and part's
pub same_rank : (a k : Key) → KeyFits a → KeyFits k → rank_of a ≡ rank_of k → a ≡ k
same_rank a k h r q =
    let network : a.network ≡ k.network = omega (arith, q, h.ssi, h.part, r.ssi, r.part) in
    let ssi : a.ssi ≡ k.ssi = omega (arith, q, h.ssi, h.part, r.ssi, r.part) in
    let part : a.part ≡ k.part = omega (arith, q, h.ssi, h.part, r.ssi, r.part) in
    λ i. record { network = network i; ssi = ssi i; part = part i }

pub rank-names : (a k : Key) → KeyFits a → Ranged k → eqb (rank_of a) (rank_of k) ≡ same_key a k
rank-names a k h r = go (same_key a k) refl
  where
    go : (p : Bool) → same_key a k ≡ p → eqb (rank_of a) (rank_of k) ≡ p
    go true t = eq-eqb _ _ (ap rank_of (same_key_lem a k t))
    go false f =
        ne_eqb _ _
        (λ (q : rank_of a ≡ rank_of k).
        let fits : KeyFits k = record { network = r.network; ssi = r.ssi; part = omega (arith, r.high) } in
        differ (sym (is-same_key a k (same_rank a k h fits q)) ∙ f))
