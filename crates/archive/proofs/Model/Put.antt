-- A PDU put in its place: what is held for each key, how many there are, and that the rules are kept. Assumes nothing.
use Rattle.std.specs.Prelude.{Option, None, Some}
use mathlib.Core.Path.{◌≡◌, refl, sym, ap, ◌∙◌}
use mathlib.Core.Bool.{Bool, true, false}
use mathlib.Core.List.{List, [], ◌∷◌}
use Prim.Native.Nat.{ℕ, suc, ◌≤◌, ◌<◌}
use native.Mathlib.Omega.{arith}
use lib.ListN.{length}
use lib.Dec.{ltb, eqb}
use borrow.Author.Tests.{ltb-true, ltb-false, eqb-true, eqb-false, ne_eqb}
use Rattle.bits.specs.Bits.{pick}
use Rattle.archive.specs.Model.{Held, rank_of, rank}
use Rattle.archive.specs.Filing.{body_agrees, keeps_rules}
use Rattle.archive.specs.Keeping.{put}
use Rattle.archive.specs.Restoring.{lookup}
use Rattle.archive.specs.declared.contents.Key.{Key}
use Rattle.archive.proofs.Model.Rules.{Kept, kept, is-kept}

-- the new one for its key, and the old one for every other key
pub lookup-put : (key : Key) (h : Held) (hs : List Held) → lookup key (put h hs) ≡ pick (eqb (rank h) (rank_of key)) (Some h) (lookup key hs)
lookup-put key h [] = refl
lookup-put key h (x ∷ xs) = go (ltb (rank x) (rank h)) refl (eqb (rank x) (rank h)) refl (eqb (rank x) (rank_of key)) refl
    (eqb (rank h) (rank_of key)) refl (lookup-put key h xs)
  where
    go : (p : Bool) → ltb (rank x) (rank h) ≡ p → (q : Bool) → eqb (rank x) (rank h) ≡ q → (r : Bool) → eqb (rank x) (rank_of key) ≡ r → (s : Bool)
        → eqb (rank h) (rank_of key) ≡ s
        → lookup key (put h xs) ≡ pick (eqb (rank h) (rank_of key)) (Some h) (lookup key xs)
        → lookup key (put h (x ∷ xs)) ≡ pick (eqb (rank h) (rank_of key)) (Some h) (lookup key (x ∷ xs))
    go true hp q hq true hr true hs ih =
        absurd (omega (arith, ltb-true (rank x) (rank h) hp, eqb-true (rank x) (rank_of key) hr, eqb-true (rank h) (rank_of key) hs))
    go true hp q hq true hr false hs ih = rw (hp, hr, hs)
    go true hp q hq false hr true hs ih = rw (hp, hr, hs) (ih ∙ rw hs)
    go true hp q hq false hr false hs ih = rw (hp, hr, hs) (ih ∙ rw hs)
    go false hp true hq true hr true hs ih = rw (hp, hq, hr, hs)
    go false hp true hq true hr false hs ih =
        absurd (eqb-false (rank h) (rank_of key) hs (sym (eqb-true (rank x) (rank h) hq) ∙ eqb-true (rank x) (rank_of key) hr))
    go false hp true hq false hr true hs ih =
        absurd (eqb-false (rank x) (rank_of key) hr (eqb-true (rank x) (rank h) hq ∙ eqb-true (rank h) (rank_of key) hs))
    go false hp true hq false hr false hs ih = rw (hp, hq, hr, hs)
    go false hp false hq r hr true hs ih = rw (hp, hq, hs)
    go false hp false hq r hr false hs ih = rw (hp, hq, hs)

-- ---- in an archive that keeps the rules

pub rules-put : (home last : ℕ) (h : Held) (hs : List Held) → h.entry.day < 65536 → body_agrees home h ≡ true → last < rank h
    → keeps_rules home last hs ≡ true → keeps_rules home last (put h hs) ≡ true
unfolding keeps_rules
rules-put home last h [] d a r k = is-kept home last h [] (record { rises = r; day = d; agrees = a; others = refl })
rules-put home last h (x ∷ xs) d a r k = go (ltb (rank x) (rank h)) refl (eqb (rank x) (rank h)) refl (rules-put home (rank x) h xs d a)
  where
    u : Kept home last x xs
    u = kept home last x xs k

    go : (p : Bool) → ltb (rank x) (rank h) ≡ p → (q : Bool) → eqb (rank x) (rank h) ≡ q
        → (rank x < rank h → keeps_rules home (rank x) xs ≡ true → keeps_rules home (rank x) (put h xs) ≡ true)
        → keeps_rules home last (put h (x ∷ xs)) ≡ true
    go true hp q hq ih =
        rw hp (is-kept home last x (put h xs)
        (record { rises = u.rises; day = u.day; agrees = u.agrees; others = ih (ltb-true (rank x) (rank h) hp) u.others }))
    go false hp true hq ih =
        rw (hp, hq) (is-kept home last h xs (record { rises = r; day = d; agrees = a; others = rw (eqb-true (rank x) (rank h) hq) at u.others }))
    go false hp false hq ih =
        let m : rank h ≤ rank x = ltb-false (rank x) (rank h) hp in
        let n : rank x ≡ rank h → ⊥ = eqb-false (rank x) (rank h) hq in
        rw (hp, hq)
        (is-kept home last h (x ∷ xs)
        (record {
          rises = r;
          day = d;
          agrees = a;
          others =
              is-kept home (rank h) x xs (record { rises = omega (arith, m, n); day = u.day; agrees = u.agrees; others = u.others });
        }))

-- whether nothing is held
abbrev pub is_none : Option Held → Bool
is_none None = true
is_none (Some h) = false

none_above : (home last : ℕ) (key : Key) (hs : List Held) → keeps_rules home last hs ≡ true → rank_of key ≤ last → lookup key hs ≡ None
none_above home last key [] k h = refl
none_above home last key (x ∷ xs) k h =
    let u = kept home last x xs k in
    rw (ne_eqb (rank x) (rank_of key) (λ (q : rank x ≡ rank_of key). omega (arith, u.rises)))
    (none_above home (rank x) key xs u.others (omega (arith, u.rises)))

-- one more for a new key, as many as before for a key that is held
pub length-put : (home last : ℕ) (h : Held) (hs : List Held) → keeps_rules home last hs ≡ true
    → length (put h hs) ≡ pick (is_none (lookup h.entry.key hs)) (suc (length hs)) (length hs)
length-put home last h [] k = refl
length-put home last h (x ∷ xs) k =
    go (ltb (rank x) (rank h)) refl (eqb (rank x) (rank h)) refl (length-put home (rank x) h xs (kept home last x xs k).others)
  where
    u : Kept home last x xs
    u = kept home last x xs k

    more : (p : Bool) (n m : ℕ) → m ≡ pick p (suc n) n → suc m ≡ pick p (suc (suc n)) (suc n)
    more true n m e = ap suc e
    more false n m e = ap suc e

    go : (p : Bool) → ltb (rank x) (rank h) ≡ p → (q : Bool) → eqb (rank x) (rank h) ≡ q
        → length (put h xs) ≡ pick (is_none (lookup h.entry.key xs)) (suc (length xs)) (length xs)
        → length (put h (x ∷ xs)) ≡ pick (is_none (lookup h.entry.key (x ∷ xs))) (suc (length (x ∷ xs))) (length (x ∷ xs))
    go true hp q hq ih =
        let r = ltb-true (rank x) (rank h) hp in
        rw (hp, ne_eqb (rank x) (rank h) (λ (z : rank x ≡ rank h). omega arith))
        (more (is_none (lookup h.entry.key xs)) (length xs) (length (put h xs)) ih)
    go false hp true hq ih = rw (hp, hq)
    go false hp false hq ih =
        let r = ltb-false (rank x) (rank h) hp in
        rw (hp, hq, none_above home (rank x) h.entry.key xs u.others (omega arith))
