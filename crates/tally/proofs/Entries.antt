-- A loop over the entries of a list among words, and what they come to so far. Assumes nothing.
use mathlib.Core.Path.{◌≡◌, refl, sym, ap, ◌∙◌, subst}
use mathlib.Core.List.{List, ◌∷◌}
use Prim.Native.Nat.{ℕ, zero, suc, ◌+◌, ◌-◌, ◌*◌, ◌≤◌, ◌<◌, min}
use native.Mathlib.Nat.{sub-zero}
use native.Mathlib.Omega.{arith}
use Rattle.std.proofs.Math.Nat.{mul-le-mul_left}
use lib.ListN.{length, take, drop, length-drop}
use lib.Seq.{drop-drop}
use Rattle.codec.specs.Codec.{Codec}
use Rattle.codec.specs.Parts.{seq}
use Rattle.codec.specs.Places.{cons, places}
use Rattle.words.specs.RecordWords.{entries_from}
use Rattle.tally.specs.Tally.{Tallies}
use Rattle.tally.specs.Inner.{Fits, Skips, Uncarried}
use Rattle.tally.specs.declared.Tally.{Tally}
use Rattle.tally.proofs.Parts.{then, fits-first, fits_next}
use Rattle.tally.proofs.Unused.{uncarried-places, skipped}

-- of the places from i on, the next is used, and the others are those from i + 1 on
pub places-next : {A : Type 0} (c z : Codec A) (m n i : ℕ) → i < m → i < n → places c z (m - i) (n - i) ≡ cons c
    (places c z (m - (i + 1)) (n - (i + 1)))
unfolding places
places-next c z m n i h k =
    let p : m - i ≡ suc (m - (i + 1)) = omega arith in
    let q : n - i ≡ suc (n - (i + 1)) = omega arith in
    rw (p, q)

pub entries_next : {A : Type 0} (f : List ℕ → A) (k m i : ℕ) (w : List ℕ) (at : ℕ) → i < m
    → entries_from f k (m - i) (drop at w) ≡ f (drop at w) ∷ entries_from f k (m - (i + 1)) (drop (at + k) w)
unfolding entries_from
entries_next f k m i w at h =
    let p : m - i ≡ suc (m - (i + 1)) = omega arith in
    ap (λ (x : ℕ). entries_from f k x (drop at w)) p ∙ ap (λ (v : List ℕ). f (drop at w) ∷ entries_from f k (m - (i + 1)) v) (drop-drop k at w)

-- as many are used as there are places
pub places-most : {A : Type 0} (c z : Codec A) (m n : ℕ) → places c z m n ≡ places c z m (min n m)
unfolding places
places-most c z zero n = refl
places-most c z (suc m) zero = let e : 0 ≡ min 0 (suc m) = omega arith in ap (λ (x : ℕ). places c z (suc m) x) e
places-most c z (suc m) (suc n) =
    let e : suc (min n m) ≡ min (suc n) (suc m) = omega arith in
    ap (cons c) (places-most c z m n) ∙ ap (λ (x : ℕ). places c z (suc m) x) e

-- ---- the loop

-- of m entries of k words each, of which the PDU carries the first n, the first i are counted; the others fit, and whatever they come to is
-- what all of them come to
pub record Tallying {A : Type 0} (c z : Codec A) (f : List ℕ → A) (k m n : ℕ) (words : List ℕ) (start : Tally) (i : ℕ) (t : Tally) : Type 0 where
  pub done : i ≤ n
  pub fits : Fits (places c z (m - i) (n - i)) (entries_from f k (m - i) (drop (k * i) words)) t
  pub rest : (r : Tally) → Tallies (places c z (m - i) (n - i)) (entries_from f k (m - i) (drop (k * i) words)) t r
      → Tallies (places c z m n) (entries_from f k m words) start r

-- one entry before others
module _ {A : Type 0} (c : Codec A) (d : Codec (List A)) {a : A} {l : List A} {t : Tally} where
  before : {s r : Tally} → Tallies c a t s → Tallies d l s r → Tallies (cons c d) (a ∷ l) t r
  unfolding cons seq
  before p q = let h = then (λ x. d) p q in record { clean = h.clean; refusal = h.refusal; bits = h.bits }

  fits-before : Fits (cons c d) (a ∷ l) t → Fits (seq c (λ x. d)) (a, l) t
  unfolding cons seq
  fits-before h = record { short = h.short }

module _ {A : Type 0} {c z : Codec A} {f : List ℕ → A} {k m n : ℕ} {words : List ℕ} {start : Tally} where
  pub tallying-start : Fits (places c z m n) (entries_from f k m words) start → Tallying c z f k m n words start 0 start
  tallying-start h =
      let none : k * 0 ≡ 0 = omega arith in
      record {
        done = omega arith;
        fits = rw (none, sub-zero m, sub-zero n) h;
        rest = λ r p. rw (none, sub-zero m, sub-zero n) at p;
      }

  module _ {i : ℕ} {t : Tally} (h : Tallying c z f k m n words start i t) where
    abbrev place : ℕ
    place = k * i

    next : place + k ≡ k * (i + 1)
    next = omega arith

    module _ (inside : i < n) (few : n ≤ m) where
      here : Fits (seq c (λ x. places c z (m - (i + 1)) (n - (i + 1))))
          (f (drop place words), entries_from f k (m - (i + 1)) (drop (place + k) words)) t
      here = fits-before _ _ (rw (places-next c z m n i (omega arith) inside, entries_next f k m i words place (omega arith)) at h.fits)

      pub tallying-fits : Fits c (f (drop place words)) t
      tallying-fits = fits-first _ here

      pub tallying-next : {s : Tally} → Tallies c (f (drop place words)) t s → Tallying c z f k m n words start (i + 1) s
      tallying-next {s} p = record {
        done = omega arith;
        fits = subst (λ (q : ℕ). Fits (places c z (m - (i + 1)) (n - (i + 1))) (entries_from f k (m - (i + 1)) (drop q words)) s) next
            (fits_next _ here p);
        rest = λ r q. h.rest r
            (rw (places-next c z m n i (omega arith) inside, entries_next f k m i words place (omega arith), next) (before _ _ p q));
      }

    -- after the last that is used, the words of the others
    pub tallying-done : {r : Tally} {count : ℕ} → Uncarried k z f → n ≤ i → count ≡ k * (m - i) → place + count ≤ length words
        → Skips (take count (drop place words)) t r → Tallies (places c z m n) (entries_from f k m words) start r
    tallying-done {r} {count} none all e room s =
        let last : n - i ≡ 0 = omega arith in
        h.rest r (rw last (skipped (uncarried-places c none (m - i) (drop place words) (omega (arith, length-drop place words))) (rw e at s)))

-- with k words each, those of m entries are all there
module _ (k m : ℕ) {room : ℕ} (there : k * m ≤ room) where
  pub inside : (i n : ℕ) → i < n → n ≤ m → k * i + k ≤ room
  inside i n h few = let most : k * (i + 1) ≤ k * m = mul-le-mul_left k (omega arith) in omega arith

  pub before-all : (n : ℕ) → n ≤ m → k * n ≤ k * m
  before-all n few = mul-le-mul_left k few

  pub all-inside : (n : ℕ) → n ≤ m → k * n + (k * m - k * n) ≤ room
  all-inside n few = let most : k * n ≤ k * m = mul-le-mul_left k few in omega arith

  pub others : (n : ℕ) → n ≤ m → k * m - k * n ≡ k * (m - n)
  others n few = go (m - n) (omega arith)
    where
      go : (p : ℕ) → n + p ≡ m → k * m - k * n ≡ k * p
      go p e = let all : k * m ≡ k * (n + p) = ap (λ (x : ℕ). k * x) (sym e) in omega arith
