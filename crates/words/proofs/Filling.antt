-- An array filled place by place with entries from words. Assumes nothing.
use mathlib.Core.Path.{◌≡◌, refl, sym, ap, ◌∙◌}
use mathlib.Core.List.{List, [], ◌∷◌, ◌++◌}
use Prim.Native.Nat.{ℕ, zero, suc, ◌+◌, ◌*◌, ◌≤◌, ◌<◌}
use native.Mathlib.Omega.{arith}
use native.Mathlib.Nat.{not-suc-le-zero, le_of_suc-le-suc}
use native.Mathlib.Numerals.{add-one}
use lib.ListN.{length, take, drop, set, length-set}
use lib.Seq.{take-length, take-suc-set, drop-drop, get_or-drop}
use Rattle.words.specs.RecordWords.{word, entries_from, narrow, narrowed}

-- the word at a place is the first from there on
pub first_word : (w : List ℕ) (at : ℕ) → word w at ≡ word (drop at w) 0
first_word w at = let z : at ≡ at + 0 = omega arith in ap (word w) z ∙ sym (get_or-drop at w 0 0)

-- one entry more is the last
entries-more : {A : Type 0} (f : List ℕ → A) (width n : ℕ) (w : List ℕ)
    → entries_from f width (suc n) w ≡ entries_from f width n w ++ (f (drop (width * n) w) ∷ [])
unfolding entries_from
entries-more f width zero w = let z : width * 0 ≡ 0 = omega arith in sym (ap (λ (k : ℕ). f (drop k w) ∷ []) z)
entries-more f width (suc n) w =
    let z : width + width * n ≡ width * suc n = omega arith in
    let e : drop (width * n) (drop width w) ≡ drop (width * suc n) w = drop-drop (width * n) width w ∙ ap (λ (k : ℕ). drop k w) z in
    λ i. f w ∷ (entries-more f width n (drop width w) ∙ (λ j. entries_from f width n (drop width w) ++ (f (e j) ∷ []))) i

-- ---- by a loop

-- the first i of n places have the first i entries from `start` on
pub record Filled {A : Type 0} (f : List ℕ → A) (width n : ℕ) (w : List ℕ) (start i : ℕ) (held : List A) : Type 0 where
  pub within : i ≤ n
  pub long : length held ≡ n
  pub first : take i held ≡ entries_from f width i (drop start w)

module _ {A : Type 0} {f : List ℕ → A} {width n : ℕ} {w : List ℕ} {start : ℕ} where
  pub filled_none : {held : List A} → length held ≡ n → Filled f width n w start 0 held
  unfolding entries_from
  filled_none l = record { within = omega arith; long = l; first = refl }

  pub filled_more : {i from : ℕ} {held : List A} {x : A} → i < n → from ≡ start + width * i → x ≡ f (drop from w) → Filled f width n w start i held
      → Filled f width n w start (i + 1) (set held i x)
  filled_more {i} {from} {held} {x} h at e p =
      let v : x ≡ f (drop (width * i) (drop start w)) = e ∙ ap f (ap (λ (k : ℕ). drop k w) at ∙ sym (drop-drop (width * i) start w)) in
      record {
        within = omega arith;
        long = length-set held i x ∙ p.long;
        first =
            rw add-one
            (take-suc-set held i x (omega (arith, p.long)) ∙ (λ k. p.first k ++ (v k ∷ [])) ∙ sym (entries-more f width i (drop start w)));
      }

  pub filled-all : {i : ℕ} {held : List A} → n ≤ i → Filled f width n w start i held → held ≡ entries_from f width n (drop start w)
  filled-all {i} {held} h p =
      let e : i ≡ n = omega (arith, p.within) in
      sym (take-length held) ∙ ap (λ (j : ℕ). take j held) (p.long ∙ sym e) ∙ p.first ∙ ap (λ (j : ℕ). entries_from f width j (drop start w)) e

-- ---- entries that are words

pub words-taken : (n : ℕ) (w : List ℕ) → n ≤ length w → entries_from (λ (v : List ℕ). word v 0) 1 n w ≡ take n w
unfolding entries_from
words-taken zero w h = refl
words-taken (suc n) [] h = absurd (not-suc-le-zero h)
words-taken (suc n) (x ∷ w) h = ap (λ (s : List ℕ). x ∷ s) (words-taken n w (le_of_suc-le-suc h))

pub words-narrowed : (n : ℕ) (w : List ℕ) → n ≤ length w → entries_from (λ (v : List ℕ). narrow (word v 0)) 1 n w ≡ narrowed (take n w)
unfolding entries_from narrowed
words-narrowed zero w h = refl
words-narrowed (suc n) [] h = absurd (not-suc-le-zero h)
words-narrowed (suc n) (x ∷ w) h = ap (λ (s : List ℕ). narrow x ∷ s) (words-narrowed n w (le_of_suc-le-suc h))
