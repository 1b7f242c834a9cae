-- Layouts: words that read back as what they were written for, and are written again as they were. Assumes nothing.
use mathlib.Core.Path.{◌≡◌, refl, sym, ap, ◌∙◌}
use mathlib.Core.List.{List, [], ◌∷◌, ◌++◌, append_assoc}
use Prim.Native.Nat.{ℕ, zero, suc, ◌+◌, ◌*◌, ◌≤◌, ◌<◌}
use native.Mathlib.Omega.{arith}
use lib.ListN.{length, take, drop, length-append, length-drop}
use lib.Seq.{take-add, drop-drop, drop_at, drop-cons, drop-append-add, get_or-append-add}
use Rattle.bits.specs.Bits.{Bytes}
use Rattle.bits.specs.Lists.{Each}
use Rattle.words.specs.RecordWords.{word, in_turn, entries_from, narrow, narrowed}

-- ---- parts of words

-- what stands k words after a front of n words
module _ (p q : List ℕ) (n k : ℕ) (l : length p ≡ n) where
  pub drop-after : drop (n + k) (p ++ q) ≡ drop k q
  drop-after = rw (← l) (drop-append-add p q k)

  pub word_after : word (p ++ q) (n + k) ≡ word q k
  word_after = rw (← l) (get_or-append-add p q k 0)

-- s is n words of w, from `at` on
abbrev pub Spelt : List ℕ → ℕ → ℕ → List ℕ → Type 0
Spelt w at n s = s ≡ take n (drop at w)

pub spelt-word : (w : List ℕ) (at : ℕ) → at < length w → Spelt w at 1 (word w at ∷ [])
spelt-word w at h = sym (ap (take 1) (drop-cons w at 0 h))

pub spelt-then : (w : List ℕ) (at n m : ℕ) {s t : List ℕ} → Spelt w at n s → Spelt w (at + n) m t → Spelt w at (n + m) (s ++ t)
spelt-then w at n m x y = (λ i. x i ++ (y ∙ ap (take m) (sym (drop-drop n at w))) i) ∙ sym (take-add n m (drop at w))

-- ---- bytes

pub narrowed_bytes : (s : List ℕ) → Bytes s → narrowed s ≡ s
unfolding narrowed
narrowed_bytes [] b = refl
narrowed_bytes (x ∷ s) b =
    let e : narrow x ≡ x = omega (arith, b 0) in
    λ i. e i ∷ narrowed_bytes s (λ k. b (suc k)) i

-- ---- layouts

-- n words: written for what fits they read back, and those that are narrow enough are written again
pub record Layout {A : Type 0} (n : ℕ) (to : A → List ℕ) (from : List ℕ → A) (Fits : A → Type 0) (Narrow : List ℕ → Type 0) : Type 0 where
  pub long : (x : A) → Fits x → length (to x) ≡ n
  pub back : (x : A) (rest : List ℕ) → Fits x → from (to x ++ rest) ≡ x
  pub forth : (w : List ℕ) → n ≤ length w → Narrow (take n w) → to (from w) ≡ take n w

-- entries in turn
module _ {A : Type 0} {n : ℕ} {to : A → List ℕ} {from : List ℕ → A} {Fits : A → Type 0} {Narrow : List ℕ → Type 0}
    (l : Layout n to from Fits Narrow) where
  pub entries-long : (count : ℕ) (xs : List A) → length xs ≡ count → Each Fits xs → length (in_turn to xs) ≡ n * count
  unfolding in_turn
  entries-long count xs e f = go xs f ∙ ap (λ (k : ℕ). n * k) e
    where
      go : (xs : List A) → Each Fits xs → length (in_turn to xs) ≡ n * length xs
      go [] f = omega arith
      go (x ∷ xs) (f, fs) = omega (arith, length-append (to x) (in_turn to xs), l.long x f, go xs fs)

  pub entries-back : (count : ℕ) (xs : List A) (rest : List ℕ) → length xs ≡ count → Each Fits xs
      → entries_from from n count (in_turn to xs ++ rest) ≡ xs
  unfolding in_turn entries_from
  entries-back count xs rest e f = ap (λ (k : ℕ). entries_from from n k (in_turn to xs ++ rest)) (sym e) ∙ go xs f
    where
      go : (xs : List A) → Each Fits xs → entries_from from n (length xs) (in_turn to xs ++ rest) ≡ xs
      go [] f = refl
      go (x ∷ xs) (f, fs) =
          let e = append_assoc (to x) (in_turn to xs) rest in
          let d = ap (drop n) e ∙ drop_at (to x) (in_turn to xs ++ rest) n (l.long x f) in
          λ i. (ap from e ∙ l.back x (in_turn to xs ++ rest) f) i ∷ (ap (entries_from from n (length xs)) d ∙ go xs fs) i

  pub entries-forth : ((s t : List ℕ) → Narrow (s ++ t) → Narrow s × Narrow t)
      → (count : ℕ) (w : List ℕ) → n * count ≤ length w → Narrow (take (n * count) w) → in_turn to (entries_from from n count w) ≡ take (n * count) w
  unfolding in_turn entries_from
  entries-forth parts zero w h b = let z : n * 0 ≡ 0 = omega arith in sym (ap (λ (k : ℕ). take k w) z)
  entries-forth parts (suc c) w h b =
      let z : n * suc c ≡ n + n * c = omega arith in
      let e : take (n * suc c) w ≡ take n w ++ take (n * c) (drop n w) = ap (λ (k : ℕ). take k w) z ∙ take-add n (n * c) w in
      let p = parts (take n w) (take (n * c) (drop n w)) (rw e at b) in
      let rest = entries-forth parts c (drop n w) (omega (arith, length-drop n w)) p.1 in
      (λ i. l.forth w (omega arith) p.0 i ++ rest i) ∙ sym e
