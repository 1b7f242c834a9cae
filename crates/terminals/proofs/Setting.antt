-- What a set line changes: the places of its layer, or the one that it names. Assumes nothing.
use mathlib.Core.Path.{◌≡◌, refl, sym, ap, ◌∙◌}
use mathlib.Core.Bool.{true, not}
use mathlib.Core.List.{List, [], ◌∷◌, ◌++◌}
use Prim.Native.Nat.{ℕ, zero, suc, ◌+◌, ◌-◌, ◌≤◌, ◌<◌}
use native.Mathlib.Omega.{arith}
use native.Mathlib.Nat.{not-suc-le-zero, le_of_suc-le-suc}
use borrow.Author.Tests.{eq-eqb, ne_eqb, not-true}
use lib.ListN.{length, get_or, take, drop, set, replicate, length-drop, length-replicate, take-append-drop}
use lib.Seq.{drop-drop, set-append_left, length-take-le}
use lib.Dec.{eqb}
use Rattle.std.specs.Prelude.{Option, Some, None}
use Rattle.bits.specs.Bits.{pick, splice}
use Rattle.bits.proofs.Tests.{both}
use Rattle.bits.proofs.Lists.{length_part}
use Rattle.terminals.specs.Layers.{layer_at, values, alone, places_from, places_of, places, nowhere}
use Rattle.terminals.specs.Profiles.{names_third, names, set_in}
use Rattle.terminals.specs.declared.layers.Layer.{Layer}
use Rattle.terminals.specs.declared.layers.Place.{Place}
use Rattle.terminals.specs.declared.lines.Fields.{Fields}
use Rattle.terminals.proofs.Places.{none_of, split, ends, only_one}

-- ---- part by part

pub length-set_in : (f : Fields) (ps : List Place) (t : List ℕ) → length (set_in f ps t) ≡ length t
unfolding set_in
length-set_in f [] t = refl
length-set_in f (p ∷ ps) [] = refl
length-set_in f (p ∷ ps) (v ∷ t) = ap suc (length-set_in f ps t)

pub set_in_append : (f : Fields) (ps qs : List Place) (t : List ℕ) → length ps ≤ length t
    → set_in f (ps ++ qs) t ≡ set_in f ps (take (length ps) t) ++ set_in f qs (drop (length ps) t)
unfolding set_in
set_in_append f [] qs t h = refl
set_in_append f (p ∷ ps) qs [] h = absurd (not-suc-le-zero h)
set_in_append f (p ∷ ps) qs (v ∷ t) h =
    ap (λ (s : List ℕ). pick (names f p) f.profile v ∷ s) (set_in_append f ps qs t (le_of_suc-le-suc h))

-- a place by its index
pub set_in-at : (f : Fields) (ps : List Place) (t : List ℕ) (i : ℕ) → i < length ps → i < length t
    → get_or (set_in f ps t) i 0 ≡ pick (names f (get_or ps i nowhere)) f.profile (get_or t i 0)
unfolding set_in
set_in-at f [] t i h k = absurd (not-suc-le-zero h)
set_in-at f (p ∷ ps) [] i h k = absurd (not-suc-le-zero k)
set_in-at f (p ∷ ps) (v ∷ t) zero h k = refl
set_in-at f (p ∷ ps) (v ∷ t) (suc i) h k = set_in-at f ps t i (le_of_suc-le-suc h) (le_of_suc-le-suc k)

-- another layer's places stay
pub others_stay : (f : Fields) (ps : List Place) (t : List ℕ) → none_of f.layer ps ≡ true → set_in f ps t ≡ t
unfolding set_in names none_of
others_stay f [] t e = refl
others_stay f (p ∷ ps) [] e = refl
others_stay f (p ∷ ps) (v ∷ t) e =
    let k = both (not (eqb f.layer p.layer)) (none_of f.layer ps) e in
    rw (not-true (eqb f.layer p.layer) k.0) (ap (λ (s : List ℕ). v ∷ s) (others_stay f ps t k.1))

-- ---- the layer's own places

-- whether a place of its own layer is named
own-place : (f : Fields) (q : Option ℕ) → names f (record { layer = f.layer; third = q }) ≡ names_third f.third q
unfolding names
own-place f q = rw (eq-eqb f.layer f.layer refl)

own_value : (f : Fields) (x a : ℕ) → f.third ≡ Some x → names f (record { layer = f.layer; third = Some a }) ≡ eqb x a
own_value f x a e = own-place f (Some a) ∙ ap (λ (y : Option ℕ). names_third y (Some a)) e

module _ (f : Fields) where
  own-all : (q : Option ℕ) → f.third ≡ None → names f (record { layer = f.layer; third = q }) ≡ true
  own-all q e = own-place f q ∙ ap (λ (y : Option ℕ). names_third y q) e

  -- all of them
  all-values : (a n : ℕ) (t : List ℕ) → f.third ≡ None → length t ≡ n → set_in f (values f.layer a n) t ≡ replicate n f.profile
  unfolding set_in values
  all-values a zero [] e h = refl
  all-values a zero (v ∷ t) e h = absurd (omega arith)
  all-values a (suc n) [] e h = absurd (omega arith)
  all-values a (suc n) (v ∷ t) e h =
      rw (own-all (Some a) e) (ap (λ (s : List ℕ). f.profile ∷ s) (all-values (suc a) n t e (omega arith)))

  -- none, if the value is below theirs
  no_value : (a n x : ℕ) (t : List ℕ) → f.third ≡ Some x → x < a → set_in f (values f.layer a n) t ≡ t
  unfolding set_in values
  no_value a zero x t e h = refl
  no_value a (suc n) x [] e h = refl
  no_value a (suc n) x (v ∷ t) e h =
      rw (own_value f x a e ∙ ne_eqb x a (λ q. omega arith)) (ap (λ (s : List ℕ). v ∷ s) (no_value (suc a) n x t e (omega arith)))

  -- the one of the value
  one_value : (a n k : ℕ) (t : List ℕ) → f.third ≡ Some (a + k) → k < n → length t ≡ n
      → set_in f (values f.layer a n) t ≡ set t k f.profile
  unfolding set_in values
  one_value a zero k t e h l = absurd (not-suc-le-zero h)
  one_value a (suc n) k [] e h l = absurd (omega arith)
  one_value a (suc n) zero (v ∷ t) e h l =
      rw (own_value f (a + zero) a e ∙ eq-eqb (a + zero) a (omega arith))
      (ap (λ (s : List ℕ). f.profile ∷ s) (no_value (suc a) n (a + zero) t e (omega arith)))
  one_value a (suc n) (suc k) (v ∷ t) e h l =
      let m : a + suc k ≡ suc a + k = omega arith in
      rw (own_value f (a + suc k) a e ∙ ne_eqb (a + suc k) a (λ q. omega arith))
      (ap (λ (s : List ℕ). v ∷ s) (one_value (suc a) n k t (e ∙ ap (λ (x : ℕ). Some x) m) (le_of_suc-le-suc h) (omega arith)))

single : (f : Fields) (v : ℕ) → f.third ≡ None → set_in f (alone f.layer) (v ∷ []) ≡ f.profile ∷ []
unfolding set_in
single f v e = rw (own-all f None e)

-- all places of a layer, whether it takes a third field or not
all_own : (f : Fields) (first : Option ℕ) (count : ℕ) (t : List ℕ) → f.third ≡ None → length t ≡ count → (first ≡ None → count ≡ 1)
    → set_in f (places_from f.layer first count) t ≡ replicate count f.profile
all_own f (Some first) count t e h o = all-values f first count t e h
all_own f None count t e h o = go t count h (o refl)
  where
    go : (t : List ℕ) (count : ℕ) → length t ≡ count → count ≡ 1 → set_in f (alone f.layer) t ≡ replicate count f.profile
    go t zero h k = absurd (omega arith)
    go t (suc (suc n)) h k = absurd (omega arith)
    go [] (suc zero) h k = absurd (omega arith)
    go (v ∷ (w ∷ t)) (suc zero) h k = absurd (omega arith)
    go (v ∷ []) (suc zero) h k = single f v e

-- ---- in the whole table

-- a part that was filled
pub filled : (t : List ℕ) (a n p : ℕ) {s : List ℕ} → s ≡ replicate n p → take a t ++ (s ++ drop (a + n - a) (drop a t)) ≡ splice t a (replicate n p)
filled t a n p e =
    let count : a + n - a ≡ n = omega arith in
    (λ i. take a t ++ (e i ++ drop (count i) (drop a t)))
    ∙ ap (λ (l : List ℕ). take a t ++ (replicate n p ++ l)) (drop-drop n a t)
    ∙ ap (λ (k : ℕ). take a t ++ (replicate n p ++ drop (a + k) t)) (sym (length-replicate n p))

-- a store in the second of two parts
set_append_right : (xs ys : List ℕ) (i x : ℕ) → set (xs ++ ys) (length xs + i) x ≡ xs ++ set ys i x
set_append_right [] ys i x = ap (λ (k : ℕ). set ys k x) (omega arith)
set_append_right (y ∷ xs) ys i x =
    ap (λ (k : ℕ). set (y ∷ (xs ++ ys)) k x) {x = suc (length xs) + i} {y = suc (length xs + i)} (omega arith)
    ∙ ap (λ (s : List ℕ). y ∷ s) (set_append_right xs ys i x)

module _ (f : Fields) (t : List ℕ) (known : f.layer ≤ 4) (whole : length t ≡ 269) where
  abbrev row : Layer
  row = layer_at f.layer

  -- the layer's own part of the table
  abbrev own : List ℕ
  own = take row.count (drop row.start t)

  abbrev rest : List ℕ
  rest = drop (row.start + row.count) t

  own-length : length own ≡ row.count
  own-length = length_part t row.start row.count (omega (arith, ends f.layer known))

  t-parts : t ≡ take row.start t ++ (own ++ rest)
  t-parts =
      sym
      (ap (λ (s : List ℕ). take row.start t ++ (own ++ s)) (sym (drop-drop row.count row.start t))
      ∙ ap (λ (s : List ℕ). take row.start t ++ s) (take-append-drop row.count (drop row.start t))
      ∙ take-append-drop row.start t)

  own-part : set_in f places t ≡ take row.start t ++ (set_in f (places_of f.layer row) own ++ rest)
  own-part =
      let s = split f.layer known in
      let e = ends f.layer known in
      let m = places_of f.layer row in
      let l : length (drop row.start t) ≡ length t - row.start = length-drop row.start t in
      let first : set_in f (s.before ++ (m ++ s.after)) t
      ≡ set_in f s.before (take (length s.before) t) ++ set_in f (m ++ s.after) (drop (length s.before) t) =
      set_in_append f s.before (m ++ s.after) t (omega (arith, s.from))
      in
      let second : set_in f (m ++ s.after) (drop row.start t)
      ≡ set_in f m (take (length m) (drop row.start t)) ++ set_in f s.after (drop (length m) (drop row.start t)) =
      set_in_append f m s.after (drop row.start t) (omega (arith, s.size))
      in
      ap (λ (ps : List Place). set_in f ps t) s.parts
      ∙ first
      ∙ (λ i. others_stay f s.before (take (s.from i) t) s.none_before i ++ set_in f (m ++ s.after) (drop (s.from i) t))
      ∙ ap (λ (x : List ℕ). take row.start t ++ x)
      (second
      ∙ (λ i. set_in f m (take (s.size i) (drop row.start t))
      ++ others_stay f s.after (drop (s.size i) (drop row.start t)) s.none_after i)
      ∙ ap (λ (x : List ℕ). set_in f m own ++ x) (drop-drop row.count row.start t))

  -- without a third field: all places of the layer
  pub set_all : f.third ≡ None → set_in f places t ≡ splice t row.start (replicate row.count f.profile)
  set_all e =
      let n : length (replicate row.count f.profile) ≡ row.count = length-replicate row.count f.profile in
      own-part
      ∙ ap (λ (x : List ℕ). take row.start t ++ (x ++ rest))
      (all_own f row.first row.count own e own-length (only_one f.layer known))
      ∙ ap (λ (k : ℕ). take row.start t ++ (replicate row.count f.profile ++ drop (row.start + k) t)) (sym n)

  -- with one: the place of that value
  pub set-one : (x first : ℕ) → f.third ≡ Some x → row.first ≡ Some first → first ≤ x → x < first + row.count
      → set_in f places t ≡ set t (row.start + (x - first)) f.profile
  set-one x first e named low high =
      let k : ℕ = x - first in
      let x-is : x ≡ first + k = omega arith in
      let front : List ℕ = take row.start t in
      let front_length : length front ≡ row.start = length-take-le row.start t (omega (arith, ends f.layer known)) in
      let middle : set_in f (places_of f.layer row) own ≡ set own k f.profile =
      ap (λ (o : Option ℕ). set_in f (places_from f.layer o row.count) own) named
      ∙ one_value f first row.count k own (e ∙ ap (λ (y : ℕ). Some y) x-is) (omega arith) own-length
      in
      let back : set (front ++ (own ++ rest)) (length front + k) f.profile ≡ front ++ (set own k f.profile ++ rest) =
      set_append_right front (own ++ rest) k f.profile
      ∙ ap (λ (y : List ℕ). front ++ y) (set-append_left own rest k f.profile (omega (arith, own-length)))
      in
      own-part
      ∙ ap (λ (y : List ℕ). front ++ (y ++ rest)) middle
      ∙ sym back
      ∙ (λ i. set (sym t-parts i) (front_length i + k) f.profile)
