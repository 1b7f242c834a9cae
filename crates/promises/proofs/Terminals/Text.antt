-- The text of the read form: each place off "both" once, rising; how long it is; and that it puts the table back. Assumes nothing.
use mathlib.Core.Path.{◌≡◌, refl, sym, ap, ◌∙◌, subst}
use mathlib.Core.Logic.{◌↔◌}
use mathlib.Core.Bool.{Bool, true, false, not, ◌&&◌}
use mathlib.Core.List.{List, [], ◌∷◌, ◌++◌, append_assoc, append-nil}
use Prim.Native.Nat.{ℕ, zero, suc, ◌+◌, ◌≤◌, ◌<◌}
use native.Mathlib.Omega.{arith}
use borrow.Author.Count.{below_more}
use borrow.Author.Tests.{ne_eqb, eqb-true, eqb-false, leb-true, ltb-true, ltb-false, not-true}
use lib.ListN.{length, get_or, drop, replicate, length-append, get_or-replicate}
use lib.Seq.{ext_get_or}
use lib.Dec.{eqb, leb, ltb}
use Rattle.std.specs.Prelude.{Option, Some, None}
use Rattle.bits.specs.Bits.{pick}
use Rattle.bits.proofs.Tests.{both, both⁻¹, never}
use Rattle.text.specs.Decimal.{digits, decimal, item}
use Rattle.text.specs.Field.{is_digit}
use Rattle.text.proofs.Decimals.{decimal-one}
use Rattle.text.proofs.Fields.{digit-is}
use Rattle.terminals.specs.Layers.{layer_at, values, places, nowhere}
use Rattle.terminals.specs.Lines.{set_word, are_digits, fields_of, Says, two, three}
use Rattle.terminals.specs.Profiles.{are_profiles, is_table, set_in, reset_out}
use Rattle.terminals.specs.Reading.{comma, line_end, place_text, line_text, lines_text, led, text_of}
use Rattle.terminals.specs.Answers.{table_after}
use Rattle.terminals.specs.declared.layers.Place as layers
use Rattle.terminals.specs.declared.lines.Fields.{Fields}
use Rattle.terminals.specs.declared.lines.Line.TheVariants.{Set}
use Rattle.terminals.proofs.Grammar.{decimal-field}
use Rattle.terminals.proofs.Texts.{lines_next, lines-over, no_line, off-line, length-off}
use Rattle.promises.specs.Terminals as says
use Rattle.promises.specs.Terminals.{IsTable, Place, Names, after_all, third_text, Line-of, spelt, Lines-from, first, pieces, as_set_lines}
use Rattle.promises.specs.Terminals.{set_lines}
use Rattle.promises.proofs.Terminals.Places as place
use Rattle.promises.proofs.Terminals.OnLine.{set_at, reset-kept}
use Rattle.promises.proofs.Terminals.Layer.{fine, stays-table, leaves}

-- ---- a line

-- the line of a place off "both", spelt out
line-is : (v l : ℕ) (third : Option ℕ) → (v ≡ 2 → ⊥)
    → line_text v (record { layer = l; third = third }) ≡ decimal v ++ (44 ∷ decimal l ++ (third_text third ++ (13 ∷ 10 ∷ [])))
unfolding item place_text third_text
line-is v l None h = off-line v (record { layer = l; third = None }) h ∙ append_assoc (decimal v) comma (decimal l ++ line_end)
line-is v l (Some x) h =
    off-line v (record { layer = l; third = Some x }) h
    ∙ append_assoc (decimal v) comma ((decimal l ++ comma) ++ (decimal x ++ line_end))
    ∙ ap (λ (s : List ℕ). decimal v ++ (44 ∷ s)) (append_assoc (decimal l) comma (decimal x ++ line_end))

-- ---- the lines from an index on

module _ (t : List ℕ) (h : IsTable t) where
  abbrev from : ℕ → List ℕ
  from i = lines_text (drop i places) (drop i t)

  step : (i : ℕ) → i < 269 → from i ≡ line_text (get_or t i 0) (get_or places i nowhere) ++ from (i + 1)
  step i k = lines_next t i h.whole k

  at_default : (i : ℕ) → i < 269 → get_or t i 0 ≡ 2 → from i ≡ from (i + 1)
  at_default i k e = step i k ∙ ap (λ (s : List ℕ). s ++ from (i + 1)) (no_line (get_or t i 0) (get_or places i nowhere) e)

  at_off : (i l : ℕ) (third : Option ℕ) → Place i l third → (get_or t i 0 ≡ 2 → ⊥)
      → from i ≡ (decimal (get_or t i 0) ++ (44 ∷ decimal l ++ (third_text third ++ (13 ∷ 10 ∷ [])))) ++ from (i + 1)
  at_off i l third q e =
      step i (place.inside q)
      ∙ ap (λ (s : List ℕ). s ++ from (i + 1))
      (ap (line_text (get_or t i 0)) (place.place_is q) ∙ line-is (get_or t i 0) l third e)

  lines_from : (n i : ℕ) → i + n ≡ 269 → Lines-from t i (from i)
  lines_from zero i e =
      let k : i ≡ 269 = omega arith in
      subst (λ (j : ℕ). Lines-from t j (from j)) (sym k) (subst (Lines-from t 269) (sym (lines-over t 269 h.whole (omega arith))) says.end)
  lines_from (suc n) i e = go (eqb (get_or t i 0) 2) refl (lines_from n (i + 1) (omega arith))
    where
      go : (b : Bool) → eqb (get_or t i 0) 2 ≡ b → Lines-from t (i + 1) (from (i + 1)) → Lines-from t i (from i)
      go true c rest =
          let d = eqb-true (get_or t i 0) 2 c in
          subst (Lines-from t i) (sym (at_default i (omega arith) d)) (says.default (omega arith) d rest)
      go false c rest =
          let d = eqb-false (get_or t i 0) 2 c in
          let q = place.every i (omega arith) in
          subst (Lines-from t i) (sym (at_off i q.0 q.1 q.2 d)) (says.off (omega arith) d (spelt q.0 q.1 q.2) rest)

led-first : (s : List ℕ) → led s ≡ first s
led-first [] = refl
led-first (b ∷ s) = refl

pub text-kept : (t : List ℕ) → IsTable t → (s : List ℕ) × Lines-from t 0 s × (text_of t ≡ first s)
unfolding text_of
text-kept t h = (lines_text places t, lines_from t h 269 0 (omega arith), led-first (lines_text places t))

-- ---- nothing

-- a line has bytes
some-line : {t : List ℕ} {i : ℕ} {w : List ℕ} (s : List ℕ) → Line-of t i w → w ++ s ≡ [] → ⊥
some-line {t} {i} s (spelt l third q) e =
    omega (
      arith,
      ap length e,
      length-append (decimal (get_or t i 0) ++ (44 ∷ decimal l ++ (third_text third ++ (13 ∷ 10 ∷ [])))) s,
      length-append (decimal (get_or t i 0)) (44 ∷ decimal l ++ (third_text third ++ (13 ∷ 10 ∷ []))),
    )

later : (i j : ℕ) → i ≤ j → (i ≡ j → ⊥) → i + 1 ≤ j
later i j h n = go (ltb i j) refl
  where
    go : (b : Bool) → ltb i j ≡ b → i + 1 ≤ j
    go true e = omega (arith, ltb-true i j e)
    go false e = absurd (n (omega (arith, ltb-false i j e)))

all_both : {t : List ℕ} {i : ℕ} {s : List ℕ} → Lines-from t i s → s ≡ [] → (j : ℕ) → i ≤ j → j < 269 → get_or t j 0 ≡ 2
all_both says.end e j h k = absurd (omega arith)
all_both {t} {i} (says.default n d rest) e j h k = go (eqb i j) refl (λ l m. all_both rest e j l m)
  where
    go : (b : Bool) → eqb i j ≡ b → (i + 1 ≤ j → j < 269 → get_or t j 0 ≡ 2) → get_or t j 0 ≡ 2
    go true c more = ap (λ (m : ℕ). get_or t m 0) (sym (eqb-true i j c)) ∙ d
    go false c more = let m = eqb-false i j c in more (later i j h m) k
all_both (says.off {s = s} n d w rest) e j h k = absurd (some-line s w e)

none-off : {t : List ℕ} {i : ℕ} {s : List ℕ} → Lines-from t i s → ((j : ℕ) → i ≤ j → j < 269 → get_or t j 0 ≡ 2) → s ≡ []
none-off says.end h = refl
none-off (says.default n d rest) h = none-off rest (λ j l k. h j (omega arith) k)
none-off {i = i} (says.off n d w rest) h = absurd (d (h i (omega arith) n))

first-none : (s : List ℕ) → first s ≡ [] → s ≡ []
first-none [] e = refl
first-none (b ∷ s) e = absurd (omega (arith, ap length e))

pub nothing-kept : (t : List ℕ) → IsTable t → (text_of t ≡ []) ↔ ((i : ℕ) → i < 269 → get_or t i 0 ≡ 2)
nothing-kept t h =
    let k = text-kept t h in (
      λ e j n. all_both k.1 (first-none k.0 (sym k.2 ∙ e)) j (omega arith) n,
      λ all. k.2 ∙ ap first (none-off k.1 (λ j l n. all j n)),
    )

-- ---- how long it is

-- every profile off "both" has one digit
no_longer-line : (v : ℕ) (p : layers.Place) → v ≤ 3 → length (line_text v p) ≤ length (line_text 3 p)
no_longer-line v p h = go (eqb v 2) refl
  where
    go : (b : Bool) → eqb v 2 ≡ b → length (line_text v p) ≤ length (line_text 3 p)
    go true e = omega (arith, ap length (no_line v p (eqb-true v 2 e)))
    go false e =
        omega (
          arith,
          length-off v p (eqb-false v 2 e),
          length-off 3 p (λ k. omega arith),
          ap length (decimal-one v (omega arith)),
          ap length (decimal-one 3 (omega arith)),
        )

no_longer : (ps : List layers.Place) (t : List ℕ) → are_profiles t ≡ true → length (lines_text ps t) ≤ length (lines_text ps (replicate (length ps) 3))
unfolding lines_text are_profiles
no_longer [] t e = omega arith
no_longer (p ∷ ps) [] e = omega arith
no_longer (p ∷ ps) (v ∷ t) e =
    let k = both (leb v 3) (are_profiles t) e in
    omega (
      arith,
      length-append (line_text v p) (lines_text ps t),
      length-append (line_text 3 p) (lines_text ps (replicate (length ps) 3)),
      no_longer-line v p (leb-true v 3 k.0),
      no_longer ps t k.1,
    )

longest : length (lines_text places (replicate (length places) 3)) ≡ 2293
unfolding places layer_at values lines_text line_text place_text item decimal digits
longest = refl

led_longer : (s : List ℕ) → length (led s) ≤ 7 + length s
led_longer [] = omega arith
led_longer (b ∷ s) = omega arith

pub short-kept : (t : List ℕ) → IsTable t → length (text_of t) ≤ 2300
unfolding text_of is_table
short-kept t h =
    let k = both (eqb (length t) 269) (are_profiles t) (place.is-table t h) in
    omega (arith, led_longer (lines_text places t), no_longer places t k.1, longest)

-- ---- cut at each LF

unfoldable no_lf : List ℕ → Bool
no_lf [] = true
no_lf (b ∷ s) = not (eqb b 10) && no_lf s

cut : (before w s : List ℕ) → no_lf w ≡ true → pieces before (w ++ (10 ∷ s)) ≡ (before ++ w) ∷ pieces [] s
unfolding pieces no_lf
cut before [] s e = ap (λ (x : List ℕ). x ∷ pieces [] s) (sym (append-nil before))
cut before (b ∷ w) s e =
    let k = both (not (eqb b 10)) (no_lf w) e in
    rw (not-true (eqb b 10) k.0)
    (cut (before ++ (b ∷ [])) w s k.1 ∙ ap (λ (x : List ℕ). x ∷ pieces [] s) (append_assoc before (b ∷ []) w))

no_lf_append : (v w : List ℕ) → no_lf v ≡ true → no_lf w ≡ true → no_lf (v ++ w) ≡ true
unfolding no_lf
no_lf_append [] w e f = f
no_lf_append (b ∷ v) w e f =
    let k = both (not (eqb b 10)) (no_lf v) e in
    both⁻¹ k.0 (no_lf_append v w k.1 f)

no_lf-digits : (d : List ℕ) → are_digits d ≡ true → no_lf d ≡ true
unfolding no_lf are_digits
no_lf-digits [] e = refl
no_lf-digits (b ∷ d) e =
    let k = both (is_digit b) (are_digits d) e in
    let n = digit-is b k.0 in
    both⁻¹ (ap not (ne_eqb b 10 (λ x. omega (arith, n.0)))) (no_lf-digits d k.1)

-- ---- a line of the text as a set line

-- layers and third fields are short
small : {i l : ℕ} {third : Option ℕ} → Place i l third → (l ≤ 4) × ((x : ℕ) → third ≡ Some x → (l ≤ 3) × (x < 1000))
small (says.in_cc x h) = (omega arith, λ y e. (omega arith, let k : x ≡ y = cc in omega arith))
small (says.in_mm x h) = (omega arith, λ y e. (omega arith, let k : 10 + x ≡ y = cc in omega arith))
small (says.in_sds x h) = (omega arith, λ y e. (omega arith, let k : 20 + x ≡ y = cc in omega arith))
small (says.in_sds_tl x h) = (omega arith, λ y e. (omega arith, let k : x ≡ y = cc in omega arith))
small says.in-packet-data = (omega arith, λ y e. never cc)

-- without its LF
abbrev body : ℕ → ℕ → Option ℕ → List ℕ
body v l third = decimal v ++ (44 ∷ decimal l ++ (third_text third ++ (13 ∷ [])))

no_lf-third : (third : Option ℕ) → ((x : ℕ) → third ≡ Some x → x < 1000) → no_lf (third_text third ++ (13 ∷ [])) ≡ true
unfolding no_lf third_text
no_lf-third None h = refl
no_lf-third (Some x) h = no_lf_append (decimal x) (13 ∷ []) (no_lf-digits (decimal x) (decimal-field x (h x refl)).0.digits) refl

no_lf-body : (v l : ℕ) (third : Option ℕ) → v < 1000 → l < 1000 → ((x : ℕ) → third ≡ Some x → x < 1000) → no_lf (body v l third) ≡ true
unfolding no_lf
no_lf-body v l third a b c =
    no_lf_append (decimal v) (44 ∷ decimal l ++ (third_text third ++ (13 ∷ []))) (no_lf-digits (decimal v) (decimal-field v a).0.digits)
    (no_lf_append (decimal l) (third_text third ++ (13 ∷ [])) (no_lf-digits (decimal l) (decimal-field l b).0.digits) (no_lf-third third c))

body-says : (v l : ℕ) (third : Option ℕ) → v < 1000 → l < 1000 → ((x : ℕ) → third ≡ Some x → x < 1000)
    → Says (set_word ++ body v l third) (Set (fields_of v l third false))
unfolding third_text
body-says v l None a b c =
    let f = decimal-field v a in
    let g = decimal-field l b in
    subst (λ (x : Fields). Says (set_word ++ body v l None) (Set x)) (λ i. fields_of (f.1 i) (g.1 i) None false)
    (two (decimal v) (decimal l) f.0 g.0)
body-says v l (Some x) a b c =
    let f = decimal-field v a in
    let g = decimal-field l b in
    let k = decimal-field x (c x refl) in
    subst (λ (y : Fields). Says (set_word ++ body v l (Some x)) (Set y)) (λ i. fields_of (f.1 i) (g.1 i) (Some (k.1 i)) false)
    (three (decimal v) (decimal l) (decimal x) f.0 g.0 k.0)

-- the line with its LF, before others
with_lf : (v l : ℕ) (third : Option ℕ) (rest : List ℕ)
    → (decimal v ++ (44 ∷ decimal l ++ (third_text third ++ (13 ∷ 10 ∷ [])))) ++ rest ≡ body v l third ++ (10 ∷ rest)
with_lf v l third rest = simp append_assoc

-- ---- put back

no_third : {i l : ℕ} {third : Option ℕ} → Place i l third → third ≡ None → l ≡ 4
no_third (says.in_cc x h) e = never cc
no_third (says.in_mm x h) e = never cc
no_third (says.in_sds x h) e = never cc
no_third (says.in_sds_tl x h) e = never cc
no_third says.in-packet-data e = refl

-- a line for a place names no other
names-only : {i j l m : ℕ} {third other : Option ℕ} (v : ℕ) → Place i l third → Place j m other → Names (fields_of v l third false) m other → i ≡ j
names-only v p q (says.all other e) = place.last-place p (no_third p e) ∙ sym (place.last-place q (no_third p e))
names-only {i} {l = l} v p q (says.one x e) = place.one_place (subst (Place i l) e p) q

fresh : IsTable (replicate 269 2)
unfolding is_table are_profiles
fresh = place.table_is (replicate 269 2) refl

-- a line for a place names it
names-own : (v l : ℕ) (third : Option ℕ) → Names (fields_of v l third false) l third
names-own v l None = says.all None refl
names-own v l (Some x) = says.one x refl

module _ (t : List ℕ) (h : IsTable t) where
  abbrev v : ℕ → ℕ
  v i = get_or t i 0

  -- the set lines of the text from an index on
  abbrev sets_from : ℕ → List (List ℕ)
  sets_from i = as_set_lines (pieces [] (from t h i))

  sets-none : (i : ℕ) → 269 ≤ i → sets_from i ≡ []
  unfolding as_set_lines pieces
  sets-none i k = ap (λ (s : List ℕ). as_set_lines (pieces [] s)) (lines-over t i h.whole k)

  module _ (i l : ℕ) (third : Option ℕ) (p : Place i l third) where
    abbrev fields : Fields
    fields = fields_of (v i) l third false

    abbrev line : List ℕ
    line = set_word ++ body (v i) l third

    values-short : (x : ℕ) → third ≡ Some x → x < 1000
    values-short x e = ((small p).1 x e).1

    line-says : Says line (Set fields)
    line-says = body-says (v i) l third (omega (arith, h.profiles i)) (omega (arith, (small p).0)) values-short

    sets-one : (v i ≡ 2 → ⊥) → sets_from i ≡ line ∷ sets_from (i + 1)
    unfolding as_set_lines
    sets-one d =
        ap as_set_lines
        (ap (pieces []) (at_off t h i l third p d ∙ with_lf (v i) l third (from t h (i + 1)))
        ∙ cut [] (body (v i) l third) (from t h (i + 1))
        (no_lf-body (v i) l third (omega (arith, h.profiles i)) (omega (arith, (small p).0)) values-short))

    module _ (u : List ℕ) (k : IsTable u) where
      line-leaves : table_after line u ≡ set_in fields places u
      line-leaves =
          leaves line u fields k line-says
          (fine (v i) l third (h.profiles i) (small p).0 (λ x e. (((small p).1 x e).0, i, subst (Place i l) e p)))

      still : IsTable (table_after line u)
      still = subst IsTable (sym line-leaves) (stays-table fields u (h.profiles i) k)

      own : get_or (table_after line u) i 0 ≡ v i
      own =
          ap (λ (x : List ℕ). get_or x i 0) line-leaves
          ∙ set_at fields u k.whole p
          ∙ ap (λ (b : Bool). pick b (v i) (get_or u i 0)) (place.names_it fields (names-own (v i) l third))

      other : (j : ℕ) → j < 269 → (i ≡ j → ⊥) → get_or (table_after line u) j 0 ≡ get_or u j 0
      other j n d =
          let q = place.every j n in
          ap (λ (x : List ℕ). get_or x j 0) line-leaves
          ∙ set_at fields u k.whole q.2
          ∙ ap (λ (b : Bool). pick b (v i) (get_or u j 0)) (place.names-not fields q.0 q.1 (λ o. d (names-only (v i) p q.2 o)))

  -- the set lines from an index on set the places from there on
  abbrev SetsRest : ℕ → Type 0
  SetsRest i = (u : List ℕ) → IsTable u → ((j : ℕ) → j < i → get_or u j 0 ≡ v j) → ((j : ℕ) → i ≤ j → j < 269 → get_or u j 0 ≡ 2)
      → after_all (sets_from i) u ≡ t

  one_line : (i : ℕ) → i < 269 → (v i ≡ 2 → ⊥) → SetsRest (i + 1) → SetsRest i
  unfolding after_all
  one_line i n d rest u k done left =
      let q = place.every i n in
      let w = table_after (line i q.0 q.1 q.2) u in
      let before : (j : ℕ) → j < i → get_or w j 0 ≡ v j = λ j m. other i q.0 q.1 q.2 u k j (omega arith) (λ e. omega arith) ∙ done j m in
      ap (λ (ss : List (List ℕ)). after_all ss u) (sets-one i q.0 q.1 q.2 d)
      ∙ rest w (still i q.0 q.1 q.2 u k) (below_more (λ j. get_or w j 0 ≡ v j) i before (own i q.0 q.1 q.2 u k))
      (λ j a b. other i q.0 q.1 q.2 u k j b (λ e. omega arith) ∙ left j (omega arith) b)

  no_line-here : (i : ℕ) → i < 269 → v i ≡ 2 → SetsRest (i + 1) → SetsRest i
  no_line-here i n d rest u k done left =
      ap (λ (s : List ℕ). after_all (as_set_lines (pieces [] s)) u) (at_default t h i n d)
      ∙ rest u k (below_more (λ j. get_or u j 0 ≡ v j) i done (left i (omega arith) n ∙ sym d)) (λ j a b. left j (omega arith) b)

  sets-rest : (n i : ℕ) → i + n ≡ 269 → SetsRest i
  unfolding after_all
  sets-rest zero i e = λ u k done left.
      ap (λ (ss : List (List ℕ)). after_all ss u) (sets-none i (omega arith))
      ∙ ext_get_or 0 u t (k.whole ∙ sym h.whole) (λ j m. done j (omega (arith, k.whole)))
  sets-rest (suc n) i e = go (eqb (v i) 2) refl (sets-rest n (i + 1) (omega arith))
    where
      go : (b : Bool) → eqb (v i) 2 ≡ b → SetsRest (i + 1) → SetsRest i
      go true c rest = no_line-here i (omega arith) (eqb-true (v i) 2 c) rest
      go false c rest = one_line i (omega arith) (eqb-false (v i) 2 c) rest

  text-lines : set_lines (text_of t) ≡ sets_from 0
  unfolding text_of
  text-lines = go (lines_text places t)
    where
      go : (s : List ℕ) → as_set_lines (pieces [] (drop 7 (led s))) ≡ as_set_lines (pieces [] s)
      go [] = refl
      go (b ∷ s) = refl

  pub put_back-kept : (lent : List ℕ) → length lent ≡ 269 → after_all (set_lines (text_of t)) (reset_out lent) ≡ t
  put_back-kept lent k =
      let r = ((reset-kept lent).taken k).1 in
      ap (after_all (set_lines (text_of t))) r
      ∙ ap (λ (ss : List (List ℕ)). after_all ss (replicate 269 2)) text-lines
      ∙ sets-rest 269 0 (omega arith) (replicate 269 2) fresh (λ j m. absurd (omega arith)) (λ j a b. get_or-replicate 269 j 2 0 b)
