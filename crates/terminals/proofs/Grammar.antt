-- A line is read as the grammar says, and nothing else is read: so no line means two things. Assumes nothing.
use mathlib.Core.Path.{◌≡◌, refl, sym, ap, ◌∙◌, subst}
use mathlib.Core.Bool.{Bool, true, false, ◌&&◌}
use mathlib.Core.List.{List, [], ◌∷◌, ◌++◌, append-nil}
use Prim.Native.Nat.{ℕ, suc, ◌+◌, ◌≤◌, ◌<◌}
use native.Mathlib.Omega.{arith}
use borrow.Author.Tests.{le-leb, leb-true, eqb-true}
use lib.ListN.{length, take, drop, take-append-drop, length-append, length-take, drop_of_length-le}
use lib.Seq.{take-append_seam, drop-append_seam, drop-drop}
use lib.Dec.{eqb, leb}
use Rattle.std.specs.Prelude.{Option, Some, None, option_map}
use Rattle.std.proofs.lemmas.Option.{same_Some}
use Rattle.bits.specs.Bits.{pick, guard}
use Rattle.bits.proofs.Tests.{both}
use Rattle.text.specs.Decimal.{decimal}
use Rattle.text.specs.Field.{is_digit, run, number_of, field_of, field_at}
use Rattle.text.proofs.Decimals.{within}
use Rattle.text.proofs.ReadBack.{field-decimal}
use Rattle.std.specs.Str.{bytes_eq}
use Rattle.std.proofs.lemmas.Slice.Eq.{bytes_eq-Decides}
use Rattle.terminals.specs.Lines.{set_word, read_line, are_digits, IsField, fields_of, Says, asks, two, three, four}
use Rattle.terminals.specs.Lines.{starts_comma, ends_at, next_field, third_from, set_from, line_of}
use Rattle.terminals.specs.declared.lines.Fields.{Fields}
use Rattle.terminals.specs.declared.lines.Line.{Line}
use Rattle.terminals.specs.declared.lines.Line.TheVariants.{Read, Set}
use Rattle.terminals.proofs.Steps.{third-none, third-ends, fourth-none, fourth-is, first-none, second_none, second-ends, goes_on}
use Rattle.terminals.proofs.Steps.{reads-read, reads_none, reads-set}

same-is : (s t : List ℕ) → bytes_eq s t ≡ true → s ≡ t
same-is s t = (bytes_eq-Decides s t).0

-- ---- digits at the front

digits-run : (d rest : List ℕ) → are_digits d ≡ true → run rest ≡ 0 → run (d ++ rest) ≡ length d
unfolding run are_digits
digits-run [] rest e h = h
digits-run (b ∷ d) rest e h =
    let k = both (is_digit b) (are_digits d) e in
    rw k.0 (ap suc (digits-run d rest k.1 h))

run-digits : (s : List ℕ) → are_digits (take (run s) s) ≡ true
unfolding run are_digits
run-digits [] = refl
run-digits (b ∷ s) = go (is_digit b) refl (run-digits s)
  where
    go : (t : Bool) → is_digit b ≡ t → are_digits (take (run s) s) ≡ true → are_digits (take (pick t (suc (run s)) 0) (b ∷ s)) ≡ true
    go true e h = rw e h
    go false e h = refl

run_short : (s : List ℕ) → run s ≤ length s
unfolding run
run_short [] = omega arith
run_short (b ∷ s) = go (is_digit b) (run_short s)
  where
    go : (t : Bool) → run s ≤ length s → pick t (suc (run s)) 0 ≤ length (b ∷ s)
    go true h = omega arith
    go false h = omega arith

nothing_left : run [] ≡ 0
unfolding run
nothing_left = refl

-- ---- a field at a place, with what stands after it

module _ (s : List ℕ) (at : ℕ) where
  field-read : (d rest : List ℕ) → drop at s ≡ d ++ rest → IsField d → run rest ≡ 0
      → (field_at s at 3 ≡ Some (number_of d, at + length d)) × (drop (at + length d) s ≡ rest)
  unfolding field_at field_of
  field-read d rest e f h =
      let n : run (drop at s) ≡ length d = ap run e ∙ digits-run d rest f.digits h in
      let front : take (length d) (drop at s) ≡ d = ap (take (length d)) e ∙ take-append_seam d rest in (
        rw (n, le-leb 1 (length d) f.least, le-leb (length d) 3 f.most, le-leb (length d) 9 (omega (arith, f.most)), front),
        sym (drop-drop (length d) at s) ∙ ap (drop (length d)) e ∙ drop-append_seam d rest,
      )

  -- the digits that were read
  record Found (v end : ℕ) : Type 0 where
    pub digits : List ℕ
    pub field : IsField digits
    pub value : number_of digits ≡ v
    pub here : drop at s ≡ digits ++ drop end s

  field_found : (p : ℕ × ℕ) → field_at s at 3 ≡ Some p → Found p.0 p.1
  unfolding field_at field_of
  field_found p = go (leb 1 n) refl (leb n 3) refl (leb n 9)
    where
      n : ℕ
      n = run (drop at s)

      go : (a : Bool) → leb 1 n ≡ a → (b : Bool) → leb n 3 ≡ b → (c : Bool)
          → guard {A = Option (ℕ × ℕ)} (a && (b && c)) None (Some (number_of (take n (drop at s)), at + n)) ≡ Some p → Found p.0 p.1
      go false l b m c e = absurd (let z : ◌≡◌ {A = ℕ} 0 1 = cc in omega arith)
      go true l false m c e = absurd (let z : ◌≡◌ {A = ℕ} 0 1 = cc in omega arith)
      go true l true m false e = absurd (let z : ◌≡◌ {A = ℕ} 0 1 = cc in omega arith)
      go true l true m true e =
          let same : ◌≡◌ {A = ℕ × ℕ} (number_of (take n (drop at s)), at + n) p = same_Some _ _ e in
          let v-is : number_of (take n (drop at s)) ≡ p.0 = ap (λ (q : ℕ × ℕ). q.0) same in
          let end_is : at + n ≡ p.1 = ap (λ (q : ℕ × ℕ). q.1) same in
          let size : length (take n (drop at s)) ≡ n = omega (arith, length-take n (drop at s), run_short (drop at s)) in
          record {
            digits = take n (drop at s);
            field = record {
              digits = run-digits (drop at s);
              least = omega (arith, leb-true 1 n l);
              most = omega (arith, leb-true n 3 m);
            };
            value = v-is;
            here = sym (take-append-drop n (drop at s))
                ∙ ap (λ (x : List ℕ). take n (drop at s) ++ x) (drop-drop n at s ∙ ap (λ (k : ℕ). drop k s) end_is);
          }

-- a number in decimal is a field that says it
pub decimal-field : (n : ℕ) → n < 1000 → IsField (decimal n) × (number_of (decimal n) ≡ n)
decimal-field n h =
    let s = decimal n ++ [] in
    let end : ℕ = 0 + length (decimal n) in
    let f = field_found s 0 (n, end) (field-decimal n 3 [] [] (omega arith) (within 2 n h) nothing_left) in
    let none : drop end s ≡ [] = drop_of_length-le s {i = end} (omega (arith, length-append (decimal n) [])) in
    let same : f.digits ≡ decimal n =
    sym (append-nil f.digits) ∙ ap (λ (x : List ℕ). f.digits ++ x) (sym none) ∙ sym f.here ∙ append-nil (decimal n) in
    (subst IsField same f.field, ap number_of (sym same) ∙ f.value)

-- ---- the same after a comma

module _ (s : List ℕ) (at : ℕ) where
  next-read : (d rest : List ℕ) → drop at s ≡ 44 ∷ (d ++ rest) → IsField d → run rest ≡ 0
      → (next_field s at ≡ Some (number_of d, at + 1 + length d)) × (drop (at + 1 + length d) s ≡ rest)
  unfolding next_field
  next-read d rest e f h =
      let after : drop (at + 1) s ≡ d ++ rest = sym (drop-drop 1 at s) ∙ ap (drop 1) e in
      let r = field-read s (at + 1) d rest after f h in
      (ap (λ (x : List ℕ). guard (starts_comma x) None (field_at s (at + 1) 3)) e ∙ r.0, r.1)

  record FoundNext (v end : ℕ) : Type 0 where
    pub digits : List ℕ
    pub field : IsField digits
    pub value : number_of digits ≡ v
    pub here : drop at s ≡ 44 ∷ (digits ++ drop end s)

  next-found : (p : ℕ × ℕ) → next_field s at ≡ Some p → FoundNext p.0 p.1
  unfolding next_field
  next-found p = go (drop at s) refl
    where
      after : (b : ℕ) (x : List ℕ) → drop at s ≡ b ∷ x → b ≡ 44 → Found s (at + 1) p.0 p.1 → FoundNext p.0 p.1
      after b x k c f = record {
        digits = f.digits;
        field = f.field;
        value = f.value;
        here = k ∙ (λ i. c i ∷ x) ∙ ap (λ (y : List ℕ). 44 ∷ y) (sym (ap (drop 1) k) ∙ drop-drop 1 at s ∙ f.here);
      }

      test : (b : ℕ) (x : List ℕ) → drop at s ≡ b ∷ x → (t : Bool) → eqb b 44 ≡ t → guard t None (field_at s (at + 1) 3) ≡ Some p
          → FoundNext p.0 p.1
      test b x k true c e = after b x k (eqb-true b 44 c) (field_found s (at + 1) p e)
      test b x k false c e = absurd (let z : ◌≡◌ {A = ℕ} 0 1 = cc in omega arith)

      go : (x : List ℕ) → drop at s ≡ x → guard (starts_comma x) None (field_at s (at + 1) 3) ≡ Some p → FoundNext p.0 p.1
      go [] k e = absurd (let z : ◌≡◌ {A = ℕ} 0 1 = cc in omega arith)
      go (b ∷ x) k e = test b x k (eqb b 44) refl e

  -- the end, and where it is not
  ends_read : drop at s ≡ 13 ∷ [] → ends_at s at ≡ true
  unfolding ends_at
  ends_read e = rw e

  ends_found : ends_at s at ≡ true → drop at s ≡ 13 ∷ []
  unfolding ends_at
  ends_found e = same-is (drop at s) (13 ∷ []) e

  goes_further : (x : List ℕ) → drop at s ≡ 44 ∷ x → ends_at s at ≡ false
  unfolding ends_at
  goes_further x e = rw e

-- ---- what the grammar says is read

-- what stands after a field is no digit
no_digit : (x : List ℕ) → run (44 ∷ x) ≡ 0
unfolding run is_digit
no_digit x = refl

no-digit-end : run (13 ∷ []) ≡ 0
unfolding run is_digit
no-digit-end = refl

set-begins : (x : List ℕ) → line_of (set_word ++ x) ≡ option_map Set (set_from (set_word ++ x))
set-begins x = reads-set (set_word ++ x) refl refl

pub says-reads : {s : List ℕ} {l : Line} → Says s l → line_of s ≡ Some l
says-reads asks = reads-read read_line refl
says-reads (two a b fa fb) =
    let x = a ++ (44 ∷ (b ++ (13 ∷ []))) in
    let s = set_word ++ x in
    let p = field-read s 8 a (44 ∷ (b ++ (13 ∷ []))) refl fa (no_digit (b ++ (13 ∷ []))) in
    let q = next-read s (8 + length a) b (13 ∷ []) p.1 fb no-digit-end in
    set-begins x ∙ ap (option_map Set) (second-ends s p.0 q.0 (ends_read s _ q.1))
says-reads (three a b c fa fb fc) =
    let z = c ++ (13 ∷ []) in
    let y = b ++ (44 ∷ z) in
    let x = a ++ (44 ∷ y) in
    let s = set_word ++ x in
    let p = field-read s 8 a (44 ∷ y) refl fa (no_digit y) in
    let q = next-read s (8 + length a) b (44 ∷ z) p.1 fb (no_digit z) in
    let r = next-read s (8 + length a + 1 + length b) c (13 ∷ []) q.1 fc no-digit-end in
    set-begins x
    ∙ ap (option_map Set)
    (goes_on s p.0 q.0 (goes_further s _ z q.1) ∙ third-ends s (number_of a) (number_of b) _ r.0 (ends_read s _ r.1))
says-reads (four a b c d fa fb fc fd) =
    let w = d ++ (13 ∷ []) in
    let z = c ++ (44 ∷ w) in
    let y = b ++ (44 ∷ z) in
    let x = a ++ (44 ∷ y) in
    let s = set_word ++ x in
    let p = field-read s 8 a (44 ∷ y) refl fa (no_digit y) in
    let q = next-read s (8 + length a) b (44 ∷ z) p.1 fb (no_digit z) in
    let r = next-read s (8 + length a + 1 + length b) c (44 ∷ w) q.1 fc (no_digit w) in
    let t = next-read s (8 + length a + 1 + length b + 1 + length c) d (13 ∷ []) r.1 fd no-digit-end in
    set-begins x
    ∙ ap (option_map Set)
    (goes_on s p.0 q.0 (goes_further s _ z q.1) ∙ fourth-is s (number_of a) (number_of b) _ r.0 (goes_further s _ w r.1) t.0 (ends_read s _ t.1))

-- ---- and nothing else

-- what a line that was read says
abbrev pub Meant : List ℕ → Option Line → Type 0
Meant s None = Unit {0}
Meant s (Some l) = Says s l

abbrev MeantSet : List ℕ → Option Fields → Type 0
MeantSet s None = Unit {0}
MeantSet s (Some f) = Says s (Set f)

meant-line : (s : List ℕ) (o : Option Fields) → MeantSet s o → Meant s (option_map Set o)
meant-line s None m = tt
meant-line s (Some f) m = m

module _ (s : List ℕ) (word : take 8 s ≡ set_word) where
  -- the line as its word and its fields
  begins : (x : List ℕ) → drop 8 s ≡ x → s ≡ set_word ++ x
  begins x e = sym (take-append-drop 8 s) ∙ (λ i. word i ++ e i)

  -- its fields, as they were found
  said : (x : List ℕ) {f g : Fields} → drop 8 s ≡ x → Says (set_word ++ x) (Set f) → f ≡ g → Says s (Set g)
  said x {f} e y k = subst (λ (h : Fields). Says s (Set h)) k (subst (λ (z : List ℕ). Says z (Set f)) (sym (begins x e)) y)

  module _ (p l at end : ℕ) (fa : Found s 8 p at) (fb : FoundNext s at l end) where
    abbrev a : List ℕ
    a = fa.digits

    abbrev b : List ℕ
    b = fb.digits

    first_two : (x : List ℕ) → drop end s ≡ x → drop 8 s ≡ a ++ (44 ∷ (b ++ x))
    first_two x e = fa.here ∙ ap (λ (y : List ℕ). a ++ y) (fb.here ∙ ap (λ (y : List ℕ). 44 ∷ (b ++ y)) e)

    two_said : ends_at s end ≡ true → Says s (Set (fields_of p l None false))
    two_said k =
        said (a ++ (44 ∷ (b ++ (13 ∷ [])))) (first_two (13 ∷ []) (ends_found s end k)) (two a b fa.field fb.field)
        (λ i. fields_of (fa.value i) (fb.value i) None false)

    three_said : (x last : ℕ) → FoundNext s end x last → ends_at s last ≡ true → Says s (Set (fields_of p l (Some x) false))
    three_said x last fc k =
        let c = fc.digits in
        let rest = fc.here ∙ ap (λ (y : List ℕ). 44 ∷ (c ++ y)) (ends_found s last k) in
        said (a ++ (44 ∷ (b ++ (44 ∷ (c ++ (13 ∷ [])))))) (first_two (44 ∷ (c ++ (13 ∷ []))) rest) (three a b c fa.field fb.field fc.field)
        (λ i. fields_of (fa.value i) (fb.value i) (Some (fc.value i)) false)

    four-said : (x next y last : ℕ) → FoundNext s end x next → FoundNext s next y last → ends_at s last ≡ true
        → Says s (Set (fields_of p l (Some x) true))
    four-said x next y last fc fd k =
        let c = fc.digits in
        let d = fd.digits in
        let rest = fc.here ∙ ap (λ (z : List ℕ). 44 ∷ (c ++ z)) (fd.here ∙ ap (λ (z : List ℕ). 44 ∷ (d ++ z)) (ends_found s last k)) in
        said (a ++ (44 ∷ (b ++ (44 ∷ (c ++ (44 ∷ (d ++ (13 ∷ [])))))))) (first_two (44 ∷ (c ++ (44 ∷ (d ++ (13 ∷ []))))) rest)
        (four a b c d fa.field fb.field fc.field fd.field) (λ i. fields_of (fa.value i) (fb.value i) (Some (fc.value i)) true)

    meant-fourth : (p₃ : ℕ × ℕ) → next_field s end ≡ Some p₃ → ends_at s p₃.1 ≡ false → (g : Option (ℕ × ℕ)) → next_field s p₃.1 ≡ g
        → MeantSet s (third_from s p l end)
    meant-fourth p₃ e k None f = subst (MeantSet s) (sym (fourth-none s p l end e k f)) tt
    meant-fourth p₃ e k (Some p₄) f = go (ends_at s p₄.1) refl
      where
        go : (t : Bool) → ends_at s p₄.1 ≡ t → MeantSet s (third_from s p l end)
        go false h = subst (MeantSet s) (sym (fourth-is s p l end e k f h)) tt
        go true h =
            subst (MeantSet s) (sym (fourth-is s p l end e k f h))
            (four-said p₃.0 p₃.1 p₄.0 p₄.1 (next-found s end p₃ e) (next-found s p₃.1 p₄ f) h)

    meant-third : (g : Option (ℕ × ℕ)) → next_field s end ≡ g → MeantSet s (third_from s p l end)
    meant-third None e = subst (MeantSet s) (sym (third-none s p l end e)) tt
    meant-third (Some p₃) e = go (ends_at s p₃.1) refl
      where
        go : (t : Bool) → ends_at s p₃.1 ≡ t → MeantSet s (third_from s p l end)
        go true k = subst (MeantSet s) (sym (third-ends s p l end e k)) (three_said p₃.0 p₃.1 (next-found s end p₃ e) k)
        go false k = meant-fourth p₃ e k (next_field s p₃.1) refl

  meant-second : (p₁ : ℕ × ℕ) → field_at s 8 3 ≡ Some p₁ → (g : Option (ℕ × ℕ)) → next_field s p₁.1 ≡ g → MeantSet s (set_from s)
  meant-second p₁ e None f = subst (MeantSet s) (sym (second_none s e f)) tt
  meant-second p₁ e (Some p₂) f = go (ends_at s p₂.1) refl
    where
      fa : Found s 8 p₁.0 p₁.1
      fa = field_found s 8 p₁ e

      fb : FoundNext s p₁.1 p₂.0 p₂.1
      fb = next-found s p₁.1 p₂ f

      go : (t : Bool) → ends_at s p₂.1 ≡ t → MeantSet s (set_from s)
      go true k = subst (MeantSet s) (sym (second-ends s e f k)) (two_said p₁.0 p₂.0 p₁.1 p₂.1 fa fb k)
      go false k = subst (MeantSet s) (sym (goes_on s e f k)) (meant-third p₁.0 p₂.0 p₁.1 p₂.1 fa fb (next_field s p₂.1) refl)

  meant-set : MeantSet s (set_from s)
  meant-set = go (field_at s 8 3) refl
    where
      go : (g : Option (ℕ × ℕ)) → field_at s 8 3 ≡ g → MeantSet s (set_from s)
      go None e = subst (MeantSet s) (sym (first-none s e)) tt
      go (Some p₁) e = meant-second p₁ e (next_field s p₁.1) refl

pub meant : (s : List ℕ) → Meant s (line_of s)
meant s = first (bytes_eq s read_line) refl (bytes_eq (take 8 s) set_word) refl
  where
    first : (a : Bool) → bytes_eq s read_line ≡ a → (b : Bool) → bytes_eq (take 8 s) set_word ≡ b → Meant s (line_of s)
    first true e b f = subst (Meant s) (sym (reads-read s e)) (subst (λ (x : List ℕ). Says x Read) (sym (same-is s read_line e)) asks)
    first false e false f = subst (Meant s) (sym (reads_none s e f)) tt
    first false e true f =
        subst (Meant s) (sym (reads-set s e f)) (meant-line s (set_from s) (meant-set s (same-is (take 8 s) set_word f)))
