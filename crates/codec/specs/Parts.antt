-- The parts that a PDU is composed of. Each carries its two laws.
use Rattle.std.specs.Prelude.{◌≡◌, refl, Bool, true, false, ◌&&◌, List, [], ◌++◌, ℕ, zero, suc, ◌+◌, ◌^◌, ◌≤◌, ◌<◌, length, take, drop, ltb, eqb}
use Rattle.std.proofs.Common.{sym, ap, ◌∙◌, subst, append_assoc, add_assoc, add-zero, arith, length-append, take-append-drop, take_at, drop_at, length-take-le, eqb-true, ltb-true, ltb-false, lt-ltb, le-ltb}
use Rattle.bits.specs.Bits.{pick, value, bits_of}
use Rattle.bits.proofs.Tests.{never, both, both⁻¹, picked}
use Rattle.bits.proofs.Numbers.{length-bits_of, value_lt, value-of-bits, bits_of_value}
use Rattle.codec.specs.Codec.{Outcome, ok, no, and_then, first, Faithful, Codec}

pub first-none : (m n : ℕ) → first m n ≡ 0 → (m ≡ 0) × (n ≡ 0)
first-none zero n e = (refl, e)
first-none (suc m) n e = absurd (omega arith)

pub first-none⁻¹ : (m n : ℕ) → m ≡ 0 → n ≡ 0 → first m n ≡ 0
first-none⁻¹ zero n p q = q
first-none⁻¹ (suc m) n p q = p

-- ---- a number of w bits

abbrev pub number_parse : ℕ → ℕ → List Bool → Outcome ℕ
number_parse w at s = pick (ltb (length s) w) (no 2 at) (ok (value (take w s)) (at + w) (drop w s))

abbrev pub number_fault : ℕ → ℕ → ℕ
number_fault w v = pick (ltb v (2 ^ w)) 0 3

pub narrow : (w v : ℕ) → number_fault w v ≡ 0 → v < 2 ^ w
narrow w v h = ltb-true v (2 ^ w) (picked (ltb v (2 ^ w)) h (λ e. omega arith)).0

pub number-reads : (w v : ℕ) → number_fault w v ≡ 0 → (at : ℕ) (r : List Bool)
    → number_parse w at (bits_of w v ++ r) ≡ ok v (at + length (bits_of w v)) r
number-reads w v h at r =
    let l : length (bits_of w v) ≡ w = length-bits_of w v in
    let long : w ≤ length (bits_of w v ++ r) = omega (arith, length-append (bits_of w v) r) in
    simp (le-ltb (length (bits_of w v ++ r)) w long, take_at (bits_of w v) r w l, drop_at (bits_of w v) r w l, value-of-bits w v (narrow w v h), length-bits_of)

number-right : (w at : ℕ) (s : List Bool) (t : Bool) → ltb (length s) w ≡ t
    → Faithful (λ v. true) (number_fault w) (bits_of w) at s (pick t (no 2 at) (ok (value (take w s)) (at + w) (drop w s)))
number-right w at s true e = tt
number-right w at s false e =
    let l : length (take w s) ≡ w = length-take-le w s (ltb-false (length s) w e) in
    let small : value (take w s) < 2 ^ w = rw l at (value_lt (take w s)) in
    let back : bits_of w (value (take w s)) ≡ take w s = subst (λ (n : ℕ). bits_of n (value (take w s)) ≡ take w s) l (bits_of_value (take w s)) in (
      refl,
      ap (λ (t : Bool). pick {A = ℕ} t 0 3) (lt-ltb (value (take w s)) (2 ^ w) small),
      sym (take-append-drop w s) ∙ ap (λ (t : List Bool). t ++ drop w s) (sym back),
      ap (λ (n : ℕ). at + n) (sym (length-bits_of w (value (take w s)))),
    )

pub number-sound : (w at : ℕ) (s : List Bool) → Faithful (λ v. true) (number_fault w) (bits_of w) at s (number_parse w at s)
number-sound w at s = number-right w at s (ltb (length s) w) refl

unfoldable pub number : ℕ → Codec ℕ
number w = record {
  clean = λ v. true;
  fault = number_fault w;
  print = bits_of w;
  parse = number_parse w;
  reads = λ v c. number-reads w v;
  sound = number-sound w;
}

-- ---- a number that the PDU does not carry: zero

abbrev pub is_zero : ℕ → Bool
is_zero zero = true
is_zero (suc n) = false

pub is-zero : (n : ℕ) → is_zero n ≡ true → n ≡ 0
is-zero zero e = refl
is-zero (suc n) e = never cc

pub absent-reads : (v : ℕ) → is_zero v ≡ true → (at : ℕ) (r : List Bool) → ◌≡◌ {A = Outcome ℕ} (ok 0 at r) (ok v (at + 0) r)
absent-reads v h at r = rw (is-zero v h, add-zero)

unfoldable pub absent : Codec ℕ
absent = record {
  clean = is_zero;
  fault = λ v. 0;
  print = λ v. [];
  parse = λ at s. ok 0 at s;
  reads = λ v c f. absent-reads v c;
  sound = λ at s. (refl, refl, refl, sym (add-zero at));
}

-- ---- one part after another; the second may depend on the first
module _ {A B : Type 0} (c : Codec A) (d : A → Codec B) where
  abbrev pub seq_clean : A × B → Bool
  seq_clean p = c.clean p.0 && (d p.0).clean p.1

  abbrev pub seq_fault : A × B → ℕ
  seq_fault p = first (c.fault p.0) ((d p.0).fault p.1)

  abbrev pub seq_print : A × B → List Bool
  seq_print p = c.print p.0 ++ (d p.0).print p.1

  abbrev pub seq_parse : ℕ → List Bool → Outcome (A × B)
  seq_parse at s = and_then (c.parse at s) (λ a at' s'. and_then ((d a).parse at' s') (λ b at'' s''. ok (a, b) at'' s''))

  pub seq-reads : (p : A × B) → seq_clean p ≡ true → seq_fault p ≡ 0 → (at : ℕ) (r : List Bool)
      → seq_parse at (seq_print p ++ r) ≡ ok p (at + length (seq_print p)) r
  seq-reads (a, b) hc hf at r =
      let k = both (c.clean a) ((d a).clean b) hc in
      let f = first-none (c.fault a) ((d a).fault b) hf in
      rw (append_assoc (c.print a) ((d a).print b) r, c.reads a k.0 f.0, (d a).reads b k.1 f.1, length-append, add_assoc)

  seq-second : (at : ℕ) (s : List Bool) (a : A) (at' : ℕ) (s' : List Bool) → Faithful c.clean c.fault c.print at s (ok a at' s')
      → (o : Outcome B) → Faithful (d a).clean (d a).fault (d a).print at' s' o
      → Faithful seq_clean seq_fault seq_print at s (and_then o (λ b at'' s''. ok (a, b) at'' s''))
  seq-second at s a at' s' h (ok b at'' s'') k = (
    both⁻¹ h.0 k.0,
    first-none⁻¹ _ _ h.1 k.1,
    h.2 ∙ ap (λ (t : List Bool). c.print a ++ t) k.2 ∙ sym (append_assoc (c.print a) ((d a).print b) s''),
    omega (arith, h.3, k.3, length-append (c.print a) ((d a).print b)),
  )
  seq-second at s a at' s' h (no n p) k = tt

  seq-first : (at : ℕ) (s : List Bool) (o : Outcome A) → Faithful c.clean c.fault c.print at s o
      → Faithful seq_clean seq_fault seq_print at s (and_then o (λ a at' s'. and_then ((d a).parse at' s') (λ b at'' s''. ok (a, b) at'' s'')))
  seq-first at s (ok a at' s') h = seq-second at s a at' s' h ((d a).parse at' s') ((d a).sound at' s')
  seq-first at s (no n p) h = tt

  pub seq-sound : (at : ℕ) (s : List Bool) → Faithful seq_clean seq_fault seq_print at s (seq_parse at s)
  seq-sound at s = seq-first at s (c.parse at s) (c.sound at s)

  unfoldable pub seq : Codec (A × B)
  seq = record { clean = seq_clean; fault = seq_fault; print = seq_print; parse = seq_parse; reads = seq-reads; sound = seq-sound }

-- so that `do` sets one part under another, as a table does

infixl 1 ◌>>=◌ ◌>>◌
abbrev pub ◌>>=◌ : {A B : Type 0} → Codec A → (A → Codec B) → Codec (A × B)
◌>>=◌ c d = seq c d

abbrev pub ◌>>◌ : {A B : Type 0} → Codec A → Codec B → Codec (A × B)
◌>>◌ c d = seq c (λ a. d)

-- ---- a test after a part: its refusal number, 0 for none, and how far into the part the fault stands

-- refused with n at a place, unless n is 0
abbrev pub unless : {A : Type 0} → ℕ → ℕ → Outcome A → Outcome A
unless zero at o = o
unless (suc n) at o = no (suc n) at

module _ {A : Type 0} (c : Codec A) (refuse : A → ℕ) (into : A → ℕ) where
  abbrev pub test_fault : A → ℕ
  test_fault a = first (c.fault a) (refuse a)

  abbrev pub test_parse : ℕ → List Bool → Outcome A
  test_parse at s = and_then (c.parse at s) (λ a at' s'. unless (refuse a) (at + into a) (ok a at' s'))

  pub test-reads : (a : A) → c.clean a ≡ true → test_fault a ≡ 0 → (at : ℕ) (r : List Bool)
      → test_parse at (c.print a ++ r) ≡ ok a (at + length (c.print a)) r
  test-reads a hc hf at r =
      let f = first-none (c.fault a) (refuse a) hf in
      rw (c.reads a hc f.0, f.1)

  test-passed : (at : ℕ) (s : List Bool) (a : A) (at' : ℕ) (s' : List Bool) → Faithful c.clean c.fault c.print at s (ok a at' s')
      → (n p : ℕ) → refuse a ≡ n → Faithful c.clean test_fault c.print at s (unless n p (ok a at' s'))
  test-passed at s a at' s' h zero p e = (h.0, first-none⁻¹ _ _ h.1 e, h.2, h.3)
  test-passed at s a at' s' h (suc n) p e = tt

  test-first : (at : ℕ) (s : List Bool) (o : Outcome A) → Faithful c.clean c.fault c.print at s o
      → Faithful c.clean test_fault c.print at s (and_then o (λ a at' s'. unless (refuse a) (at + into a) (ok a at' s')))
  test-first at s (ok a at' s') h = test-passed at s a at' s' h (refuse a) (at + into a) refl
  test-first at s (no n p) h = tt

  pub test-sound : (at : ℕ) (s : List Bool) → Faithful c.clean test_fault c.print at s (test_parse at s)
  test-sound at s = test-first at s (c.parse at s) (c.sound at s)

  unfoldable pub tested : Codec A
  tested = record { clean = c.clean; fault = test_fault; print = c.print; parse = test_parse; reads = test-reads; sound = test-sound }

-- an element: a number of w bits, some of whose values are refused
unfoldable pub element : ℕ → (ℕ → ℕ) → Codec ℕ
element w refuse = tested (number w) refuse (λ v. 0)

-- ---- a record of parts: the same part in another shape
module _ {A B : Type 0} (c : Codec A) (to : A → B) (from : B → A)
    (there : (a : A) → c.clean a ≡ true → c.fault a ≡ 0 → from (to a) ≡ a) (back : (b : B) → to (from b) ≡ b) where
  abbrev pub shape_parse : ℕ → List Bool → Outcome B
  shape_parse at s = and_then (c.parse at s) (λ a at' s'. ok (to a) at' s')

  pub shape-reads : (b : B) → c.clean (from b) ≡ true → c.fault (from b) ≡ 0 → (at : ℕ) (r : List Bool)
      → shape_parse at (c.print (from b) ++ r) ≡ ok b (at + length (c.print (from b))) r
  shape-reads b hc hf at r = rw (c.reads (from b) hc hf, back)

  shape-first : (at : ℕ) (s : List Bool) (o : Outcome A) → Faithful c.clean c.fault c.print at s o
      → Faithful (λ b. c.clean (from b)) (λ b. c.fault (from b)) (λ b. c.print (from b)) at s (and_then o (λ a at' s'. ok (to a) at' s'))
  shape-first at s (ok a at' s') h = rw (there a h.0 h.1) h
  shape-first at s (no n p) h = tt

  pub shape-sound : (at : ℕ) (s : List Bool)
      → Faithful (λ b. c.clean (from b)) (λ b. c.fault (from b)) (λ b. c.print (from b)) at s (shape_parse at s)
  shape-sound at s = shape-first at s (c.parse at s) (c.sound at s)

  unfoldable pub shaped : Codec B
  shaped = record {
    clean = λ b. c.clean (from b);
    fault = λ b. c.fault (from b);
    print = λ b. c.print (from b);
    parse = shape_parse;
    reads = shape-reads;
    sound = shape-sound;
  }

-- ---- a fixed number of w bits before a part; any other is refused with 3

abbrev pub only : ℕ → ℕ → ℕ
only v x = pick (eqb x v) 0 3

pub mark-there : {A : Type 0} (w v : ℕ) (c : Codec A) (p : ℕ × A) → (seq (element w (only v)) (λ x. c)).clean p ≡ true
    → (seq (element w (only v)) (λ x. c)).fault p ≡ 0 → ◌≡◌ {A = ℕ × A} (v, p.1) p
unfolding seq element tested number
mark-there w v c p hc hf =
    let f = first-none ((element w (only v)).fault p.0) (c.fault p.1) hf in
    let g = first-none (number_fault w p.0) (only v p.0) f.0 in
    let e : p.0 ≡ v = eqb-true p.0 v (picked (eqb p.0 v) g.1 (λ x. omega arith)).0 in
    λ i. (sym e i, p.1)

unfoldable pub mark : {A : Type 0} → ℕ → ℕ → Codec A → Codec A
mark w v c = shaped (seq (element w (only v)) (λ x. c)) (λ p. p.1) (λ a. (v, a)) (mark-there w v c) (λ a. refl)
