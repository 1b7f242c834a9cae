-- Reading at a place, one law for each way to build a codec. Assumes nothing.
use Rattle.std.specs.Prelude.{Option, Some, None}
use Rattle.std.specs.Option.{ok_or}
use mathlib.Core.Path.{◌≡◌, refl, sym, ap, ◌∙◌}
use mathlib.Core.Bool.{Bool, true, false, ◌&&◌}
use mathlib.Core.List.{List, [], ◌∷◌}
use Prim.Native.Nat.{ℕ, zero, suc, ◌+◌, ◌≤◌}
use native.Mathlib.Omega.{arith}
use lib.ListN.{length, take, drop, length-drop}
use lib.Seq.{drop-drop, drop-append_seam}
use lib.Dec.{ltb, leb}
use borrow.Author.Tests.{ltb-true, ltb-false, lt-ltb, le-ltb, leb-true}
use Rattle.bits.specs.Bits.{pick, value}
use Rattle.bits.specs.Frame.{bits_in}
use Rattle.bits.specs.Element.{element_at, taken_at}
use Rattle.bits.specs.declared.Cursor.{Cursor}
use Rattle.bits.proofs.Tests.{never}
use Rattle.bits.proofs.Elements.{element-there, element-short}
use Rattle.codec.specs.Codec.{Outcome, ok, no, and_then, Faithful, Codec, Legal}
use Rattle.codec.specs.Parts.{number, absent, seq, unless, tested, element, shaped, mark, only}
use Rattle.codec.specs.Places.{is_nil, nil, cons}
use Rattle.codec.specs.Whole.{whole_parse}
use Rattle.codec.specs.Reading.{Found, got, refused, and_next, unless_at, answer, read_at, said, element_of}

pub and_next_assoc : {A B C : Type 0} (o : Found A) (j : A → ℕ → Found B) (k : B → ℕ → Found C)
    → and_next (and_next o j) k ≡ and_next o (λ a at. and_next (j a at) k)
and_next_assoc (got a at) j k = refl
and_next_assoc (refused n p) j k = refl

pub next-got : {A : Type 0} (o : Found A) → and_next o (λ a at. got a at) ≡ o
next-got (got a at) = refl
next-got (refused n p) = refl

pub unless_at-some : {A : Type 0} (k at : ℕ) (o : Found A) → (k ≡ 0 → ⊥) → unless_at k at o ≡ refused k at
unless_at-some zero at o h = absurd (h refl)
unless_at-some (suc k) at o h = refl

-- what is left after a part is what stands at the next place
rest_at : {A : Type 0} (c : Codec A) (s : List Bool) (at : ℕ) (o : Outcome A) → Faithful c.clean c.fault c.print at (drop at s) o
    → (a : A) (at' : ℕ) (r : List Bool) → o ≡ ok a at' r → r ≡ drop at' s
rest_at c s at (ok b p t) h a at' r e =
    let q : t ≡ r = cc in
    let q' : p ≡ at' = cc in
    rw (← q, ← q') (sym (ap (λ (n : ℕ). drop n s) h.3 ∙ sym (drop-drop (length (c.print b)) at s)
    ∙ ap (drop (length (c.print b))) h.2 ∙ drop-append_seam (c.print b) t))
rest_at c s at (no n p) h a at' r e = never cc

module _ {A B : Type 0} (c : Codec A) (k : A → ℕ → List Bool → Outcome B) (s : List Bool) (at : ℕ) where
  then-cases : (o : Outcome A) → c.parse at (drop at s) ≡ o → answer (and_then o k) ≡ and_next (answer o) (λ a at'. answer (k a at' (drop at' s)))
  then-cases (ok a at' r) e = ap (λ (t : List Bool). answer (k a at' t)) (rest_at c s at (c.parse at (drop at s)) (c.sound at (drop at s)) a at' r e)
  then-cases (no n p) e = refl

  -- to go on after a part is to go on at the next place
  then_at : answer (and_then (c.parse at (drop at s)) k) ≡ and_next (answer (c.parse at (drop at s))) (λ a at'. answer (k a at' (drop at' s)))
  then_at = then-cases (c.parse at (drop at s)) refl

-- ---- the laws of reading at a place, one for each way to build a codec

pub read_at-seq : {A B : Type 0} (c : Codec A) (d : A → Codec B) (s : List Bool) (at : ℕ)
    → read_at (seq c d) s at ≡ and_next (read_at c s at) (λ a at'. and_next (read_at (d a) s at') (λ b at''. got (a, b) at''))
unfolding read_at seq
read_at-seq {A} {B} c d s at =
    then_at c (λ a at' s'. and_then ((d a).parse at' s') (λ b at'' s''. ok (a, b) at'' s'')) s at
    ∙ ap (and_next {B = A × B} (answer (c.parse at (drop at s))))
    (λ i a at'. then_at (d a) (λ b at'' s''. ok (a, b) at'' s'') s at' i)

-- what the cursor takes, as an answer
abbrev pub taken : ℕ → Option (ℕ × Cursor) → Found ℕ
taken at (Some (v, c)) = got v c.at
taken at None = refused 2 at

pub said-taken : (at : Cursor) (o : Option (ℕ × Cursor)) → ok_or o (record { number = 2; at = at.at }) ≡ said (taken at.at o)
said-taken at (Some (v, c)) = refl
said-taken at None = refl

pub read_at-number : (w : ℕ) (s : List Bool) (at : ℕ) → 1 ≤ w → read_at (number w) s at ≡ taken at (element_at s at w)
unfolding read_at number
read_at-number w s at h = go (ltb (length (drop at s)) w) refl
  where
    go : (t : Bool) → ltb (length (drop at s)) w ≡ t
        → answer (pick t (no 2 at) (ok (value (take w (drop at s))) (at + w) (drop w (drop at s)))) ≡ taken at (element_at s at w)
    go true e =
        let l = ltb-true (length (drop at s)) w e in
        rw (element-short s at w (omega (arith, length-drop at s)))
    go false e =
        let l = ltb-false (length (drop at s)) w e in
        rw (element-there s at w (omega (arith, length-drop at s)))

-- the cursor reads the codec's numbers
pub element_of-taken : (s : List ℕ) (n w at : ℕ) → element_of s n w at ≡ taken at (taken_at s n at w)
unfolding element_of taken_at
element_of-taken s n w at = go (leb 1 w) (leb w 32) refl
  where
    go : (a b : Bool) → leb 1 w ≡ a
        → pick (a && b) (read_at (number w) (bits_in n s) at) (refused 2 at) ≡ taken at (pick (a && b) (element_at (bits_in n s) at w) None)
    go true true e = read_at-number w (bits_in n s) at (leb-true 1 w e)
    go true false e = refl
    go false b e = refl

pub read_at-absent : (s : List Bool) (at : ℕ) → read_at absent s at ≡ got 0 at
unfolding read_at absent
read_at-absent s at = refl

pub read_at-tested : {A : Type 0} (c : Codec A) (refuse into : A → ℕ) (s : List Bool) (at : ℕ)
    → read_at (tested c refuse into) s at ≡ and_next (read_at c s at) (λ a at'. unless_at (refuse a) (at + into a) (got a at'))
unfolding read_at tested
read_at-tested {A} c refuse into s at =
    then_at c (λ a at' s'. unless (refuse a) (at + into a) (ok a at' s')) s at
    ∙ ap (and_next {B = A} (answer (c.parse at (drop at s)))) (λ i a at'. unless-at (refuse a) (at + into a) a at' (drop at' s) i)
  where
    unless-at : (n p : ℕ) (a : A) (at' : ℕ) (r : List Bool) → answer (unless n p (ok a at' r)) ≡ unless_at n p (got a at')
    unless-at zero p a at' r = refl
    unless-at (suc n) p a at' r = refl

pub read_at-shaped : {A B : Type 0} (c : Codec A) (to : A → B) (from : B → A)
    (there : (a : A) → c.clean a ≡ true → c.fault a ≡ 0 → from (to a) ≡ a) (back : (b : B) → to (from b) ≡ b) (s : List Bool) (at : ℕ)
    → read_at (shaped c to from there back) s at ≡ and_next (read_at c s at) (λ a at'. got (to a) at')
unfolding read_at shaped
read_at-shaped c to from there back s at = then_at c (λ a at' s'. ok (to a) at' s') s at

pub read_at-nil : {A : Type 0} (s : List Bool) (at : ℕ) → read_at (nil {A = A}) s at ≡ got [] at
unfolding read_at nil
read_at-nil s at = refl

pub read_at-cons : {A : Type 0} (c : Codec A) (d : Codec (List A)) (s : List Bool) (at : ℕ)
    → read_at (cons c d) s at ≡ and_next (read_at c s at) (λ a at'. and_next (read_at d s at') (λ l at''. got (a ∷ l) at''))
unfolding read_at cons seq
read_at-cons {A} c d s at =
    then_at (seq c (λ x. d)) (λ p at' s'. ok (p.0 ∷ p.1) at' s') s at
    ∙ ap (λ (o : Found (A × List A)). and_next o (λ p at'. got (p.0 ∷ p.1) at')) (read_at-seq c (λ x. d) s at)
    ∙ simp and_next_assoc

-- what is read is legal, and ends as many bits on as its writing has
module _ {A : Type 0} (c : Codec A) (s : List Bool) (at : ℕ) where
  legal-cases : (o : Outcome A) → Faithful c.clean c.fault c.print at (drop at s) o
      → (a : A) (at' : ℕ) → answer o ≡ got a at' → Legal c a × (at' ≡ at + length (c.print a))
  legal-cases (ok b p t) h a at' e =
      let q : b ≡ a = cc in
      let q' : p ≡ at' = cc in
      rw (← q, ← q') (record { clean = h.0; faultless = h.1 }, h.3)
  legal-cases (no n p) h a at' e = never cc

  pub read_at-legal : (a : A) (at' : ℕ) → read_at c s at ≡ got a at' → Legal c a × (at' ≡ at + length (c.print a))
  unfolding read_at
  read_at-legal = legal-cases (c.parse at (drop at s)) (c.sound at (drop at s))

pub mark-at : {A : Type 0} (w v : ℕ) (c : Codec A) (s : List Bool) (at : ℕ)
    → read_at (mark w v c) s at ≡ and_next (read_at (element w (only v)) s at) (λ x at₁. read_at c s at₁)
unfolding mark
mark-at w v c s at = simp (read_at-shaped, read_at-seq, and_next_assoc, next-got)

-- the whole of a PDU, read to its end
pub whole-at : {A : Type 0} (c : Codec A) (s : List Bool)
    → answer (whole_parse c s) ≡ and_next (read_at c s 0) (λ a at. pick (ltb at (length s)) (refused 5 at) (got a at))
unfolding read_at
whole-at {A} c s =
    then_at c (λ a at r. pick (is_nil r) (ok a at r) (no 5 at)) s 0
    ∙ ap (and_next {B = A} (answer (c.parse 0 s))) (λ i a at. left a at i)
  where
    left : (a : A) (at : ℕ) → answer (pick (is_nil (drop at s)) (ok a at (drop at s)) (no 5 at)) ≡ pick (ltb at (length s)) (refused 5 at) (got a at)
    left a at = go (drop at s) refl
      where
        go : (r : List Bool) → drop at s ≡ r → answer (pick (is_nil r) (ok a at r) (no 5 at)) ≡ pick (ltb at (length s)) (refused 5 at) (got a at)
        go [] e = rw (le-ltb at (length s) (omega (arith, length-drop at s, ap length e)))
        go (b ∷ r) e = rw (lt-ltb at (length s) (omega (arith, length-drop at s, ap length e)))
