-- What is read of a whole is read of its parts, with the values that the whole has: a law for each way to build a codec. Assumes nothing.
use mathlib.Core.Path.{◌≡◌, sym, ap, ◌∙◌, subst}
use mathlib.Core.Bool.{Bool, true}
use mathlib.Core.List.{List, ◌∷◌}
use Prim.Native.Nat.{ℕ, ◌+◌}
use Rattle.codec.specs.Codec.{Codec}
use Rattle.codec.specs.Parts.{number, element, seq, tested, shaped, mark, only}
use Rattle.codec.specs.Places.{cons}
use Rattle.codec.specs.Reading.{Found, got, and_next, unless_at, read_at}
use Rattle.codec.proofs.Reading.{read_at-seq, read_at-tested, read_at-shaped, read_at-cons, read_at-legal}
use Rattle.walk.proofs.Numbers.{element-says}
use Rattle.reader.specs.Inner.{Read}
use Rattle.reader.proofs.Elements.{steps, passed, number-end}
use Rattle.rules.specs.Rule.{is_empty}
use Rattle.in_place.specs.Inner.{Says, Sees}
use Rattle.in_place.specs.declared.Seen.{Seen}

-- what is read at a place is one value, up to one end
pub read-once : {A : Type 0} {c : Codec A} {s : List Bool} {at : ℕ} {v w : A} {m n : ℕ} → Read c s at v m → Read c s at w n → (v ≡ w) × (m ≡ n)
read-once p q = (cc (p.same, q.same), cc (p.same, q.same))

-- what was said is said of the value that is known
pub says_is : {A : Type 0} {c : Codec A} {test : A → Bool} {s : List Bool} {at : ℕ} {has : Bool} {v : A} {m n : ℕ}
    → Says c test s at has m → Read c s at v n → (has ≡ test v) × (m ≡ n)
says_is {test = test} p q = let o = read-once p.read q in (p.says ∙ ap test o.0, o.1)

pub record SeenIs {A : Type 0} (test : A → Bool) (code : A → ℕ) (v : A) (end : ℕ) (seen : Seen) : Type 0 where
  pub has : seen.has ≡ test v
  pub empty : seen.empty ≡ is_empty (code v)
  pub ends : seen.end ≡ end

pub sees-is : {A : Type 0} {c : Codec A} {test : A → Bool} {code : A → ℕ} {s : List Bool} {at : ℕ} {seen : Seen} {v : A} {n : ℕ}
    → Sees c test code s at seen → Read c s at v n → SeenIs test code v n seen
sees-is {test = test} {code} p q =
    let o = read-once p.read q in
    record { has = p.has ∙ ap test o.0; empty = p.empty ∙ ap (λ v. is_empty (code v)) o.0; ends = o.1 }

-- ---- one part after another

pub record Split {A B : Type 0} (c : Codec A) (d : A → Codec B) (s : List Bool) (at : ℕ) (a : A) (b : B) (end : ℕ) : Type 0 where
  pub middle : ℕ
  pub first : Read c s at a middle
  pub then : Read (d a) s middle b end

pub split-seq : {A B : Type 0} (c : Codec A) (d : A → Codec B) {s : List Bool} {at end : ℕ} {p : A × B} → Read (seq c d) s at p end
    → Split c d s at p.0 p.1 end
split-seq {A} {B} c d {s} {at} {end} {p} r =
    let x = steps (read_at c s at) (λ a m. and_next (read_at (d a) s m) (λ b e. got (a, b) e)) (sym (read_at-seq c d s at) ∙ r.same) in
    let k : B → ℕ → Found (A × B) = λ b e. got (x.value, b) e in
    let y = steps (read_at (d x.value) s x.next) k x.then in
    let pair : ◌≡◌ {A = A × B} (x.value, y.value) p = cc y.then in
    let e : y.next ≡ end = cc y.then in
    let a : x.value ≡ p.0 = ap (λ (z : A × B). z.0) pair in
    let b : y.value ≡ p.1 = ap (λ (z : A × B). z.1) pair in
    record {
      middle = x.next;
      first = record { same = x.first ∙ ap {B = Found A} (λ (z : A). got z x.next) a };
      then = record { same = ap (λ (z : A). read_at (d z) s x.next) (sym a) ∙ y.first ∙ rw (b, e) };
    }

-- ---- a part in another shape

module _ {A B : Type 0} (c : Codec A) (to : A → B) (from : B → A)
    (there : (a : A) → c.clean a ≡ true → c.fault a ≡ 0 → from (to a) ≡ a) (back : (b : B) → to (from b) ≡ b) {s : List Bool} {at : ℕ} where
  pub split-shaped : {b : B} {end : ℕ} → Read (shaped c to from there back) s at b end → Read c s at (from b) end
  split-shaped {b} {end} r =
      let x = steps (read_at c s at) (λ a m. got (to a) m) (sym (read_at-shaped c to from there back s at) ∙ r.same) in
      let l = (read_at-legal c s at x.value x.next x.first).0 in
      let e : x.next ≡ end = cc x.then in
      let v : to x.value ≡ b = cc x.then in
      let a : x.value ≡ from b = sym (there x.value l.clean l.faultless) ∙ ap from v in
      record { same = x.first ∙ rw (a, e) }

-- ---- a part with a test after it

pub split-tested : {A : Type 0} (c : Codec A) (refuse into : A → ℕ) {s : List Bool} {at : ℕ} {a : A} {end : ℕ}
    → Read (tested c refuse into) s at a end → Read c s at a end × (refuse a ≡ 0)
split-tested {A} c refuse into {s} {at} {a} {end} r =
    let x = steps (read_at c s at) (λ v m. unless_at (refuse v) (at + into v) (got v m)) (sym (read_at-tested c refuse into s at) ∙ r.same) in
    let p = passed (refuse x.value) (at + into x.value) (got x.value x.next) x.then in
    let v : x.value ≡ a = cc p.1 in
    (record { same = x.first ∙ p.1 }, ap refuse (sym v) ∙ p.0)

-- ---- a number, and what it says follows: a range type, a count, a length

pub record Headed {A : Type 0} (w : ℕ) (refuse : ℕ → ℕ) (d : ℕ → Codec A) (s : List Bool) (at v : ℕ) (a : A) (end : ℕ) : Type 0 where
  pub head : Read (number w) s at v (at + w)
  pub legal : refuse v ≡ 0
  pub rest : Read (d v) s (at + w) a end

pub split-headed : {A : Type 0} (w : ℕ) (refuse : ℕ → ℕ) (d : ℕ → Codec A) {s : List Bool} {at end : ℕ} {p : ℕ × A}
    → Read (seq (element w refuse) d) s at p end → Headed w refuse d s at p.0 p.1 end
split-headed w refuse d {s} {at} {end} {p} r =
    let x = split-seq (element w refuse) d r in
    let n = element-says w refuse s at x.first.same in
    let m : x.middle ≡ at + w = number-end s at w n.0 in
    record {
      head = record { same = rw m at n.0 };
      legal = n.1;
      rest = subst (λ (q : ℕ). Read (d p.0) s q p.1 end) m x.then;
    }

-- a fixed number before a part
pub split-mark : {A : Type 0} (w v : ℕ) (c : Codec A) {s : List Bool} {at : ℕ} {a : A} {end : ℕ} → Read (mark w v c) s at a end
    → Read c s (at + w) a end
unfolding mark
split-mark w v c r = (split-headed w (only v) (λ x. c) (split-shaped _ _ _ _ _ r)).rest

-- ---- the places of a list

pub record Consed {A : Type 0} (c : Codec A) (d : Codec (List A)) (s : List Bool) (at : ℕ) (l : List A) (end : ℕ) : Type 0 where
  pub entry : A
  pub others : List A
  pub middle : ℕ
  pub is : l ≡ entry ∷ others
  pub first : Read c s at entry middle
  pub then : Read d s middle others end

pub split-cons : {A : Type 0} (c : Codec A) (d : Codec (List A)) {s : List Bool} {at : ℕ} {l : List A} {end : ℕ} → Read (cons c d) s at l end
    → Consed c d s at l end
split-cons {A} c d {s} {at} {l} {end} r =
    let x = steps (read_at c s at) (λ a m. and_next (read_at d s m) (λ t e. got (a ∷ t) e)) (sym (read_at-cons c d s at) ∙ r.same) in
    let y = steps (read_at d s x.next) (λ t e. got (x.value ∷ t) e) x.then in
    let e : y.next ≡ end = cc y.then in
    record {
      entry = x.value;
      others = y.value;
      middle = x.next;
      is = cc y.then;
      first = record { same = x.first };
      then = record { same = y.first ∙ rw e };
    }
