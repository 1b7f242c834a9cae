-- A legal value of a part is made of legal values, and legal values make one: a law each way for each way to build a codec. Assumes nothing.
use mathlib.Core.Path.{◌≡◌, refl, sym, ap}
use mathlib.Core.Bool.{Bool, true, ◌&&◌}
use mathlib.Core.List.{List, [], ◌∷◌}
use Prim.Native.Nat.{ℕ, zero, suc, ◌^◌, ◌<◌}
use borrow.Author.Tests.{eq-eqb, lt-ltb, ltb-true}
use lib.ListN.{length}
use lib.Dec.{ltb}
use Rattle.bits.specs.Bits.{pick}
use Rattle.bits.specs.Lists.{Each}
use Rattle.bits.proofs.Tests.{differ, both, both⁻¹}
use Rattle.codec.specs.Codec.{Codec, Legal, first}
use Rattle.codec.specs.Parts.{first-none, first-none⁻¹, narrow, number, is-zero, absent, seq, tested, element, shaped, mark, only}
use Rattle.codec.specs.Places.{nil, cons, places}

-- two parts that are clean and faultless together are legal, each
each-legal : {A B : Type 0} (c : Codec A) (d : Codec B) (a : A) (b : B) → c.clean a && d.clean b ≡ true → first (c.fault a) (d.fault b) ≡ 0
    → Legal c a × Legal d b
each-legal c d a b clean faultless =
    let k = both (c.clean a) (d.clean b) clean in
    let f = first-none (c.fault a) (d.fault b) faultless in
    (record { clean = k.0; faultless = f.0 }, record { clean = k.1; faultless = f.1 })

pub legal-seq : {A B : Type 0} (c : Codec A) (d : A → Codec B) (p : A × B) → Legal (seq c d) p → Legal c p.0 × Legal (d p.0) p.1
unfolding seq
legal-seq c d p l = each-legal c (d p.0) p.0 p.1 l.clean l.faultless

pub legal-shaped : {A B : Type 0} (c : Codec A) (to : A → B) (from : B → A) (there : (a : A) → c.clean a ≡ true → c.fault a ≡ 0 → from (to a) ≡ a)
    (back : (b : B) → to (from b) ≡ b) (b : B) → Legal (shaped c to from there back) b → Legal c (from b)
unfolding shaped
legal-shaped c to from there back b l = record { clean = l.clean; faultless = l.faultless }

pub legal-tested : {A : Type 0} (c : Codec A) (refuse into : A → ℕ) (a : A) → Legal (tested c refuse into) a → Legal c a
unfolding tested
legal-tested c refuse into a l = record { clean = l.clean; faultless = (first-none (c.fault a) (refuse a) l.faultless).0 }

pub legal-mark : {A : Type 0} (w v : ℕ) (c : Codec A) (a : A) → Legal (mark w v c) a → Legal c a
unfolding mark
legal-mark w v c a l = (legal-seq _ _ _ (legal-shaped _ _ _ _ _ _ l)).1

pub legal-number : (w v : ℕ) → Legal (number w) v → v < 2 ^ w
unfolding number
legal-number w v l = narrow w v l.faultless

pub legal-element : (w : ℕ) (refuse : ℕ → ℕ) (v : ℕ) → Legal (element w refuse) v → v < 2 ^ w
unfolding element
legal-element w refuse v l = legal-number w v (legal-tested _ _ _ _ l)

pub legal-absent : (v : ℕ) → Legal absent v → v ≡ 0
unfolding absent
legal-absent v l = is-zero v l.clean

-- what is so of the entries that the PDU carries, and of the places that it does not, is so of each of the m places
module _ {A : Type 0} {c z : Codec A} (P : A → Type 0) (used : (a : A) → Legal c a → P a) (unused : (a : A) → Legal z a → P a) where
  head_tail : (x : Codec A) (y : Codec (List A)) (a : A) (l : List A) → Legal (cons x y) (a ∷ l) → Legal x a × Legal y l
  unfolding cons
  head_tail x y a l h = each-legal x y a l h.clean h.faultless

  pub legal-places : (m n : ℕ) (l : List A) → Legal (places c z m n) l → (length l ≡ m) × Each P l
  unfolding places nil cons
  legal-places zero n [] h = (refl, tt)
  legal-places zero n (a ∷ l) h = differ (sym h.clean)
  legal-places (suc m) zero [] h = differ (sym h.clean)
  legal-places (suc m) (suc n) [] h = differ (sym h.clean)
  legal-places (suc m) zero (a ∷ l) h =
      let p = head_tail z (places c z m zero) a l h in
      let t = legal-places m zero l p.1 in
      (ap suc t.0, (unused a p.0, t.1))
  legal-places (suc m) (suc n) (a ∷ l) h =
      let p = head_tail c (places c z m n) a l h in
      let t = legal-places m n l p.1 in
      (ap suc t.0, (used a p.0, t.1))

pub legal-length : {A : Type 0} (c z : Codec A) (m n : ℕ) (l : List A) → Legal (places c z m n) l → length l ≡ m
legal-length c z m n l h = (legal-places (λ a. Unit) (λ a x. tt) (λ a x. tt) m n l h).0

-- ---- what is made of legal values

pub pair-legal : {A B : Type 0} (c : Codec A) (d : A → Codec B) (p : A × B) → Legal c p.0 → Legal (d p.0) p.1 → Legal (seq c d) p
unfolding seq
pair-legal c d p x y = record { clean = both⁻¹ x.clean y.clean; faultless = first-none⁻¹ _ _ x.faultless y.faultless }

pub shaped-legal : {A B : Type 0} (c : Codec A) (to : A → B) (from : B → A) (there : (a : A) → c.clean a ≡ true → c.fault a ≡ 0 → from (to a) ≡ a)
    (back : (b : B) → to (from b) ≡ b) {b : B} → Legal c (from b) → Legal (shaped c to from there back) b
unfolding shaped
shaped-legal c to from there back x = record { clean = x.clean; faultless = x.faultless }

pub tested-legal : {A : Type 0} (c : Codec A) (refuse into : A → ℕ) {a : A} → Legal c a → refuse a ≡ 0 → Legal (tested c refuse into) a
unfolding tested
tested-legal c refuse into x e = record { clean = x.clean; faultless = first-none⁻¹ _ _ x.faultless e }

pub number-legal : (w : ℕ) {v : ℕ} → v < 2 ^ w → Legal (number w) v
unfolding number
number-legal w {v} h = record { clean = refl; faultless = ap (λ (t : Bool). pick {A = ℕ} t 0 3) (lt-ltb v (2 ^ w) h) }

pub element-legal : (w : ℕ) (refuse : ℕ → ℕ) {v : ℕ} → v < 2 ^ w → refuse v ≡ 0 → Legal (element w refuse) v
unfolding element
element-legal w refuse h e = tested-legal (number w) refuse (λ v. 0) (number-legal w h) e

pub absent-legal : Legal absent 0
unfolding absent
absent-legal = record { clean = refl; faultless = refl }

pub mark-legal : {A : Type 0} (w v : ℕ) (c : Codec A) {a : A} → ltb v (2 ^ w) ≡ true → Legal c a → Legal (mark w v c) a
unfolding mark
mark-legal w v c h x =
    shaped-legal _ _ _ _ _ (pair-legal _ _ _
    (element-legal w (only v) (ltb-true v (2 ^ w) h) (ap (λ (t : Bool). pick {A = ℕ} t 0 3) (eq-eqb v v refl))) x)
