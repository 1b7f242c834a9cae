-- Passing, one law for each way to build a part. Assumes nothing.
use Rattle.std.specs.Prelude.{Ok, Err}
use mathlib.Core.Path.{◌≡◌, refl, sym, ap, ◌∙◌}
use mathlib.Core.List.{List, ◌∷◌}
use mathlib.Core.Bool.{Bool, true, false}
use Prim.Native.Nat.{ℕ, zero, suc, ◌+◌, ◌-◌, ◌≤◌, ◌<◌}
use native.Mathlib.Omega.{arith}
use Rattle.bits.specs.Bits.{pick}
use Rattle.bits.specs.declared.Cursor.{Cursor}
use Rattle.codec.specs.Codec.{Codec}
use Rattle.codec.specs.Parts.{seq, shaped, tested}
use Rattle.codec.specs.Places.{nil, cons, places}
use Rattle.codec.specs.Reading.{Found, got, refused, and_next, unless_at, read_at, said, reached}
use Rattle.codec.specs.declared.Stop.{Stop}
use Rattle.codec.proofs.Reading.{read_at-seq, read_at-shaped, read_at-nil, read_at-cons, read_at-tested}
use Rattle.codec.proofs.Onward.{ends, goes-past}
use Rattle.walk.specs.Inner.{Reached, pass, steps}

-- ---- where reading stands

pub pass-at : {A : Type 0} (c : Codec A) (l : List Bool) (at : ℕ) → pass c l (Ok (record { at = at })) ≡ reached (read_at c l at)
unfolding pass
pass-at c l at = refl

pub pass-stays : {A : Type 0} (c : Codec A) (l : List Bool) (e : Stop) → Err e ≡ pass c l (Err e)
unfolding pass
pass-stays c l e = refl

-- what follows a part whose value it does not ask for
pub past : {A B : Type 0} (c : Codec A) (l : List Bool) (at end : ℕ) (k : ℕ → Found B)
    → pass c l (Ok (record { at = at })) ≡ Ok (record { at = end }) → and_next (read_at c l at) (λ a p. k p) ≡ k end
unfolding pass
past c l at end k e = goes-past (read_at c l at) k (sym e)

-- what is made of the value
made : {A B : Type 0} (o : Found A) (f : A → B) → reached (and_next o (λ a p. got (f a) p)) ≡ reached o
made (got a p) f = refl
made (refused n p) f = refl

-- a part in another shape
pub pass-shaped : {A B : Type 0} (c : Codec A) (to : A → B) (from : B → A) (there : (a : A) → c.clean a ≡ true → c.fault a ≡ 0 → from (to a) ≡ a)
    (back : (b : B) → to (from b) ≡ b) (l : List Bool) (r : Reached) → pass (shaped c to from there back) l r ≡ pass c l r
unfolding pass
pass-shaped c to from there back l (Ok p) = ap reached (read_at-shaped c to from there back l p.at) ∙ made (read_at c l p.at) to
pass-shaped c to from there back l (Err e) = refl

-- one part after another of which a was read
pub pass-then : {A B : Type 0} (c : Codec A) (d : A → Codec B) (l : List Bool) (at : ℕ) {a : A} {q : ℕ} → read_at c l at ≡ got a q
    → pass (seq c d) l (Ok (record { at = at })) ≡ pass (d a) l (Ok (record { at = q }))
unfolding pass
pass-then {A} {B} c d l at {a} {q} h =
    ap reached (read_at-seq c d l at ∙ ap (λ o. and_next {B = A × B} o (λ a p. and_next (read_at (d a) l p) (λ b q. got (a, b) q))) h)
    ∙ made (read_at (d a) l q) (λ b. (a, b))

-- and of which nothing was
pub ends-before : {A B : Type 0} (c : Codec A) (d : A → Codec B) (l : List Bool) (at : ℕ) {e : Stop} → Err e ≡ said (read_at c l at)
    → Err e ≡ reached (read_at (seq c d) l at)
ends-before c d l at h = ap reached (sym (read_at-seq c d l at ∙ ends _ _ h))

-- a part whose reading is that of c, of d, and of what is made of both
pub pass-both : {A B C : Type 0} (e : Codec C) (c : Codec A) (d : Codec B) (g : A → B → C) (l : List Bool) (r : Reached)
    → ((at : ℕ) → read_at e l at ≡ and_next (read_at c l at) (λ a p. and_next (read_at d l p) (λ b q. got (g a b) q))) → pass e l r ≡ pass d l (pass c l r)
unfolding pass
pass-both {A} e c d g l (Ok p) h = ap reached (h p.at) ∙ go (read_at c l p.at)
  where
    go : (o : Found A) → reached (and_next o (λ a p. and_next (read_at d l p) (λ b q. got (g a b) q))) ≡ pass d l (reached o)
    go (got a p) = made (read_at d l p) (g a)
    go (refused n p) = refl
pass-both e c d g l (Err x) h = refl

-- the same with three parts
pub pass-three : {A B C D : Type 0} (e : Codec D) (c : Codec A) (d : Codec B) (f : Codec C) (g : A → B → C → D) (l : List Bool) (r : Reached)
    → ((at : ℕ) → read_at e l at ≡ and_next (read_at c l at) (λ a p. and_next (read_at d l p) (λ b q. and_next (read_at f l q) (λ x t. got (g a b x) t))))
    → pass e l r ≡ pass f l (pass d l (pass c l r))
unfolding pass
pass-three {A} {B} e c d f g l (Ok p) h = ap reached (h p.at) ∙ go (read_at c l p.at)
  where
    then : (o : Found B) (a : A) → reached (and_next o (λ b q. and_next (read_at f l q) (λ x t. got (g a b x) t))) ≡ pass f l (reached o)
    then (got b q) a = made (read_at f l q) (g a b)
    then (refused n q) a = refl

    go : (o : Found A) → reached (and_next o (λ a p. and_next (read_at d l p) (λ b q. and_next (read_at f l q) (λ x t. got (g a b x) t))))
        ≡ pass f l (pass d l (reached o))
    go (got a p) = then (read_at d l p) a
    go (refused n p) = refl
pass-three e c d f g l (Err x) h = refl

-- a test that never refuses changes nothing
pub pass-untested : {A : Type 0} (c : Codec A) (refuse into : A → ℕ) (l : List Bool) (r : Reached) → ((a : A) → refuse a ≡ 0)
    → pass (tested c refuse into) l r ≡ pass c l r
unfolding pass
pass-untested {A} c refuse into l (Ok p) h = ap reached (read_at-tested c refuse into l p.at) ∙ go (read_at c l p.at)
  where
    go : (o : Found A) → reached (and_next o (λ a q. unless_at (refuse a) (p.at + into a) (got a q))) ≡ reached o
    go (got a q) = rw (h a)
    go (refused n q) = refl
pass-untested c refuse into l (Err x) h = refl

-- what reads nothing passes nothing
pub pass-nothing : {A : Type 0} (z : Codec A) (x : A) (l : List Bool) → ((at : ℕ) → read_at z l at ≡ got x at) → (r : Reached) → pass z l r ≡ r
unfolding pass
pass-nothing z x l none (Ok p) = ap reached (none p.at)
pass-nothing z x l none (Err e) = refl

-- what is there, or not
pub carried : {A : Type 0} (c z : Codec A) (b : Bool) {x : A} (l : List Bool) (at : Cursor) → read_at z l at.at ≡ got x at.at
    → pick b (reached (read_at c l at.at)) (Ok at) ≡ reached (read_at (pick b c z) l at.at)
carried c z true l at none = refl
carried c z false l at none = ap reached (sym none)

-- ---- places

pub steps-last : (f : Reached → Reached) (k : ℕ) (r : Reached) → steps f (suc k) r ≡ f (steps f k r)
unfolding steps
steps-last f zero r = refl
steps-last f (suc k) r = steps-last f k (f r)

pub steps_next : (f : Reached → Reached) (k : ℕ) (r : Reached) → 0 < k → steps f k r ≡ steps f (k - 1) (f r)
unfolding steps
steps_next f zero r h = absurd (omega arith)
steps_next f (suc k) r h = let e : suc k - 1 ≡ k = omega arith in rw e

pub steps-stay : (f : Reached → Reached) (k : ℕ) (e : Stop) → ((e : Stop) → Err e ≡ f (Err e)) → steps f k (Err e) ≡ Err e
unfolding steps
steps-stay f zero e h = refl
steps-stay f (suc k) e h = ap (steps f k) (sym (h e)) ∙ steps-stay f k e h

pub steps-none : (f : Reached → Reached) (k : ℕ) (r : Reached) → k ≡ 0 → steps f k r ≡ r
unfolding steps
steps-none f k r e = rw e

pub steps-count : (f : Reached → Reached) (r : Reached) {j k : ℕ} → j ≡ k → steps f j r ≡ steps f k r
steps-count f r e = rw e

pass-cons : {A : Type 0} (c : Codec A) (d : Codec (List A)) (l : List Bool) (r : Reached) → pass (cons c d) l r ≡ pass d l (pass c l r)
pass-cons c d l r = pass-both (cons c d) c d (λ a t. a ∷ t) l r (read_at-cons c d l)

-- the places that the PDU carries are so many passes
module _ {A : Type 0} (c z : Codec A) (x : A) (l : List Bool) (none : (at : ℕ) → read_at z l at ≡ got x at) where
  pub pass-places : (m k : ℕ) (r : Reached) → k ≤ m → pass (places c z m k) l r ≡ steps (pass c l) k r
  unfolding places steps
  pass-places zero zero r h = pass-nothing (nil {A = A}) _ l (read_at-nil l) r
  pass-places zero (suc k) r h = absurd (omega arith)
  pass-places (suc m) zero r h =
      pass-cons z (places c z m 0) l r ∙ ap (pass (places c z m 0) l) (pass-nothing z x l none r) ∙ pass-places m 0 r (omega arith)
  pass-places (suc m) (suc k) r h = pass-cons c (places c z m k) l r ∙ pass-places m k (pass c l r) (omega arith)
