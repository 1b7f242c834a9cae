-- Parts put one after another: where there is room for the whole there is room for each, and what they leave is the whole. Assumes nothing.
use mathlib.Core.Path.{◌≡◌, refl, sym, ap, ◌∙◌}
use mathlib.Core.Bool.{Bool, true}
use mathlib.Core.List.{List, [], ◌∷◌, ◌++◌, append_assoc, append-nil}
use Prim.Native.Nat.{ℕ, ◌+◌, ◌≤◌}
use native.Mathlib.Nat.{add-zero}
use native.Mathlib.Omega.{arith}
use lib.ListN.{length, take, length-append}
use Rattle.bits.specs.Bits.{bits}
use Rattle.codec.specs.Codec.{Codec}
use Rattle.codec.specs.Parts.{number, element, seq, tested, shaped}
use Rattle.writer.specs.Inner.{Room, Puts}
use Rattle.codec.proofs.Sizes.{Within}

-- a whole of two parts, put as they are
pub join : {A B C : Type 0} {c : Codec A} {d : Codec B} {e : Codec C} {a : A} {b : B} {x : C} {s t u : List ℕ} {at m n : ℕ}
    → e.print x ≡ c.print a ++ d.print b → Puts c a s t at m → Puts d b t u m n → Puts e x s u at n
join {c} {d} {a} {b} {s} {at} same p q = record {
  there = q.there ∙ ap (λ (l : List Bool). l ++ d.print b) p.there ∙ append_assoc (take at (bits s)) (c.print a) (d.print b)
      ∙ ap (λ (l : List Bool). take at (bits s) ++ l) (sym same);
  next = omega (arith, p.next, q.next, ap length same, length-append (c.print a) (d.print b));
  kept = q.kept ∙ p.kept;
}

-- room for the first of them
pub left : {A B C : Type 0} {c : Codec A} (d : Codec B) {e : Codec C} {a : A} (b : B) {x : C} {s : List ℕ} {at : ℕ}
    → e.print x ≡ c.print a ++ d.print b → Room e x s at → Room c a s at
left {c} d {a} b same h = record {
  short = omega (arith, h.short, ap length same, length-append (c.print a) (d.print b));
  fits = omega (arith, h.fits, ap length same, length-append (c.print a) (d.print b));
}

-- and after it for the second
pub right : {A B C : Type 0} {c : Codec A} {d : Codec B} {e : Codec C} {a : A} {b : B} {x : C} {s t : List ℕ} {at m : ℕ}
    → e.print x ≡ c.print a ++ d.print b → Room e x s at → Puts c a s t at m → Room d b t m
right {c} {d} {a} {b} same h p = record {
  short = omega (arith, h.short, p.next, ap length same, length-append (c.print a) (d.print b));
  fits = omega (arith, h.fits, p.next, p.kept, ap length same, length-append (c.print a) (d.print b));
}

-- ---- one part after another

module _ {A B : Type 0} {c : Codec A} (d : A → Codec B) {a : A} {b : B} {s : List ℕ} {at : ℕ} (h : Room (seq c d) (a, b) s at) where
  pub room-first : Room c a s at
  unfolding seq
  room-first = left (d a) b refl h

  pub room_next : {t : List ℕ} {m : ℕ} → Puts c a s t at m → Room (d a) b t m
  unfolding seq
  room_next p = right refl h p

  pub put_then : {t u : List ℕ} {m n : ℕ} → Puts c a s t at m → (Room (d a) b t m → Puts (d a) b t u m n) → Puts (seq c d) (a, b) s u at n
  unfolding seq
  put_then p q = join refl p (q (right refl h p))

-- ---- a part that is the same bits as another, and one under another shape or with a test after it

module _ {A B : Type 0} {c : Codec A} {d : Codec B} {a : A} {b : B} (same : d.print b ≡ c.print a) {s : List ℕ} {at : ℕ} where
  pub room_as : Room d b s at → Room c a s at
  room_as h = record { short = omega (arith, h.short, ap length same); fits = omega (arith, h.fits, ap length same) }

  pub put_as : {t : List ℕ} {m : ℕ} → Puts c a s t at m → Puts d b s t at m
  put_as p = record {
    there = p.there ∙ ap (λ (l : List Bool). take at (bits s) ++ l) (sym same);
    next = p.next ∙ ap (λ (l : List Bool). at + length l) (sym same);
    kept = p.kept;
  }

module _ {A B : Type 0} {c : Codec A} (to : A → B) (from : B → A) (there : (a : A) → c.clean a ≡ true → c.fault a ≡ 0 → from (to a) ≡ a)
    (back : (b : B) → to (from b) ≡ b) {b : B} {s : List ℕ} {at : ℕ} where
  pub room-shape : Room (shaped c to from there back) b s at → Room c (from b) s at
  unfolding shaped
  room-shape h = room_as refl h

  pub put-shape : {t : List ℕ} {m : ℕ} → Puts c (from b) s t at m → Puts (shaped c to from there back) b s t at m
  unfolding shaped
  put-shape p = put_as refl p

module _ (w : ℕ) (refuse : ℕ → ℕ) {v : ℕ} {s : List ℕ} {at : ℕ} where
  pub room-element : Room (element w refuse) v s at → Room (number w) v s at
  unfolding element tested
  room-element h = room_as refl h

  pub put_element : {t : List ℕ} {m : ℕ} → Puts (number w) v s t at m → Puts (element w refuse) v s t at m
  unfolding element tested
  put_element p = put_as refl p

-- ---- a part of no bits

empty : (l : List Bool) → length l ≤ 0 → l ≡ []
empty [] h = refl
empty (b ∷ l) h = absurd (omega arith)

pub no_bits : {A : Type 0} {c : Codec A} (a : A) → Within 0 c → c.print a ≡ []
no_bits {c} a h = empty (c.print a) (h.size a)

pub put-none : {A : Type 0} {c : Codec A} {a : A} {s : List ℕ} {at : ℕ} → Within 0 c → Puts c a s s at at
put-none {c} {a} {s} {at} h =
    let e = no_bits a h in
    record {
      there = sym (ap (λ (l : List Bool). take at (bits s) ++ l) e ∙ append-nil (take at (bits s)));
      next = sym (ap (λ (l : List Bool). at + length l) e ∙ add-zero at);
      kept = refl;
    }
