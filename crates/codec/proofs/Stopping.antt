-- A part is refused exactly where it stops, and then with 2 or by a test. Assumes nothing.
use mathlib.Core.Path.{◌≡◌, refl, sym, ap, subst}
use mathlib.Core.Bool.{Bool, true, false}
use mathlib.Core.List.{List, ◌∷◌}
use Prim.Native.Nat.{ℕ, zero, suc, ◌+◌}
use native.Mathlib.Nat.{add_assoc, add-zero}
use native.Mathlib.Omega.{arith}
use lib.ListN.{length, take, drop}
use lib.Dec.{ltb}
use borrow.Author.Tests.{lt-ltb, ltb-true}
use Rattle.bits.specs.Bits.{pick, value}
use Rattle.codec.specs.Codec.{Outcome, ok, no, and_then, Faithful, Codec}
use Rattle.codec.specs.Parts.{number, absent, seq, tested, shaped, unless, seq_parse}
use Rattle.codec.specs.Places.{nil, cons}
use Rattle.codec.specs.Stops.{Stops, ends, refused, untested, first, second, entries, shape}
use Rattle.codec.proofs.Kept.{Kept}

-- ---- what stops is refused, at its place

then-refused : {A B : Type 0} {k p : ℕ} {o : Outcome A} (f : A → ℕ → List Bool → Outcome B) → o ≡ no k p → and_then o f ≡ no k p
then-refused f e = ap (λ o. and_then o f) e

pub stops-refused : {A : Type 0} {c : Codec A} {s : List Bool} {k p : ℕ} → Stops A c s k p → (at : ℕ) → c.parse at s ≡ no k (at + p)
unfolding number seq tested shaped cons
stops-refused (ends w s h) at = rw (lt-ltb (length s) w h, add-zero)
stops-refused (refused c test into a k more l e) at = rw (c.reads a l.clean l.faultless at more, e)
stops-refused (untested c test into s k p h) at = then-refused _ (stops-refused h at)
stops-refused (first c d s k p h) at = then-refused _ (stops-refused h at)
stops-refused (second c d a s k p l h) at =
    rw (c.reads a l.clean l.faultless at s, sym (add_assoc at (length (c.print a)) p))
    (then-refused _ (stops-refused h (at + length (c.print a))))
stops-refused (entries c d s k p h) at = then-refused _ (stops-refused h at)
stops-refused (shape c to from there back s k p h) at = then-refused _ (stops-refused h at)

-- ---- what is refused stops

module _ (Code : ℕ → Type 0) where
  -- the numbers of such refusals
  pub data ReadingCode : ℕ → Type 0 where
    two : ReadingCode 2
    of_test : {k : ℕ} → Code (suc k) → ReadingCode (suc k)

  -- refused at a place, so many bits behind where reading began
  pub record StopsAt (A : Type 0) (c : Codec A) (at : ℕ) (s : List Bool) (n here : ℕ) : Type 1 where
    pub before : ℕ
    pub stops : Stops A c s n before
    pub place : here ≡ at + before
    pub code : ReadingCode n

  abbrev pub Stopped : (A : Type 0) → Codec A → ℕ → List Bool → Outcome A → Type 1
  Stopped A c at s (ok a at' r) = Unit {1}
  Stopped A c at s (no n p) = StopsAt A c at s n p

  abbrev pub Stopping : (A : Type 0) → Codec A → Type 1
  Stopping A c = (at : ℕ) (s : List Bool) → Stopped A c at s (c.parse at s)

  stops-number : (w : ℕ) → Stopping ℕ (number w)
  unfolding number
  stops-number w at s = go (ltb (length s) w) refl
    where
      go : (t : Bool) → ltb (length s) w ≡ t → Stopped ℕ (number w) at s (pick t (no 2 at) (ok (value (take w s)) (at + w) (drop w s)))
      go true e = record { before = 0; stops = ends w s (ltb-true (length s) w e); place = sym (add-zero at); code = two }
      go false e = tt

  module _ {A : Type 0} (c : Codec A) where
    stops-tested : (test into : A → ℕ) → ((a : A) → Code (test a)) → Stopping A c → Stopping A (tested c test into)
    unfolding tested
    stops-tested test into codes h at s = go (c.parse at s) (c.sound at s) (h at s)
      where
        by : (a : A) (at' : ℕ) (r : List Bool) → Faithful c.clean c.fault c.print at s (ok a at' r) → (k : ℕ) → test a ≡ k → Code k
            → Stopped A (tested c test into) at s (unless k (at + into a) (ok a at' r))
        by a at' r k zero e code = tt
        by a at' r k (suc n) e code = record {
          before = into a;
          stops = subst (λ (l : List Bool). Stops A (tested c test into) l (suc n) (into a)) (sym k.2)
              (refused c test into a n r (record { clean = k.0; faultless = k.1 }) e);
          place = refl;
          code = of_test code;
        }

        go : (o : Outcome A) → Faithful c.clean c.fault c.print at s o → Stopped A c at s o
            → Stopped A (tested c test into) at s (and_then o (λ a at' r. unless (test a) (at + into a) (ok a at' r)))
        go (ok a at' r) k x = by a at' r k (test a) refl (codes a)
        go (no n p) k x = record { before = x.before; stops = untested c test into s n _ x.stops; place = x.place; code = x.code }

    stops-shaped : {B : Type 0} (to : A → B) (from : B → A) (there : (a : A) → c.clean a ≡ true → c.fault a ≡ 0 → from (to a) ≡ a)
        (back : (b : B) → to (from b) ≡ b) → Stopping A c → Stopping B (shaped c to from there back)
    unfolding shaped
    stops-shaped {B} to from there back h at s = go (c.parse at s) (h at s)
      where
        go : (o : Outcome A) → Stopped A c at s o → Stopped B (shaped c to from there back) at s (and_then o (λ a at' r. ok (to a) at' r))
        go (ok a at' r) x = tt
        go (no n p) x = record { before = x.before; stops = shape c to from there back s n _ x.stops; place = x.place; code = x.code }

    stops-seq : {B : Type 0} (d : A → Codec B) → Stopping A c → ((a : A) → Stopping B (d a)) → Stopping (A × B) (seq c d)
    unfolding seq
    stops-seq {B} d h k at s = go (c.parse at s) (c.sound at s) (h at s)
      where
        go' : (a : A) (at' : ℕ) (r : List Bool) → Faithful c.clean c.fault c.print at s (ok a at' r) → (o : Outcome B) → Stopped B (d a) at' r o
            → Stopped (A × B) (seq c d) at s (and_then o (λ b at'' s''. ok (a, b) at'' s''))
        go' a at' r y (ok b at'' s'') x = tt
        go' a at' r y (no n p) x =
            let all = length (c.print a) + x.before in
            record {
              before = all;
              stops = subst (λ (l : List Bool). Stops (A × B) (seq c d) l n all) (sym y.2)
                  (second c d a r n x.before (record { clean = y.0; faultless = y.1 }) x.stops);
              place = omega (arith, x.place, y.3);
              code = x.code;
            }

        go : (o : Outcome A) → Faithful c.clean c.fault c.print at s o → Stopped A c at s o
            → Stopped (A × B) (seq c d) at s (and_then o (λ a at' s'. and_then ((d a).parse at' s') (λ b at'' s''. ok (a, b) at'' s'')))
        go (ok a at' r) y x = go' a at' r y ((d a).parse at' r) (k a at' r)
        go (no n p) y x = record { before = x.before; stops = first c d s n _ x.stops; place = x.place; code = x.code }

    stops-cons : (d : Codec (List A)) → Stopping A c → Stopping (List A) d → Stopping (List A) (cons c d)
    unfolding seq cons
    stops-cons d h k at s = go (seq_parse c (λ a. d) at s) (stops-seq (λ a. d) h (λ a. k) at s)
      where
        go : (o : Outcome (A × List A)) → Stopped (A × List A) (seq c (λ a. d)) at s o
            → Stopped (List A) (cons c d) at s (and_then o (λ p at' s'. ok (p.0 ∷ p.1) at' s'))
        go (ok p at' s') x = tt
        go (no n p) x = record { before = x.before; stops = entries c d s n _ x.stops; place = x.place; code = x.code }

  -- every part does
  pub stopping : Kept Code Stopping
  unfolding absent nil
  stopping = record {
    number = stops-number;
    absent = λ at s. tt;
    tested = stops-tested;
    seq = λ c d. stops-seq c d;
    nil = λ at s. tt;
    cons = stops-cons;
    shaped = λ c to from there back. stops-shaped c to from there back;
  }
