-- A loop that puts the entries of a list that are used, straight from their words. Assumes nothing.
use mathlib.Core.Path.{◌≡◌, refl, sym, ap, ◌∙◌, subst}
use mathlib.Core.List.{List, ◌∷◌}
use Prim.Native.Nat.{ℕ, zero, suc, ◌+◌, ◌-◌, ◌*◌, ◌≤◌, ◌<◌}
use native.Mathlib.Nat.{sub-zero}
use native.Mathlib.Omega.{arith}
use lib.ListN.{length, drop}
use lib.Seq.{drop-drop}
use Rattle.bits.specs.Lists.{Each}
use Rattle.codec.specs.Codec.{Codec}
use Rattle.codec.specs.Places.{cons, places}
use Rattle.codec.proofs.Sizes.{Within, size-more, size-places}
use Rattle.words.specs.RecordWords.{entries_from}
use Rattle.tally.proofs.Entries.{places-next, entries_next}
use Rattle.writer.specs.Inner.{Room, Puts}
use Rattle.writer.proofs.Puts.{left, right, join, put-none}

-- ---- one entry before others

module _ {A : Type 0} {c : Codec A} (d : Codec (List A)) {a : A} {l : List A} {s : List ℕ} {at : ℕ} (h : Room (cons c d) (a ∷ l) s at) where
  entry_first : Room c a s at
  unfolding cons
  entry_first = left d l refl h

  entry_next : {t : List ℕ} {m : ℕ} → Puts c a s t at m → Room d l t m
  unfolding cons
  entry_next p = right refl h p

  entry-then : {t u : List ℕ} {m n : ℕ} → Puts c a s t at m → Puts d l t u m n → Puts (cons c d) (a ∷ l) s u at n
  unfolding cons
  entry-then p q = join refl p q

-- nothing is put for places that are not used: where none is, it is all one how used places are put
none-used : {A : Type 0} (c d z : Codec A) (m : ℕ) → places c z m 0 ≡ places d z m 0
unfolding places
none-used c d z zero = refl
none-used c d z (suc m) = ap (cons z) (none-used c d z m)

size-unused : {A : Type 0} (c z : Codec A) → Within 0 z → (m : ℕ) → Within 0 (places c z m 0)
size-unused {A} c z h m =
    subst (λ (p : Codec (List A)). Within 0 p) (none-used z c z m) (size-more (size-places z z 0 h h m 0) (omega arith))

-- ---- the loop

-- of m entries of k words each, of which the PDU carries the first n, the first i are put; the next goes to `at`, and with the others put
-- there all of them are
pub record Putting {A : Type 0} (c z : Codec A) (f : List ℕ → A) (k m n : ℕ) (words : List ℕ) (s : List ℕ) (start i : ℕ) (t : List ℕ)
    (at : ℕ) : Type 0 where
  pub done : i ≤ n
  pub kept : length t ≡ length s
  pub room : Room (places c z (m - i) (n - i)) (entries_from f k (m - i) (drop (k * i) words)) t at
  pub rest : (u : List ℕ) (end : ℕ) → Puts (places c z (m - i) (n - i)) (entries_from f k (m - i) (drop (k * i) words)) t u at end
      → Puts (places c z m n) (entries_from f k m words) s u start end

module _ {A : Type 0} {c z : Codec A} {f : List ℕ → A} {k m n : ℕ} {words : List ℕ} {s : List ℕ} {start : ℕ} where
  pub putting-start : Room (places c z m n) (entries_from f k m words) s start → Putting c z f k m n words s start 0 s start
  putting-start h =
      let none : k * 0 ≡ 0 = omega arith in
      record {
        done = omega arith;
        kept = refl;
        room = rw (none, sub-zero m, sub-zero n) h;
        rest = λ u end p. rw (none, sub-zero m, sub-zero n) at p;
      }

  module _ {i : ℕ} {t : List ℕ} {at : ℕ} (h : Putting c z f k m n words s start i t at) where
    next : k * i + k ≡ k * (i + 1)
    next = omega arith

    module _ (inside : i < n) (few : n ≤ m) where
      here : Room (cons c (places c z (m - (i + 1)) (n - (i + 1))))
          (f (drop (k * i) words) ∷ entries_from f k (m - (i + 1)) (drop (k * i + k) words)) t at
      here = rw (places-next c z m n i (omega arith) inside, entries_next f k m i words (k * i) (omega arith)) at h.room

      pub putting-room : Room c (f (drop (k * i) words)) t at
      putting-room = entry_first _ here

      pub putting-next : {u : List ℕ} {end : ℕ} → length u ≡ length t → Puts c (f (drop (k * i) words)) t u at end
          → Putting c z f k m n words s start (i + 1) u end
      putting-next {u} {end} e p = record {
        done = omega arith;
        kept = e ∙ h.kept;
        room = subst (λ (q : ℕ). Room (places c z (m - (i + 1)) (n - (i + 1))) (entries_from f k (m - (i + 1)) (drop q words)) u end) next
            (entry_next _ here p);
        rest = λ v last q. h.rest v last
            (rw (places-next c z m n i (omega arith) inside, entries_next f k m i words (k * i) (omega arith)) (entry-then _ here p
            (subst (λ (x : ℕ). Puts (places c z (m - (i + 1)) (n - (i + 1))) (entries_from f k (m - (i + 1)) (drop x words)) u v end last)
            (sym next) q)));
      }

    -- after the last that is used
    pub putting-done : Within 0 z → n ≤ i → Puts (places c z m n) (entries_from f k m words) s t start at
    putting-done none le =
        let last : n - i ≡ 0 = omega arith in
        h.rest t at (rw last (put-none (size-unused c z none (m - i))))

-- what is so of every entry is so of the one at a place
pub each-entry : {A : Type 0} (P : A → Type 0) (f : List ℕ → A) (k m i : ℕ) (w : List ℕ) → Each P (entries_from f k m w) → i < m
    → P (f (drop (k * i) w))
unfolding entries_from
each-entry P f k zero i w e h = absurd (omega arith)
each-entry P f k (suc m) zero w e h = let z : 0 ≡ k * 0 = omega arith in subst (λ (n : ℕ). P (f (drop n w))) z e.0
each-entry P f k (suc m) (suc i) w e h =
    let z : k + k * i ≡ k * suc i = omega arith in
    subst (λ (n : ℕ). P (f (drop n w))) z
    (subst (λ (v : List ℕ). P (f v)) (drop-drop (k * i) k w) (each-entry P f k m i (drop k w) e.1 (omega arith)))

-- how many are used, by an equation
module _ {A : Type 0} (c z : Codec A) (m : ℕ) {n k : ℕ} {l : List A} {s : List ℕ} {at : ℕ} (e : n ≡ k) where
  pub room-used : Room (places c z m k) l s at → Room (places c z m n) l s at
  room-used h = subst (λ (x : ℕ). Room (places c z m x) l s at) (sym e) h

  pub put-used : {t : List ℕ} {end : ℕ} → Puts (places c z m n) l s t at end → Puts (places c z m k) l s t at end
  put-used {t} {end} h = subst (λ (x : ℕ). Puts (places c z m x) l s t at end) e h
