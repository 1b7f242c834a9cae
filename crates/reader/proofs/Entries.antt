-- A loop that stores the entries that a PDU carries, and the zeros after them. Assumes nothing.
use mathlib.Core.Path.{◌≡◌, refl, sym, ap, ap₂, ◌∙◌}
use mathlib.Core.Bool.{Bool}
use mathlib.Core.List.{List, [], ◌∷◌, ◌++◌, append_assoc, append-nil}
use Prim.Native.Nat.{ℕ, zero, suc, ◌+◌, ◌-◌, ◌*◌, ◌≤◌, ◌<◌}
use native.Mathlib.Nat.{sub-zero, mul-sub}
use native.Mathlib.Omega.{arith}
use lib.ListN.{length, take, drop, length-append, length-take, length-drop, replicate, replicate-append-replicate, drop_of_length-le}
use lib.Seq.{take_at}
use Rattle.codec.specs.Codec.{Codec}
use Rattle.codec.specs.Places.{places}
use Rattle.codec.specs.Reading.{Found, got, refused, and_next, read_at}
use Rattle.codec.proofs.Reading.{read_at-cons}
use Rattle.codec.proofs.Filling.{places-rest}
use Rattle.words.specs.RecordWords.{in_turn}
use Rattle.words.proofs.Putting.{room_more}
use Rattle.reader.specs.Inner.{Reads, Fills}
use Rattle.reader.proofs.Elements.{steps, first_reads}

in_turn_append : {A : Type 0} (f : A → List ℕ) (xs ys : List A) → in_turn f (xs ++ ys) ≡ in_turn f xs ++ in_turn f ys
unfolding in_turn
in_turn_append f [] ys = refl
in_turn_append f (x ∷ xs) ys = ap (λ (s : List ℕ). f x ++ s) (in_turn_append f xs ys) ∙ sym (append_assoc (f x) (in_turn f xs) (in_turn f ys))

-- unused entries are zeros
in_turn-none : {A : Type 0} (f : A → List ℕ) (w : ℕ) (none : A) → f none ≡ replicate w 0 → (k : ℕ)
    → in_turn f (replicate k none) ≡ replicate (w * k) 0
unfolding in_turn
in_turn-none f w none e zero = let z : 0 ≡ w * 0 = omega arith in ap (λ (n : ℕ). replicate n 0) z
in_turn-none f w none e (suc k) =
    let z : w + w * k ≡ w * suc k = omega arith in
    ap₂ (λ (x y : List ℕ). x ++ y) e (in_turn-none f w none e k) ∙ replicate-append-replicate w (w * k) 0 ∙ ap (λ (n : ℕ). replicate n 0) z

-- The loop's invariant: of n entries in m places, read from `start` on and stored with w words each, the first i are stored; the next stands at `at`.
pub record Entries {A : Type 0} (c z : Codec A) (f : A → List ℕ) (w m n : ℕ) (s : List Bool) (start i at : ℕ) (words : List ℕ) : Type 0 where
  pub within : i ≤ n
  pub fits : n ≤ m
  pub done : List A
  pub so_far : read_at (places c z m n) s start ≡ and_next (read_at (places c z (m - i) (n - i)) s at) (λ l end. got (done ++ l) end)
  pub more : Reads (places c z (m - i) (n - i)) s at
  pub same : take (w * i) words ≡ in_turn f done
  pub long : length words ≡ w * m

after_none : {A : Type 0} (o : Found (List A)) → o ≡ and_next o (λ l end. got l end)
after_none (got l at) = refl
after_none (refused n p) = refl

module _ {A : Type 0} {c z : Codec A} {f : A → List ℕ} {w m n : ℕ} {s : List Bool} {start : ℕ} where
  pub entries_none : {words : List ℕ} → n ≤ m → length words ≡ w * m → Reads (places c z m n) s start → Entries c z f w m n s start 0 start words
  unfolding in_turn
  entries_none {words} h long r = record {
    within = omega arith;
    fits = h;
    done = [];
    so_far = rw (sub-zero m, sub-zero n) (after_none (read_at (places c z m n) s start));
    more = rw (sub-zero m, sub-zero n) r;
    same = let z : w * 0 ≡ 0 = omega arith in ap (λ (k : ℕ). take k words) z;
    long = long;
  }

  module _ {i at : ℕ} {words : List ℕ} (h : Entries c z f w m n s start i at words) where
    -- an entry, then the others
    split : i < n → read_at (places c z (m - i) (n - i)) s at
        ≡ and_next (read_at c s at) (λ a at₁. and_next (read_at (places c z (m - (i + 1)) (n - (i + 1))) s at₁) (λ l at₂. got (a ∷ l) at₂))
    unfolding places
    split k =
        let em : m - i ≡ suc (m - (i + 1)) = omega (arith, h.fits) in
        let en : n - i ≡ suc (n - (i + 1)) = omega arith in
        ap₂ (λ (p q : ℕ). read_at (places c z p q) s at) em en ∙ read_at-cons c (places c z (m - (i + 1)) (n - (i + 1))) s at

    pub entries_next : i < n → Reads c s at
    entries_next k = first_reads (steps _ _ (sym (split k) ∙ h.more.read.same))

    -- there is room for the next, and for all that are left
    pub entries-room : i < n → w * i + w ≤ length words
    entries-room k = let r = room_more 0 w i m (length words) (omega (arith, h.fits)) (omega (arith, h.long)) in omega (arith, r)

    -- the words of the next
    pub entries-place : {from k : ℕ} → i < n → from ≡ w * i → k ≡ w → length (take k (drop from words)) ≡ w
    entries-place {from} {k} l e wide =
        length-take k (drop from words) ∙ omega (arith, length-drop from words, entries-room l)

    pub entries-more : {new : List ℕ} {from k end : ℕ} → i < n → from ≡ w * i → k ≡ w → length new ≡ w → Fills c f s at new end
        → Entries c z f w m n s start (i + 1) end (take from words ++ (new ++ drop k (drop from words)))
    unfolding in_turn
    entries-more {new} {from} {k} {end} l ef wide full p =
        let rest = read_at (places c z (m - (i + 1)) (n - (i + 1))) s end in
        let next-read : read_at (places c z (m - i) (n - i)) s at ≡ and_next rest (λ t e. got (p.value ∷ t) e) = split l ∙ rw p.read.same in
        let room = entries-room l in
        let front : List ℕ = take from words in
        let back : List ℕ = drop k (drop from words) in
        let size : length (front ++ new) ≡ w * (i + 1) = length-append front new ∙ omega (arith, length-take from words, full) in
        let next-same : in_turn f (h.done ++ (p.value ∷ [])) ≡ front ++ new =
        in_turn_append f h.done (p.value ∷ []) ∙ ap (λ (x : List ℕ). in_turn f h.done ++ x) (append-nil (f p.value))
        ∙ (λ j. (sym h.same ∙ ap (λ (x : ℕ). take x words) (sym ef)) j ++ sym p.same j) in
        record {
          within = omega arith;
          fits = h.fits;
          done = h.done ++ (p.value ∷ []);
          so_far = h.so_far ∙ rw next-read (after rest h.done p.value);
          more = first_reads (steps _ _ (sym next-read ∙ h.more.read.same));
          same =
              ap (take (w * (i + 1))) (sym (append_assoc front new back)) ∙ take_at (front ++ new) back (w * (i + 1)) size ∙ sym next-same;
          long =
              length-append front (new ++ back)
              ∙ ap (λ (x : ℕ). length front + x) (length-append new back)
              ∙ omega (arith, length-take from words, length-drop from words, length-drop k (drop from words), full, room, h.long);
        }
      where
        after : {A : Type 0} (o : Found (List A)) (xs : List A) (x : A)
            → and_next (and_next o (λ t e. got (x ∷ t) e)) (λ l e. got (xs ++ l) e) ≡ and_next o (λ l e. got ((xs ++ (x ∷ [])) ++ l) e)
        after (got l e) xs x = rw append_assoc
        after (refused k p) xs x = refl

    -- and the zeros after the last
    pub entries-all : {new : List ℕ} {none : A} {from k : ℕ} → n ≤ i → from ≡ w * n → k ≡ length words - from
        → ((at : ℕ) → read_at z s at ≡ got none at)
        → f none ≡ replicate w 0 → new ≡ replicate (length (take k (drop from words))) 0
        → Fills (places c z m n) (in_turn f) s start (take from words ++ (new ++ drop k (drop from words))) at
    entries-all {new} {none} {from} {k} last ef ek hz e zeros =
        let l : n - i ≡ 0 = omega arith in
        let all : i ≡ n = omega (arith, h.within) in
        let many : length (take k (drop from words)) ≡ w * (m - i) =
        length-take k (drop from words) ∙ omega (arith, length-drop from words, ap (λ (x : ℕ). w * x) all, mul-sub w m i, h.long) in
        let none-left : drop k (drop from words) ≡ [] = drop_of_length-le (drop from words) (omega (arith, length-drop from words)) in
        let front : take from words ≡ in_turn f h.done = ap (λ (x : ℕ). take x words) (ef ∙ ap (λ (x : ℕ). w * x) (sym all)) ∙ h.same in
        let back : new ≡ in_turn f (replicate (m - i) none) =
        zeros ∙ ap (λ (x : ℕ). replicate x 0) many ∙ sym (in_turn-none f w none e (m - i)) in
        record {
          value = h.done ++ replicate (m - i) none;
          read = record { same = h.so_far ∙ rw (l, places-rest c z s none hz (m - i) at) };
          same =
              (λ j. front j ++ (back j ++ none-left j))
              ∙ ap (λ (x : List ℕ). in_turn f h.done ++ x) (append-nil (in_turn f (replicate (m - i) none)))
              ∙ sym (in_turn_append f h.done (replicate (m - i) none));
        }
