-- Words put one part after the other, and entry by entry in a loop. Assumes nothing.
use mathlib.Core.Path.{◌≡◌, refl, sym, ap, ◌∙◌}
use mathlib.Core.List.{List, [], ◌∷◌, ◌++◌, append_assoc, append-nil}
use Prim.Native.Nat.{ℕ, ◌+◌, ◌*◌, ◌≤◌, ◌<◌}
use native.Mathlib.Nat.{mul-le-mul_left}
use native.Mathlib.Omega.{arith}
use native.Mathlib.Numerals.{add-one}
use lib.ListN.{length, get_or, take, drop, set, drop_of_length-le}
use lib.Seq.{take_all, take-suc, drop-drop}
use Rattle.bits.proofs.Laying as laying
use Rattle.words.specs.RecordWords.{in_turn}
use Rattle.words.specs.Inner.{Put}

-- one word
pub word-put : (out : List ℕ) (at x : ℕ) → at < length out → Put out at (x ∷ []) 1 (set out at x) (at + 1)
word-put out at x h = record { laid = laying.one out at x h; ends = refl }

-- words copied into a part, which has k places
pub part-put : (out s part : List ℕ) (at k n : ℕ) → part ≡ s → length s ≡ n → k ≡ n
    → Put out at s n (take at out ++ (part ++ drop k (drop at out))) (at + n)
part-put out s part at k n copied long room =
    let end : at + k ≡ at + length s = omega arith in
    record {
      laid = record {
        ends = omega arith;
        same = ap (λ (t : List ℕ). take at out ++ (t ++ drop k (drop at out))) copied
            ∙ ap (λ (t : List ℕ). take at out ++ (s ++ t)) (drop-drop k at out ∙ ap (λ (j : ℕ). drop j out) end);
      };
      ends = refl;
    }

-- one part after the other
pub then : {out out' out'' s t : List ℕ} {at m end j k : ℕ} → at ≤ length out → Put out at s j out' m → Put out' m t k out'' end
    → Put out at (s ++ t) (j + k) out'' end
then h x y = record { laid = laying.then h x.laid y.laid; ends = omega (arith, x.ends, y.ends) }

-- as many as there are
pub put_whole : {out s out' : List ℕ} {n end : ℕ} → length out ≡ n → Put out 0 s n out' end → out' ≡ s
put_whole {out} {s} l p =
    p.laid.same
    ∙ ap (λ (t : List ℕ). s ++ t) (drop_of_length-le out {i = 0 + length s} (omega (arith, p.ends, p.laid.ends)))
    ∙ append-nil s

-- ---- in turn

in_turn-join : {A : Type 0} (f : A → List ℕ) (xs : List A) (x : A) → in_turn f (xs ++ (x ∷ [])) ≡ in_turn f xs ++ f x
unfolding in_turn
in_turn-join f [] x = append-nil (f x)
in_turn-join f (y ∷ ys) x = ap (λ (s : List ℕ). f y ++ s) (in_turn-join f ys x) ∙ sym (append_assoc (f y) (in_turn f ys) (f x))

-- words put as they are
pub in_turn_words : (s : List ℕ) → in_turn (λ (x : ℕ). x ∷ []) s ≡ s
unfolding in_turn
in_turn_words [] = refl
in_turn_words (x ∷ s) = ap (λ (t : List ℕ). x ∷ t) (in_turn_words s)

-- i of so many entries, of n words each
pub record Turned {A : Type 0} (f : A → List ℕ) (xs : List A) (n count : ℕ) (out : List ℕ) (at i : ℕ) (out' : List ℕ) (next : ℕ) : Type 0 where
  pub within : i ≤ count
  pub put : Put out at (in_turn f (take i xs)) (n * i) out' next
  pub long : length out' ≡ length out

-- so many have room, so one more of fewer has
pub room_more : (at n i count room : ℕ) → i < count → at + n * count ≤ room → at + n * i + n ≤ room
room_more at n i count room h k = omega (arith, mul-le-mul_left n h)

module _ {A : Type 0} {f : A → List ℕ} {xs : List A} {n count : ℕ} {out : List ℕ} {at : ℕ} where
  pub turned_none : Turned f xs n count out at 0 out at
  unfolding in_turn
  turned_none = record { within = omega arith; put = record { laid = laying.none out at; ends = omega arith }; long = refl }

  pub turned_more : {i next end : ℕ} {out' out'' : List ℕ} (d : A) → length xs ≡ count → at ≤ length out → i < count
      → Turned f xs n count out at i out' next → Put out' next (f (get_or xs i d)) n out'' end → length out'' ≡ length out'
      → Turned f xs n count out at (i + 1) out'' end
  turned_more {i} d all h k t p l =
      let one_more : take i xs ++ (get_or xs i d ∷ []) ≡ take (i + 1) xs = rw add-one (sym (take-suc xs i d (omega arith))) in
      let e : in_turn f (take i xs) ++ f (get_or xs i d) ≡ in_turn f (take (i + 1) xs) =
      sym (in_turn-join f (take i xs) (get_or xs i d)) ∙ ap (in_turn f) one_more
      in
      let z : n * i + n ≡ n * (i + 1) = omega arith in
      let q = then h t.put p in
      record { within = omega arith; put = rw (← e, ← z) q; long = l ∙ t.long }

  pub turned-all : {i next : ℕ} {out' : List ℕ} → length xs ≡ count → count ≤ i → Turned f xs n count out at i out' next
      → Put out at (in_turn f xs) (n * count) out' next
  turned-all {i} all h t =
      let e : i ≡ count = omega (arith, t.within) in
      let w : take i xs ≡ xs = take_all i xs (omega arith) in
      let p = t.put in
      rw (← e, ← w) p
