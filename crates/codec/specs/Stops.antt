-- Where reading stops, in the words of document 01: "element by element, left to right, 2 before 3 (or 10); 4 after the second end".
-- Nothing here reads: all that stands before the place is the writing of legal values.
use Rattle.std.specs.Prelude.{◌≡◌, Bool, true, List, ◌++◌, ℕ, suc, ◌+◌, ◌<◌, length}
use Rattle.codec.specs.Codec.{Codec, Legal}
use Rattle.codec.specs.Parts.{number, seq, tested, shaped}
use Rattle.codec.specs.Places.{cons}

-- The part c, due at the first of the bits s, is refused with k, and p bits stand before the element at fault.
pub data Stops : (A : Type 0) → Codec A → List Bool → (k p : ℕ) → Type 1 where
  -- 2: the PDU ends inside an element of w bits, or just before it
  ends : (w : ℕ) (s : List Bool) → length s < w → Stops ℕ (number w) s 2 0
  -- 3, 10, 4: the element or the range is there, and its test refuses it; the second end's SSI stands behind the whole first end
  refused : {A : Type 0} (c : Codec A) (test into : A → ℕ) (a : A) (k : ℕ) (more : List Bool) → Legal c a → test a ≡ suc k
      → Stops A (tested c test into) (c.print a ++ more) (suc k) (into a)
  -- it is not there whole, or a part of it is refused
  untested : {A : Type 0} (c : Codec A) (test into : A → ℕ) (s : List Bool) (k p : ℕ) → Stops A c s k p → Stops A (tested c test into) s k p
  -- of two parts the first stops; or it is there, and the second stops
  first : {A B : Type 0} (c : Codec A) (d : A → Codec B) (s : List Bool) (k p : ℕ) → Stops A c s k p → Stops (A × B) (seq c d) s k p
  second : {A B : Type 0} (c : Codec A) (d : A → Codec B) (a : A) (s : List Bool) (k p : ℕ) → Legal c a → Stops B (d a) s k p
      → Stops (A × B) (seq c d) (c.print a ++ s) k (length (c.print a) + p)
  -- the places of a list stop as one part after another
  entries : {A : Type 0} (c : Codec A) (d : Codec (List A)) (s : List Bool) (k p : ℕ) → Stops (A × List A) (seq c (λ a. d)) s k p
      → Stops (List A) (cons c d) s k p
  -- a record of parts stops as they do
  shape : {A B : Type 0} (c : Codec A) (to : A → B) (from : B → A) (there : (a : A) → c.clean a ≡ true → c.fault a ≡ 0 → from (to a) ≡ a)
      (back : (b : B) → to (from b) ≡ b) (s : List Bool) (k p : ℕ) → Stops A c s k p → Stops B (shaped c to from there back) s k p
