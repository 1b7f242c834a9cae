-- The number with which a value that is to be written is refused, in the words of document 01: "3 and 4 in the same order as reading".
-- Nothing here writes: all that stands before the refused element or range is legal.
use Rattle.std.specs.Prelude.{◌≡◌, true, List, ◌∷◌, ℕ, suc, ◌^◌, ◌≤◌}
use Rattle.codec.specs.Codec.{Codec, Legal}
use Rattle.codec.specs.Parts.{number, seq, tested, shaped}
use Rattle.codec.specs.Places.{cons}

-- The part c, to be written for the value a, is refused with k.
pub data Faults : (A : Type 0) → Codec A → A → ℕ → Type 1 where
  -- 3: a value wider than its element
  wide : (w v : ℕ) → 2 ^ w ≤ v → Faults ℕ (number w) v 3
  -- 3, 4 (10 for a PDU type, which writing has refused with 3 before): the element or the range can be written, and its test refuses it
  refused : {A : Type 0} (c : Codec A) (test into : A → ℕ) (a : A) (k : ℕ) → Legal c a → test a ≡ suc k → Faults A (tested c test into) a (suc k)
  -- a part of it is refused
  untested : {A : Type 0} (c : Codec A) (test into : A → ℕ) (a : A) (k : ℕ) → Faults A c a k → Faults A (tested c test into) a k
  -- of two parts the first is refused; or it is legal, and the second is refused
  first : {A B : Type 0} (c : Codec A) (d : A → Codec B) (a : A) (b : B) (k : ℕ) → Faults A c a k → Faults (A × B) (seq c d) (a, b) k
  second : {A B : Type 0} (c : Codec A) (d : A → Codec B) (a : A) (b : B) (k : ℕ) → Legal c a → Faults B (d a) b k → Faults (A × B) (seq c d) (a, b) k
  -- the places of a list are refused as one part after another
  entries : {A : Type 0} (c : Codec A) (d : Codec (List A)) (a : A) (l : List A) (k : ℕ) → Faults (A × List A) (seq c (λ x. d)) (a, l) k
      → Faults (List A) (cons c d) (a ∷ l) k
  -- a record of parts is refused as they are
  shape : {A B : Type 0} (c : Codec A) (to : A → B) (from : B → A) (there : (a : A) → c.clean a ≡ true → c.fault a ≡ 0 → from (to a) ≡ a)
      (back : (b : B) → to (from b) ≡ b) (b : B) (k : ℕ) → Faults A c (from b) k → Faults B (shaped c to from there back) b k
