-- What is written of a legal value is read as that value, and whatever is read is the writing of a legal value. Assumes nothing.
use mathlib.Core.Path.{◌≡◌, ap, ◌∙◌}
use mathlib.Core.Bool.{Bool}
use mathlib.Core.List.{List, [], ◌∷◌, append-nil}
use Prim.Native.Nat.{ℕ}
use native.Mathlib.Nat.{zero-add}
use lib.ListN.{length}
use Rattle.bits.specs.Bits.{pick}
use Rattle.bits.proofs.Tests.{never}
use Rattle.codec.specs.Codec.{Outcome, ok, no, and_then, Faithful, Codec, Legal}
use Rattle.codec.specs.Places.{is_nil}
use Rattle.codec.specs.Whole.{whole_parse}

module _ {A : Type 0} (c : Codec A) where
  -- what is written of a legal value is read as that value
  pub whole-reads : (a : A) → Legal c a → whole_parse c (c.print a) ≡ ok a (length (c.print a)) []
  whole-reads a h =
      let e : c.parse 0 (c.print a) ≡ ok a (length (c.print a)) [] =
      simp (append-nil, zero-add) at (c.reads a h.clean h.faultless 0 []) in
      rw e

  whole-last : (s : List Bool) (a' : A) (at : ℕ) (r' : List Bool) → Faithful c.clean c.fault c.print 0 s (ok a' at r')
      → (a : A) (n : ℕ) (r : List Bool) → pick (is_nil r') (ok a' at r') (no 5 at) ≡ ok a n r → Legal c a × (s ≡ c.print a)
  whole-last s a' at [] h a n r e =
      let q : a' ≡ a = cc in
      let l : Legal c a' = record { clean = h.0; faultless = h.1 } in
      (rw q at l, h.2 ∙ append-nil _ ∙ ap c.print q)
  whole-last s a' at (b ∷ r') h a n r e = never cc

  whole-first : (s : List Bool) (o : Outcome A) → Faithful c.clean c.fault c.print 0 s o
      → (a : A) (n : ℕ) (r : List Bool) → and_then o (λ a at r. pick (is_nil r) (ok a at r) (no 5 at)) ≡ ok a n r → Legal c a × (s ≡ c.print a)
  whole-first s (ok a' at r') h a n r e = whole-last s a' at r' h a n r e
  whole-first s (no k p) h a n r e = never cc

  -- whatever is read is legal, and it was written so
  pub whole-sound : (s : List Bool) (a : A) (n : ℕ) (r : List Bool) → whole_parse c s ≡ ok a n r → Legal c a × (s ≡ c.print a)
  whole-sound s a n r e = whole-first s (c.parse 0 s) (c.sound 0 s) a n r e
