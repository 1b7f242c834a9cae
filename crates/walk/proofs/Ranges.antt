-- The two ends of a range: one after the other, and their rule at the place of the second. Assumes nothing.
use mathlib.Core.Path.{◌≡◌, refl, ◌∙◌}
use mathlib.Core.Bool.{Bool}
use mathlib.Core.List.{List, ◌∷◌}
use Prim.Native.Nat.{ℕ, suc, ◌+◌}
use lib.ListN.{length, replicate}
use Rattle.codec.specs.Codec.{Codec}
use Rattle.codec.specs.Places.{places}
use Rattle.codec.specs.Reading.{Found, got, refused, and_next, unless_at, read_at}
use Rattle.codec.proofs.Reading.{and_next_assoc, read_at-cons, read_at-tested, read_at-legal}
use Rattle.codec.proofs.Filling.{places-rest}
use Rattle.grammar.specs.Grammar.{identity, no_identity, zero_identity, ends_refusal, range_ends, second_end}
use Rattle.grammar.specs.declared.record.Identity.{Identity}
use Rattle.grammar.proofs.Steps.{no_identity-at}
use Rattle.walk.specs.Inner.{range}

pub places-first : {A : Type 0} (c z : Codec A) (l : List Bool) (m n at : ℕ)
    → read_at (places c z (suc m) (suc n)) l at ≡ and_next (read_at c l at) (λ a p. and_next (read_at (places c z m n) l p) (λ t q. got (a ∷ t) q))
unfolding places
places-first c z l m n at = read_at-cons c (places c z m n) l at

module _ (l : List Bool) where
  last-at : (p : ℕ) → read_at (places identity no_identity 7 1) l p ≡ and_next (read_at identity l p) (λ b q. got (b ∷ replicate 6 zero_identity) q)
  last-at p = places-first identity no_identity l 6 0 p ∙ simp (places-rest identity no_identity l zero_identity (no_identity-at l) 6)

  range_at : (at : ℕ) → read_at range l at ≡ and_next (read_at identity l at) (λ a p. and_next (read_at identity l p) (λ b q.
      unless_at (ends_refusal a b) (at + length (identity.print a)) (got (a ∷ b ∷ replicate 6 zero_identity) q)))
  unfolding range range_ends
  range_at at =
      let pair : read_at (places identity no_identity 8 2) l at ≡ and_next (read_at identity l at) (λ a p. and_next (read_at identity l p) (λ b q.
      got (a ∷ b ∷ replicate 6 zero_identity) q)) = places-first identity no_identity l 7 1 at ∙ simp (last-at, and_next_assoc) in
      read_at-tested (places identity no_identity 8 2) (range_ends 9) second_end l at ∙ simp (pair, and_next_assoc)

  -- the rule of the ends refuses at the second
  pub range-by-place : (at : ℕ) → read_at range l at ≡ and_next (read_at identity l at) (λ a p. and_next (read_at identity l p) (λ b q.
      unless_at (ends_refusal a b) p (got (a ∷ b ∷ replicate 6 zero_identity) q)))
  range-by-place at = range_at at ∙ go (read_at identity l at) refl
    where
      go : (o : Found Identity) → read_at identity l at ≡ o → and_next o (λ a p. and_next (read_at identity l p) (λ b q.
          unless_at (ends_refusal a b) (at + length (identity.print a)) (got (a ∷ b ∷ replicate 6 zero_identity) q)))
          ≡ and_next o (λ a p. and_next (read_at identity l p) (λ b q. unless_at (ends_refusal a b) p (got (a ∷ b ∷ replicate 6 zero_identity) q)))
      go (got a p) e = rw (← (read_at-legal identity l at a p e).1)
      go (refused n p) e = refl
