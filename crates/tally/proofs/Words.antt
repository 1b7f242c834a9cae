-- The words of a record from a place on, and some that the PDU does not carry. Assumes nothing.
use mathlib.Core.Path.{◌≡◌, sym, subst}
use mathlib.Core.List.{List}
use Prim.Native.Nat.{ℕ, ◌-◌, ◌≤◌}
use native.Mathlib.Omega.{arith}
use lib.ListN.{length, take, drop, length-drop}
use lib.Seq.{drop-drop, take_all}
use Rattle.codec.specs.Parts.{absent, seq}
use Rattle.grammar.specs.Grammar.{no_externals}
use Rattle.words.specs.RecordWords.{identity_from, numbers_from}
use Rattle.words.proofs.Filling.{first_word}
use Rattle.tally.specs.Inner.{Absent}
use Rattle.tally.proofs.Unused.{uncarried-word, uncarried-two-numbers}

-- the words from a place on, as a slice has them
pub rest-of : (w : List ℕ) (at : ℕ) → take (length w - at) (drop at w) ≡ drop at w
rest-of w at = take_all (length w - at) (drop at w) (omega (arith, length-drop at w))

-- the lists of numbers where identities are provided
pub numbers-unused : (w : List ℕ) → 477 ≤ length w
    → Absent (seq no_externals (λ x. no_externals)) (numbers_from (drop 75 w), numbers_from (drop 276 w)) (take 402 (drop 75 w))
numbers-unused w h =
    subst (λ (v : List ℕ). Absent (seq no_externals (λ x. no_externals)) (numbers_from (drop 75 w), numbers_from v) (take 402 (drop 75 w)))
    (drop-drop 201 75 w) (uncarried-two-numbers (drop 75 w) (omega (arith, length-drop 75 w)))

pub extension-unused : (w : List ℕ) → 3 ≤ length w → Absent absent (identity_from w).extension (take 1 (drop 2 w))
unfolding identity_from
extension-unused w h =
    subst (λ (x : ℕ). Absent absent x (take 1 (drop 2 w))) (sym (first_word w 2)) (uncarried-word (drop 2 w) (omega (arith, length-drop 2 w)))
