-- Word by word. Assumes nothing.
use mathlib.Core.Path.{◌≡◌, refl, ◌∙◌, ap, sym}
use mathlib.Core.Bool.{Bool, ◌&&◌, and-true, and-false}
use mathlib.Core.List.{[], ◌∷◌, ◌++◌}
use Prim.Native.Nat.{ℕ, ◌+◌}
use native.Mathlib.Numerals.{add-one}
use borrow.Author.Tests.{le-leb, lt-leb}
use lib.ListN.{take, get_or}
use lib.Seq.{take-suc}
use lib.Dec.{leb}
use Rattle.bits.specs.Lists.{every}
use Rattle.tally.specs.Inner.{none_above}
use Rattle.tally.proofs.Unused.{none_append}
use Rattle.tally.proofs.elements.none_above.Goals.{Joined-most-word, then-most-word, else-most-word}
use Rattle.tally.proofs.elements.none_above.Goals as goal

-- by either arm, the word is tested
tested : (c : Joined-most-word) → let a = c.args in
    c.if-most-word.none ≡ c.loop-word.none && leb (get_or a.words.now c.loop-word.word-index 0) a.most
tested c =
    let a = c.args in
    let d : ℕ = get_or a.words.now c.loop-word.word-index 0 in
    elim c.if-most-word.branch [
      | then-most-word w ↦
          w.none-is ∙ sym (ap (λ (b : Bool). c.loop-word.none && b) (lt-leb d a.most w.if-most-word.true) ∙ and-false c.loop-word.none)
      | else-most-word w ↦
          w.none-is ∙ sym (ap (λ (b : Bool). c.loop-word.none && b) (le-leb d a.most w.if-most-word.false) ∙ and-true c.loop-word.none)
    ]

pub loop-word-init : goal.loop-word-init
unfolding none_above every
loop-word-init c = refl

pub loop-word-preserved : goal.loop-word-preserved
unfolding none_above every
loop-word-preserved c =
    let a = c.args in
    let i : ℕ = c.loop-word.word-index in
    let d : ℕ = get_or a.words.now i 0 in
    let last : take (i + 1) a.words.now ≡ take i a.words.now ++ (d ∷ []) =
    ap (λ (n : ℕ). take n a.words.now) (add-one i) ∙ take-suc a.words.now i 0 c.loop-word-test.true
    in
    tested c ∙ ap (λ (b : Bool). b && leb d a.most) c.loop-word.invariant
    ∙ ap (λ (b : Bool). none_above a.most (take i a.words.now) && b) (sym (and-true (leb d a.most)))
    ∙ sym (ap (none_above a.most) last ∙ none_append a.most (take i a.words.now) (d ∷ []))
