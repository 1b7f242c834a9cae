-- The length, then the digits. Assumes nothing.
use mathlib.Core.Path.{sym, ap, ◌∙◌}
use mathlib.Core.List.{List}
use Prim.Native.Nat.{ℕ}
use lib.ListN.{take}
use lib.Seq.{drop-drop}
use Rattle.words.specs.Places.{digit_places}
use Rattle.words.specs.RecordWords.{narrow, narrowed, number_from}
use Rattle.words.proofs.Filling.{first_word}
use Rattle.words.proofs.record.NumberStored.read.Goals as goal

pub returns : goal.returns
unfolding number_from
returns c =
    let a = c.args in
    let w = a.words.now in
    let l = c.narrow_word.ensures ∙ ap narrow (first_word w a.at) in
    let d = c.digits_from.ensures ∙ ap (λ (s : List ℕ). narrowed (take digit_places s)) (sym (drop-drop 1 a.at w)) in
    λ i. record { length = record { 0 = l i }; digits = d i }
