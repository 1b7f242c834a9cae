-- The digits are 24 words. Assumes nothing.
use mathlib.Core.Path.{◌∙◌}
use native.Mathlib.Omega.{arith}
use lib.ListN.{drop, length-drop}
use Rattle.words.specs.Places.{digit_places}
use Rattle.words.proofs.Filling.{words-narrowed}
use Rattle.words.proofs.record.digits_from.Goals as goal

pub returns : goal.returns
returns c =
    let a = c.args in
    let w = a.words.now in
    c.each_from.ensures ∙ words-narrowed digit_places (drop a.at w) (omega (arith, length-drop a.at w, c.requires))
