-- The code, then the entries. Assumes nothing.
use mathlib.Core.Path.{sym, ap, ◌∙◌}
use lib.Seq.{drop-drop}
use Rattle.words.specs.Places.{list_places}
use Rattle.words.specs.RecordWords.{entries_from}
use Rattle.words.proofs.Filling.{first_word}
use Rattle.words.proofs.entries.list_from.Goals as goal

pub returns : goal.returns
returns g c =
    let a = c.args in
    let w = a.words.now in
    let e = c.each_from.ensures ∙ ap (entries_from g.E.Spelt.meant g.E.Spelt.WIDTH list_places) (sym (drop-drop 1 a.at w)) in
    λ i. (first_word w a.at i, e i)
