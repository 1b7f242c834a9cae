-- Each figure is the word at its place. Assumes nothing.
use Rattle.words.specs.RecordWords.{figures_from}
use mathlib.Core.Path.{refl}
use Rattle.words.proofs.record.nine_from.Goals as goal

pub returns : goal.returns
unfolding figures_from
returns c = refl
