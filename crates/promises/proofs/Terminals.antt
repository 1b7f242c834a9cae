-- Terminals keep their promise. Assumes nothing.
use mathlib.Core.Path.{sym, ◌∙◌}
use Rattle.std.proofs.lemmas.Option.{same_Some}
use Rattle.terminals.proofs.Grammar.{says-reads}
use Rattle.promises.specs.Terminals.{Promise}
use Rattle.promises.proofs.Terminals.Places.{every}
use Rattle.promises.proofs.Terminals.OnLine.{reset-kept, line_kept}
use Rattle.promises.proofs.Terminals.Layer.{whole-layer}
use Rattle.promises.proofs.Terminals.Text.{text-kept, nothing-kept, short-kept, put_back-kept}
pub mod Places
pub mod Values
pub mod OnLine
pub mod Layer
pub mod Text

pub promise : Promise
promise = record {
  one-reading = λ s l m x y. same_Some l m (sym (says-reads x) ∙ says-reads y);
  places = every;
  resets = reset-kept;
  lines = line_kept;
  whole-layer = λ s t ss profile l h p k. whole-layer profile l p k s t ss h;
  text = text-kept;
  nothing = nothing-kept;
  short = short-kept;
  put_back = λ t lent h. put_back-kept t h lent;
}
