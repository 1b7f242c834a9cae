-- The codec's number. Assumes nothing.
use mathlib.Core.Path.{◌∙◌, ap}
use Rattle.codec.specs.Reading.{said, resume}
use Rattle.codec.proofs.Onward.{number-at}
use Rattle.walk.proofs.exact.Pdu.number.Goals as goal

pub returns : goal.returns
unfolding resume
returns c = c.number.ensures ∙ ap said (number-at _ _ _ _ c.requires.0 c.requires.1)
