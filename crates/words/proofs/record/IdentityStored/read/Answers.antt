-- The three words from the place on. Assumes nothing.
use mathlib.Core.Path.{sym}
use lib.Seq.{get_or-drop}
use Rattle.words.specs.RecordWords.{identity_from}
use Rattle.words.proofs.Filling.{first_word}
use Rattle.words.proofs.record.IdentityStored.read.Goals as goal

pub returns : goal.returns
unfolding identity_from
returns c =
    let a = c.args in
    let w = a.words.now in
    λ i. record { ssi = first_word w a.at i; present = sym (get_or-drop a.at w 1 0) i; extension = sym (get_or-drop a.at w 2 0) i }
