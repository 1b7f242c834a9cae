-- A list, whose range type was tested, and the ends of a range. Assumes nothing.
use mathlib.Core.Path.{refl}
use Rattle.grammar.specs.Grammar.{identity, no_identity, identities}
use Rattle.words.specs.RecordWords.{identity_words, identities_words}
use Rattle.reader.proofs.Parts.{ranged-reads, ranged-fill, reads-tested, tested-read}
use Rattle.reader.proofs.identities.IdentitiesPart.fill.Goals as goal

pub fill_list-requires : goal.fill_list-requires
unfolding identities
fill_list-requires c =
    record {
      few = c.requires.few;
      room = c.requires.room;
      reads = ranged-reads _ _ _ _ _ _ c.requires.reads identity no_identity (λ v m r. reads-tested _ _ _ r);
    }

pub returns : goal.returns
unfolding identities identities_words
returns c =
    ranged-fill _ _ _ _ _ _ c.requires.reads identity no_identity identity_words (λ _. refl)
    (λ v m end l r e. tested-read _ _ _ r e) c.fill_list.ensures
