-- A list, whose range type was tested. Assumes nothing.
use mathlib.Core.Path.{refl}
use Rattle.grammar.specs.Grammar.{external, no_external, externals}
use Rattle.words.specs.RecordWords.{number_words, numbers_words}
use Rattle.reader.proofs.Parts.{ranged-reads, ranged-fill}
use Rattle.reader.proofs.numbers.NumbersPart.fill.Goals as goal

pub fill_list-requires : goal.fill_list-requires
unfolding externals
fill_list-requires c =
    record {
      few = c.requires.few;
      room = c.requires.room;
      reads = ranged-reads _ _ _ _ _ _ c.requires.reads external no_external (λ v m r. r);
    }

pub returns : goal.returns
unfolding externals numbers_words
returns c = ranged-fill _ _ _ _ _ _ c.requires.reads external no_external number_words (λ _. refl) (λ v m end l r e. e) c.fill_list.ensures
