-- By the count of words. Assumes nothing.
use mathlib.Core.Path.{refl}
use borrow.Author.Tests.{eqb-true, eqb-false}
use Rattle.tally.proofs.tally_words.Goals as goal

pub returns-then-words-ne-RECORD_WORDS : goal.returns-then-words-ne-RECORD_WORDS
returns-then-words-ne-RECORD_WORDS c = record { of-record = λ e. absurd (c.if-words-ne-RECORD_WORDS.true (eqb-true _ _ e)); of_others = λ e. refl }

pub returns : goal.returns
returns c = record { of-record = λ e. c.tally_record.ensures; of_others = λ e. absurd (eqb-false _ _ e c.if-words-ne-RECORD_WORDS.false) }
