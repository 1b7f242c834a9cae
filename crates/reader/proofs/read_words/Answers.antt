-- 520 words or 9; then the walk's refusal, or the words of the record that it accepts. Assumes nothing.
use mathlib.Core.Path.{◌≡◌, sym, ap, ◌∙◌}
use mathlib.Core.Bool.{true, false}
use borrow.Author.Tests.{eq-eqb, ne_eqb}
use lib.ListN.{length}
use Rattle.std.proofs.Common.{Err, rules}
use Rattle.words.specs.RecordWords.{are_record}
use Rattle.reader.specs.Words.{read_words_is, read_words}
use Rattle.reader.proofs.Parts.{fills-is}
use Rattle.reader.specs.Read.{answer_of}
use Rattle.reader.proofs.Walked.{same_answer, Accepts, accepts}
use Rattle.reader.proofs.read_words.Goals.{Else-words-ne-RECORD_WORDS, In_ok-walk}
use Rattle.reader.proofs.read_words.Goals as goal

pub returns-then-words-ne-RECORD_WORDS : goal.returns-then-words-ne-RECORD_WORDS
unfolding read_words_is read_words
returns-then-words-ne-RECORD_WORDS c =
    let e : are_record (length c.args.words.now) ≡ false = ne_eqb _ _ c.if-words-ne-RECORD_WORDS.true in record {
      value = rw e;
      words_after = rw e;
    }

-- there are 520 words
whole : (c : Else-words-ne-RECORD_WORDS) → are_record (length c.args.words.now) ≡ true
whole c = eq-eqb _ _ c.if-words-ne-RECORD_WORDS.false

-- the walk accepts
accepted : (c : In_ok-walk) → let a = c.args in Accepts a.s.now a.n.0
accepted c = accepts _ _ (sym c.walk.ensures ∙ c.in_ok-walk.was)

pub fill_record-requires : goal.fill_record-requires
fill_record-requires c =
    let a = accepted (goal.at.fill_record-requires c).In_ok-walk in
    record {
      few = a.few;
      room = c.if-words-ne-RECORD_WORDS.false;
      reads = record { value = a.found; end = a.end; read = a.read };
    }

pub returns : goal.returns
unfolding read_words_is read_words
returns c =
    let a = accepted (goal.at.returns c).In_ok-walk in
    let left = fills-is c.fill_record.ensures a.read in record {
      value = rw (whole (goal.at.returns c).Else-words-ne-RECORD_WORDS, a.same);
      words_after = rw (whole (goal.at.returns c).Else-words-ne-RECORD_WORDS, a.same) left;
    }

pub returns-in_err-walk : goal.returns-in_err-walk
unfolding read_words_is read_words
returns-in_err-walk c =
    let a = c.args in
    let r : c.from_residual.result ≡ Err c.in_err-walk.field-0.0 = search rules in
    let q = same_answer a.s.now a.n.0 ∙ ap answer_of (sym c.walk.ensures ∙ c.in_err-walk.was) in record {
      value = r ∙ rw (whole (goal.at.returns-in_err-walk c).Else-words-ne-RECORD_WORDS, q);
      words_after = rw (whole (goal.at.returns-in_err-walk c).Else-words-ne-RECORD_WORDS, q);
    }
