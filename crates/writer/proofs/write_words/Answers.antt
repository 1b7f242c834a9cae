-- The count first, then the answer; only where that is a length is anything stored. Assumes nothing.
use mathlib.Core.Path.{◌≡◌, refl, sym, ◌∙◌}
use borrow.Author.Tests.{eq-eqb, ne_eqb}
use lib.ListN.{length}
use Rattle.std.proofs.Common.{Ok, Err, rules}
use Rattle.words.specs.RecordWords.{record_from}
use Rattle.words.proofs.LegalRecords.{numbers-small}
use Rattle.writer.specs.Write.{length_of, write_refusal, written, write_is, out_is, write_words_is, write_words_out}
use Rattle.writer.proofs.Writes.{has_room, is-legal, refused-some, bits_none, bits-length}
use Rattle.writer.proofs.write_words.Goals.{In_ok-n}
use Rattle.writer.proofs.write_words.Goals as goal

pub returns-then-words-ne-RECORD_WORDS : goal.returns-then-words-ne-RECORD_WORDS
unfolding write_words_is write_words_out
returns-then-words-ne-RECORD_WORDS c = rw (ne_eqb (length c.args.words.now) 520 c.if-words-ne-RECORD_WORDS.true) (refl, refl)

pub returns-in_err-n : goal.returns-in_err-n
unfolding write_words_is write_words_out write_is out_is
returns-in_err-n c =
    let a = c.args in
    let r = record_from a.words.now in
    let refused : c.from_residual.result ≡ Err c.in_err-n.field-0.0 = search rules in
    let answer = sym c.in_err-n.was ∙ c.checked.ensures in
    rw (eq-eqb (length a.words.now) 520 c.if-words-ne-RECORD_WORDS.false)
    (refused ∙ answer, sym (rw (refused-some (length_of r) (write_refusal r (length a.out.now)) (sym answer))))

-- the answer is a length
told : (c : In_ok-n) → let a = c.args in let r = record_from a.words.now in
    written (length_of r) (write_refusal r (length a.out.now)) ≡ Ok c.in_ok-n.n
told c = sym c.checked.ensures ∙ c.in_ok-n.was

none : (c : In_ok-n) → let a = c.args in write_refusal (record_from a.words.now)
    (length a.out.now) ≡ 0
none c = bits_none _ _ (told c)

pub fill-requires : goal.fill-requires
fill-requires c =
    let a = c.args in
    let r = record_from a.words.now in
    let e = none (goal.at.fill-requires c).In_ok-n in (
      c.if-words-ne-RECORD_WORDS.false,
      numbers-small r (is-legal r (length a.out.now) e),
      has_room r (length a.out.now) e,
      bits-length (length_of r) (write_refusal r (length a.out.now)) (told (goal.at.fill-requires c).In_ok-n),
    )

pub returns : goal.returns
unfolding write_words_is write_words_out write_is out_is
returns c =
    rw (eq-eqb (length c.args.words.now) 520 c.if-words-ne-RECORD_WORDS.false)
    (sym (told (goal.at.returns c).In_ok-n), rw (none (goal.at.returns c).In_ok-n) c.fill.ensures)
