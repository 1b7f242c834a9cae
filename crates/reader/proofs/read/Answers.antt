-- The answer of reading into words, and the record that those words give back. Assumes nothing.
use mathlib.Core.Path.{◌≡◌, sym, ap, ◌∙◌}
use Rattle.std.proofs.Common.{Ok, Err, Some, rules}
use Rattle.words.specs.RecordWords.{given_record}
use Rattle.reader.specs.Words.{read_words_is}
use Rattle.reader.specs.Read.{found_in, read_is}
use Rattle.reader.proofs.Walked.{with-found, only_refused, found_back}
use Rattle.reader.proofs.read.Goals.{In_ok-read_words, After-record_from}
use Rattle.reader.proofs.read.Goals as goal

pub returns-in_err-read_words : goal.returns-in_err-read_words
unfolding read_words_is
returns-in_err-read_words c =
    let a = c.args in
    let r : c.from_residual.result ≡ Err c.in_err-read_words.field-0.0 = search rules in
    r ∙ sym (only_refused (read_is a.s.now a.n.0) (sym c.read_words.ensures.value ∙ c.in_err-read_words.was))

-- the record of an accepted PDU
accepted : (c : In_ok-read_words) → let a = c.args in read_is a.s.now a.n.0 ≡ Ok (found_in (read_is a.s.now a.n.0))
unfolding read_words_is
accepted c =
    let a = c.args in
    with-found (read_is a.s.now a.n.0) (sym c.read_words.ensures.value ∙ c.in_ok-read_words.was)

-- is what the words give
given : (c : After-record_from) → let a = c.args in c.record_from.result ≡ Some (found_in (read_is a.s.now a.n.0))
given c = let a = c.args in c.record_from.ensures ∙ ap given_record c.read_words.ensures.words_after ∙ found_back a.s.now a.n.0

pub unwrap-requires : goal.unwrap-requires
unwrap-requires c = rw (given c)

pub returns : goal.returns
returns c =
    let a = c.args in
    let same : Some c.unwrap.result ≡ Some (found_in (read_is a.s.now a.n.0)) = sym c.unwrap.ensures ∙ given (goal.at.returns c).After-record_from in
    let found : c.unwrap.result ≡ found_in (read_is a.s.now a.n.0) = cc same in
    ap Ok found ∙ sym (accepted (goal.at.returns c).In_ok-read_words)
