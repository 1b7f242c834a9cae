-- As many words as a request has, which are one's, or none. Assumes nothing.
use borrow.Author.Tests.{eq-eqb, ne_eqb}
use Rattle.bits.proofs.Tests.{said-no, said-yes}
use Rattle.words.specs.RequestWords.{given_request}
use Rattle.words.proofs.request.request_from.Goals as goal

pub returns-then-words-ne-REQUEST_WORDS : goal.returns-then-words-ne-REQUEST_WORDS
unfolding given_request
returns-then-words-ne-REQUEST_WORDS c = rw (ne_eqb _ 34 c.if-words-ne-REQUEST_WORDS.true)

pub returns-then-not-are_request : goal.returns-then-not-are_request
unfolding given_request
returns-then-not-are_request c =
    rw (eq-eqb _ _ c.if-words-ne-REQUEST_WORDS.false, said-no c.are_request.ensures c.if-not-are_request.true)

pub returns : goal.returns
unfolding given_request
returns c =
    rw (
      eq-eqb _ _ c.if-words-ne-REQUEST_WORDS.false,
      said-yes c.are_request.ensures c.if-not-are_request.false,
      c.fields_from.ensures,
    )
