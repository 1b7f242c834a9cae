-- Words that were read are written again as the same bits, and words that are accepted are those of what was asked. Assumes nothing.
use mathlib.Core.Path.{◌≡◌, refl}
use mathlib.Core.List.{List}
use Prim.Native.Nat.{ℕ}
use native.Mathlib.Omega.{arith}
use borrow.Author.Tests.{eqb-true}
use lib.ListN.{length}
use lib.Dec.{eqb}
use Rattle.bits.proofs.Tests.{both, picked}
use Rattle.words.specs.Places.{record_width, request_width}
use Rattle.words.specs.RecordWords.{record_words, record_from}
use Rattle.words.specs.RequestWords.{are_request, request_words, request_from}
use Rattle.words.proofs.LegalWords.{legal_words, ranged_words}
use Rattle.boc.specs.Calls.{write_number, told_number, decide_answer}
use Rattle.boc.proofs.Again as again
use Rattle.promises.specs.Words.{Promise}
use Rattle.promises.specs.Demand1.Decision as decision
use Rattle.promises.proofs.Calls.OfWords.{given-record, asked}
use Rattle.promises.proofs.Demand1.Reading as reading
use Rattle.promises.proofs.Demand1.Writing as writing
use Rattle.promises.proofs.Demand1.Decision as deciding
use Rattle.promises.proofs.Requests.{tests}

-- ---- words that are accepted

written_words : (w out : List ℕ) → write_number w out ≡ 0 → record_words (record_from w) ≡ w
unfolding write_number
written_words w out e =
    let r = record_from w in
    let k = picked (eqb (length w) record_width) e (λ x. omega arith) in
    legal_words w (eqb-true (length w) record_width k.0) (writing.accepted r out 0 ((((writing.promise).table r out).exactly 0).0 k.1) refl).0

decided_words : (b w : List ℕ) → told_number (decide_answer b w) ≡ 0 → request_words (request_from w) ≡ w
decided_words b w e =
    let q = request_from w in
    let k = asked b w e in
    let are = both (eqb (length w) request_width) (are_request w) k.0 in
    let r = tests q (deciding.accepted q b (decision.answer b q) ((((deciding.promise).table b q).exactly (decision.answer b q)).0 refl) k.1).0 in
    ranged_words w (eqb-true (length w) request_width are.0) are.1 r.destination r.digits r.unused

pub promise : Promise
promise = record {
  written_again = λ s n words out old y e h.
      let k = given-record s n (length words) e in
      again.written_again s n words (eqb-true (length words) record_width k.0) ((reading.promise).success s n k.1).0 out old y h;
  written_words = written_words;
  decided_words = decided_words;
}
