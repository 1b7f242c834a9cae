-- Reading a PDU into lent words: the answer, and what the words then are.
use Rattle.std.specs.Prelude.{List, ℕ, length, Result, Ok, Err, None}
use Rattle.bits.specs.Bits.{pick}
use Rattle.words.specs.RecordWords.{are_record, record_words}
use Rattle.walk.specs.declared.Refusal.{Refusal}
use Rattle.reader.specs.Read.{answer_of, found_in, read_is}

-- another number of words than a record's gives 9, at no place, before anything else
unfoldable pub read_words_is : List ℕ → ℕ → ℕ → Result Unit Refusal
read_words_is s n words = pick (are_record words) (answer_of (read_is s n)) (Err (record { number = 9; place = None }))

abbrev pub if_accepted : {A : Type 0} → Result Unit Refusal → A → A → A
if_accepted (Ok a) new old = new
if_accepted (Err f) new old = old

-- the words of an accepted PDU's record; a refusal leaves them as they were
unfoldable pub read_words : List ℕ → ℕ → List ℕ → List ℕ
read_words s n words = pick (are_record (length words)) (if_accepted (answer_of (read_is s n)) (record_words (found_in (read_is s n))) words) words
