-- What C lends as words is the record, or the request, and back.
use Rattle.std.specs.Prelude.{◌≡◌, true, List, ◌++◌, ℕ, ◌≤◌, ◌<◌, length, take, drop}
use Rattle.bits.specs.Bits.{Bytes}
use Rattle.grammar.specs.declared.record.Record.{Record}
use Rattle.rules.specs.declared.request.Request.{Request}
use Rattle.words.specs.Places.{digit_places, entries_width, record_width, number_entries_at, excepted_entries_at, length_at, digits_at, request_width}
use Rattle.words.specs.RecordWords.{word, record_words, record_from}
use Rattle.words.specs.RequestWords.{are_request, request_words, request_from}
use Rattle.words.specs.Sized.{SizedRecord, SizedRequest}
use Rattle.words.proofs.RecordInverse as records
use Rattle.words.proofs.RequestInverse as requests
use Rattle.boc.specs.Calls.{read_number, write_number, write_out, write_bits, told_number, decide_answer}
use Rattle.reader.specs.Words.{read_words}

-- ---- records

-- A record has its number of words, and they are read as that record.
pub record-words : (r : Record) → SizedRecord r → (length (record_words r) ≡ record_width) × (record_from (record_words r) ≡ r)
record-words r f = (records.record-long r f, records.record-back r f)

-- As many words are the words of one record, if the lengths and digits among them are bytes.
pub words-record : (w : List ℕ) → length w ≡ record_width → Bytes (take entries_width (drop number_entries_at w))
    → Bytes (take entries_width (drop excepted_entries_at w)) → record_words (record_from w) ≡ w
words-record = records.record-forth

-- ---- requests

-- A request has its number of words; they pass as a request's, and are read as that request.
pub request-words : (q : Request) → SizedRequest q
    → (length (request_words q) ≡ request_width) × (are_request (request_words q) ≡ true) × (request_from (request_words q) ≡ q)
request-words q f = (requests.request-long q f, requests.request_are q f, requests.request-back q f)

-- As many words that pass are the words of one request, if its length and digits are bytes.
pub words_request : (w : List ℕ) → length w ≡ request_width → are_request w ≡ true → word w length_at < 256
    → Bytes (take digit_places (drop digits_at w)) → request_words (request_from w) ≡ w
words_request = requests.request-forth

-- ---- the calls

-- Proved in proofs/Words.antt.
pub record Promise : Type 0 where
  -- What boc_read left in the words, boc_write writes as the same bits, in the same bytes, and leaves the bytes after them.
  pub written_again : (s : List ℕ) (n : ℕ) (words out : List ℕ) (old : ℕ) → Bytes s → read_number s n (length words) ≡ 0 → length s ≤ length out
      → let w = read_words s n words in (write_number w out ≡ 0) × (write_out w out ≡ s ++ drop (length s) out) × (write_bits w out old ≡ n)
  -- Words that boc_write accepts are exactly the words of the record that it writes,
  pub written_words : (w out : List ℕ) → write_number w out ≡ 0 → record_words (record_from w) ≡ w
  -- and those on which boc_decide decides are exactly the words of its request: no length or digit among them is wider than a byte.
  pub decided_words : (b w : List ℕ) → told_number (decide_answer b w) ≡ 0 → request_words (request_from w) ≡ w
