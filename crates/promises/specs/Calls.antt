-- Demand 1 as C meets it, about the eleven calls of include/boc.h: each returns 0 or a number of its list, exactly then. If it is not 0, the
-- lent memory and the length, day or decision behind its pointer are what they were, and the pointers to entry and place hold those of the refusal,
-- or BOC_NOWHERE; if it is 0, its pointer holds exactly the length, the day or the decision, and entry and place are what they were.
use Rattle.std.specs.Prelude.{◌≡◌, List, [], ◌∷◌, ◌++◌, ℕ, length, drop, None}
use Rattle.bits.specs.Frame.{bytes_for, bits_in, pack}
use Rattle.codec.specs.Codec.{Legal}
use Rattle.grammar.specs.Grammar.{pdu}
use Rattle.reader.specs.Read.{refusal_of, found_in, read_is}
use Rattle.reader.specs.Words.{read_words_is, read_words}
use Rattle.writer.specs.Write.{length_of}
use Rattle.archive.specs.Model.{Held, bytes_of}
use Rattle.archive.specs.Refusals.{plain}
use Rattle.archive.specs.Keeping.{over, captured, empty_out, capture_out}
use Rattle.archive.specs.Restoring.{restore_out}
use Rattle.archive.specs.Listing.{list_out}
use Rattle.archive.specs.Listing as lists
use Rattle.archive.specs.declared.contents.Key.{Key}
use Rattle.reload.specs.Define.{define_of}
use Rattle.reload.specs.Reload.{record_of, reload_is, reload_out}
use Rattle.reload.specs.declared.Definition.{Definition}
use Rattle.reload.specs.declared.Target.{Target}
use Rattle.reload.specs.declared.Target.TheVariants.{Define, DefineExternal}
use Rattle.words.specs.RecordWords.{word, record_words, record_from}
use Rattle.words.specs.RequestWords.{request_from}
use Rattle.barring.specs.Decide.{part_in, decide_is}
use Rattle.boc.specs.Calls.{told_refusal, place_word, read_number, read_place, write_number, write_out, write_bits, empty_number, empty_length}
use Rattle.boc.specs.Calls.{told_number, stored_length, told_entry, told_place, capture_answer, contents_answer}
use Rattle.boc.specs.Calls.{listed_key, listed_length, listed_day, entry_answer}
use Rattle.boc.specs.Calls.{restored_length, restored_day, key_of, restore_answer}
use Rattle.boc.specs.Calls.{reloaded_length, definition_of}
use Rattle.boc.specs.Calls.{decided_verdict, decide_answer}
use Rattle.promises.specs.Answers.{Exactly}
use Rattle.promises.specs.Archive.{IsArchive, HeldFor, StandsAt}
use Rattle.promises.specs.Broken.{number_of}
use Rattle.promises.specs.Demand1.Reading as reading
use Rattle.promises.specs.Demand1.Writing as writing
use Rattle.promises.specs.Demand1.Empty as empty
use Rattle.promises.specs.Demand1.Capture as capture
use Rattle.promises.specs.Demand1.Entry as entries
use Rattle.promises.specs.Demand1.Restore as restore
use Rattle.promises.specs.Demand1.Reload as reload
use Rattle.promises.specs.Demand1.Decision as decision
use Rattle.promises.specs.Demand1.Listing as listing

-- ---- words

-- 9 for words that are not what they should be, before everything; then the rows of a table
pub data Checked {ℓ} {A : Type 0} (nine : A) (Right : Type 0) (Given : A → Type ℓ) : A → Type ℓ where
  wrong : (Right → ⊥) → Checked nine Right Given nine
  right : (a : A) → Right → Given a → Checked nine Right Given a

-- 520 words are a record
abbrev pub OfRecord : List ℕ → Type 0
OfRecord w = length w ≡ 520

-- 34 words are a request if the kind of destination (3) is 1, and the length (6) is 0, or it is 2, and network (4) and SSI (5) are 0;
pub data OfDestination (w : List ℕ) : Type 0 where
  identity : word w 3 ≡ 1 → word w 6 ≡ 0 → OfDestination w
  number : word w 3 ≡ 2 → word w 4 ≡ 0 → word w 5 ≡ 0 → OfDestination w

-- and if the group is given (31) by 1, or by 0, and its network (32) and SSI (33) are 0
pub data OfGroup (w : List ℕ) : Type 0 where
  given : word w 31 ≡ 1 → OfGroup w
  not-given : word w 31 ≡ 0 → word w 32 ≡ 0 → word w 33 ≡ 0 → OfGroup w

pub record OfRequest (w : List ℕ) : Type 0 where
  pub count : length w ≡ 34
  pub destination : OfDestination w
  pub group : OfGroup w

-- ---- the calls; proved in proofs/Calls.antt

-- boc_read: 0, 9 for another count of words than 520, and the numbers of reading
pub record Read (pdu' : List ℕ) (bits : ℕ) (words : List ℕ) (place : ℕ) : Type 1 where
  pub table : Exactly reading.number_of (refusal_of (read_words_is pdu' bits (length words))) (reading.numbers ++ (9 ∷ []))
      (Checked (reading.told 9 None) (OfRecord words) (reading.Given pdu' bits))
  -- the words are those of the legal record whose writing the PDU is
  pub success : read_number pdu' bits (length words) ≡ 0 → let r = found_in (read_is pdu' bits) in
      Legal pdu r × (bits_in bits pdu' ≡ pdu.print r) × (read_words pdu' bits words ≡ record_words r)
      × (read_place pdu' bits (length words) place ≡ place)
  pub refusal : (read_number pdu' bits (length words) ≡ 0 → ⊥)
      → (read_words pdu' bits words ≡ words)
      × (read_place pdu' bits (length words) place ≡ place_word (refusal_of (read_words_is pdu' bits (length words))).place)

-- boc_write: 0, 9 for another count of words than 520, and the numbers of writing
pub record Write (words out : List ℕ) (bits : ℕ) : Type 1 where
  pub table : Exactly (λ k. k) (write_number words out) (0 ∷ 3 ∷ 4 ∷ 8 ∷ 9 ∷ []) (Checked 9 (OfRecord words) (writing.Given (record_from words) out))
  pub success : write_number words out ≡ 0 → let r = record_from words in
      (write_out words out ≡ pack (pdu.print r) ++ drop (bytes_for (length_of r)) out) × (write_bits words out bits ≡ length_of r)
  pub refusal : (write_number words out ≡ 0 → ⊥) → (write_out words out ≡ out) × (write_bits words out bits ≡ bits)

-- boc_empty
pub record Empty (home : ℕ) (out : List ℕ) (old : ℕ) : Type 0 where
  pub table : Exactly (λ k. k) (empty_number home out) (0 ∷ 9 ∷ 8 ∷ []) (empty.Given home (length out))
  pub success : empty_number home out ≡ 0 → (empty_out home out ≡ over (empty.header home) out) × (empty_length home out old ≡ 5)
  pub refusal : (empty_number home out ≡ 0 → ⊥) → (empty_out home out ≡ out) × (empty_length home out old ≡ old)

-- boc_capture
pub record Capture (archive pdu' : List ℕ) (bits day : ℕ) (out : List ℕ) (old entry place : ℕ) : Type 0 where
  pub table : let answer = capture_answer archive pdu' bits day out in
      Exactly number_of (told_refusal answer) (reading.numbers ++ (9 ∷ 7 ∷ 6 ∷ 8 ∷ [])) (capture.Given archive pdu' bits day (length out))
  pub success : let answer = capture_answer archive pdu' bits day out in
      told_number answer ≡ 0 → let b = bytes_of (captured archive pdu' bits day) in
      (capture_out archive pdu' bits day out ≡ over b out) × (stored_length answer old ≡ length b)
      × (told_entry answer entry ≡ entry) × (told_place answer place ≡ place)
  pub refusal : let answer = capture_answer archive pdu' bits day out in
      (told_number answer ≡ 0 → ⊥) → let f = told_refusal answer in
      (capture_out archive pdu' bits day out ≡ out) × (stored_length answer old ≡ old)
      × (told_entry answer entry ≡ place_word f.entry) × (told_place answer place ≡ place_word f.place)

-- boc_entry: 0, 9 for another count of words than 3, 7, 11
pub record Entry (archive : List ℕ) (index : ℕ) (key : List ℕ) (old old_day entry place : ℕ) : Type 0 where
  pub table : let answer = entry_answer archive index (length key) in
      Exactly number_of (told_refusal answer) (0 ∷ 7 ∷ 11 ∷ 9 ∷ []) (Checked (plain 9) (length key ≡ 3) (entries.Given archive index))
  -- the entry that stands there: its key, its bits and its day
  pub success : let answer = entry_answer archive index (length key) in
      told_number answer ≡ 0
      → (k : IsArchive archive) × (h : Held) × StandsAt k.archive.held index h
      × (listed_key answer key ≡ h.entry.key.network ∷ h.entry.key.ssi ∷ h.entry.key.part ∷ [])
      × (listed_length answer old ≡ h.entry.bits.0) × (listed_day answer old_day ≡ h.entry.day)
      × (told_entry answer entry ≡ entry) × (told_place answer place ≡ place)
  pub refusal : let answer = entry_answer archive index (length key) in
      (told_number answer ≡ 0 → ⊥) → let f = told_refusal answer in
      (listed_key answer key ≡ key) × (listed_length answer old ≡ old) × (listed_day answer old_day ≡ old_day)
      × (told_entry answer entry ≡ place_word f.entry) × (told_place answer place ≡ place_word f.place)

-- boc_restore
pub record Restore (archive : List ℕ) (network ssi part : ℕ) (out : List ℕ) (old old_day entry place : ℕ) : Type 0 where
  pub table : let answer = restore_answer archive network ssi part out in
      Exactly number_of (told_refusal answer) (0 ∷ 9 ∷ 7 ∷ 11 ∷ 8 ∷ []) (restore.Given archive (key_of network ssi part) (length out))
  -- the PDU that is held for that user and part, its bits and its day
  pub success : let answer = restore_answer archive network ssi part out in
      told_number answer ≡ 0
      → (k : IsArchive archive) × (h : Held) × HeldFor k.archive.held (key_of network ssi part) h
      × (restore_out archive (key_of network ssi part) out ≡ over h.body out) × (restored_length answer old ≡ h.entry.bits.0)
      × (restored_day answer old_day ≡ h.entry.day)
      × (told_entry answer entry ≡ entry) × (told_place answer place ≡ place)
  pub refusal : let answer = restore_answer archive network ssi part out in
      (told_number answer ≡ 0 → ⊥) → let f = told_refusal answer in
      (restore_out archive (key_of network ssi part) out ≡ out) × (restored_length answer old ≡ old) × (restored_day answer old_day ≡ old_day)
      × (told_entry answer entry ≡ place_word f.entry) × (told_place answer place ≡ place_word f.place)

-- a part put back by a call: what it answers is reload_is, what it leaves reload_out
pub record Reloads (t : Target) (archive : List ℕ) (key : Key) (d : Definition) (out : List ℕ) (old entry place : ℕ) : Type 0 where
  pub table : Exactly number_of (told_refusal (reload_is t archive key d out)) (0 ∷ 9 ∷ 7 ∷ 11 ∷ 12 ∷ 8 ∷ []) (reload.Given t archive key d (length out))
  -- the PDU that puts back the one held for that user and part, and its bits
  pub success : let answer = reload_is t archive key d out in
      told_number answer ≡ 0 → (k : IsArchive archive) × (h : Held) × HeldFor k.archive.held key h
      × (reload_out t archive key d out ≡ over (pack (pdu.print (define_of t d (record_of h)))) out)
      × (reloaded_length answer old ≡ length_of (define_of t d (record_of h)))
      × (told_entry answer entry ≡ entry) × (told_place answer place ≡ place)
  pub refusal : let answer = reload_is t archive key d out in
      (told_number answer ≡ 0 → ⊥) → let f = told_refusal answer in
      (reload_out t archive key d out ≡ out) × (reloaded_length answer old ≡ old)
      × (told_entry answer entry ≡ place_word f.entry) × (told_place answer place ≡ place_word f.place)

-- boc_reload: a DEFINE of either part
abbrev pub Reload : List ℕ → ℕ → ℕ → ℕ → ℕ → ℕ → ℕ → List ℕ → ℕ → ℕ → ℕ → Type 0
Reload archive network ssi part definition delivery acknowledgement =
    Reloads Define archive (key_of network ssi part) (definition_of definition delivery acknowledgement)

-- boc_reload_external: a DEFINE EXTERNAL of the number part
abbrev pub ReloadExternal : List ℕ → ℕ → ℕ → ℕ → ℕ → ℕ → List ℕ → ℕ → ℕ → ℕ → Type 0
ReloadExternal archive network ssi definition delivery acknowledgement =
    Reloads DefineExternal archive (key_of network ssi 2) (definition_of definition delivery acknowledgement)

-- boc_decide and boc_decide_in_place, whose contracts are in the same words: 0, 9 for words that are no request's or a request out of its range, 7
pub record Decide (archive words : List ℕ) (old entry place : ℕ) : Type 0 where
  pub table : let answer = decide_answer archive words in
      Exactly number_of (told_refusal answer) (0 ∷ 9 ∷ 7 ∷ []) (Checked (plain 9) (OfRequest words) (decision.Given archive (request_from words)))
  -- 0 to 2 barred with that cause, 3 allowed, 4 not held
  pub success : let answer = decide_answer archive words in
      told_number answer ≡ 0 → decision.Verdict (decided_verdict answer old) (decide_is archive (request_from words))
      × (told_entry answer entry ≡ entry) × (told_place answer place ≡ place)
  -- a part that is not held gives 4 and nothing else
  pub not-held : let answer = decide_answer archive words in
      told_number answer ≡ 0 → part_in archive (request_from words) ≡ None → decided_verdict answer old ≡ 4
  pub refusal : let answer = decide_answer archive words in
      (told_number answer ≡ 0 → ⊥) → let f = told_refusal answer in
      (decided_verdict answer old ≡ old) × (told_entry answer entry ≡ place_word f.entry) × (told_place answer place ≡ place_word f.place)

-- boc_contents
pub record Contents (archive out : List ℕ) (old entry place : ℕ) : Type 0 where
  pub table : let answer = contents_answer archive out in
      Exactly number_of (told_refusal answer) (0 ∷ 7 ∷ 8 ∷ []) (listing.Given archive (length out))
  pub success : let answer = contents_answer archive out in
      told_number answer ≡ 0 → (k : IsArchive archive)
      × (list_out archive out ≡ over (lists.listing k.archive) out) × (stored_length answer old ≡ length (lists.listing k.archive))
      × (told_entry answer entry ≡ entry) × (told_place answer place ≡ place)
  pub refusal : let answer = contents_answer archive out in
      (told_number answer ≡ 0 → ⊥) → let f = told_refusal answer in
      (list_out archive out ≡ out) × (stored_length answer old ≡ old)
      × (told_entry answer entry ≡ place_word f.entry) × (told_place answer place ≡ place_word f.place)
