-- What each call returns, 0 or the refusal number, and what it leaves behind its pointers: a refusal leaves lengths, decisions and buffers as they
-- were and says where it stopped; a success leaves entry and place as they were.
use Rattle.std.specs.Prelude.{ℕ, List, [], ◌∷◌, length, eqb, Result, Ok, Err, Option, Some, None}
use Rattle.bits.specs.Bits.{pick, guard}
use Rattle.bits.specs.declared.BitCount.{BitCount}
use Rattle.walk.specs.declared.Refusal as pdu
use Rattle.reader.specs.Read.{refusal_of}
use Rattle.reader.specs.Words.{read_words_is}
use Rattle.writer.specs.Write.{written_number, write_is, out_is}
use Rattle.archive.specs.Refusals.{plain}
use Rattle.archive.specs.Keeping.{empty_is, capture_is}
use Rattle.archive.specs.Restoring.{entry_is, restore_is}
use Rattle.archive.specs.Listing.{list_is}
use Rattle.archive.specs.declared.contents.Key.{Key}
use Rattle.archive.specs.declared.refusal.Refusal.{Refusal}
use Rattle.archive.specs.declared.Restored.{Restored}
use Rattle.reload.specs.Reload.{reload_is, reload_out}
use Rattle.reload.specs.declared.Definition.{Definition}
use Rattle.reload.specs.declared.Target.TheVariants.{Define, DefineExternal}
use Rattle.words.specs.RecordWords.{are_record, record_from}
use Rattle.words.specs.RequestWords.{is_request, request_from}
use Rattle.barring.specs.Decide.{decide_is}
use Rattle.barring.specs.Decision.{verdict_of}
use Rattle.barring.specs.declared.Decision.{Decision}
use Rattle.archive.specs.declared.contents.Entry.{Entry}

-- ---- what is told of an answer

-- BOC_NOWHERE: no entry, or no place
abbrev pub nowhere : ℕ
nowhere = 18446744073709551615

abbrev pub place_word : Option ℕ → ℕ
place_word (Some p) = p
place_word None = nowhere

-- the refusal; a success tells 0, no entry and no place
abbrev pub told_refusal : {A : Type 0} → Result A Refusal → Refusal
told_refusal (Ok x) = plain 0
told_refusal (Err f) = f

-- what the call returns
abbrev pub told_number : {A : Type 0} → Result A Refusal → ℕ
told_number a = (told_refusal a).number

-- behind the pointers: a refusal's entry and place, a success's values
abbrev pub told_entry : {A : Type 0} → Result A Refusal → ℕ → ℕ
told_entry (Ok x) old = old
told_entry (Err f) old = place_word f.entry

abbrev pub told_place : {A : Type 0} → Result A Refusal → ℕ → ℕ
told_place (Ok x) old = old
told_place (Err f) old = place_word f.place

abbrev pub told_value : {A B : Type 0} → (A → B) → Result A Refusal → B → B
told_value value (Ok x) old = value x
told_value value (Err f) old = old

-- ---- boc_read

abbrev pub read_place_of : Result Unit pdu.Refusal → ℕ → ℕ
read_place_of (Ok tt) old = old
read_place_of (Err f) old = place_word f.place

abbrev pub read_number : List ℕ → ℕ → ℕ → ℕ
read_number s n words = (refusal_of (read_words_is s n words)).number

abbrev pub read_place : List ℕ → ℕ → ℕ → ℕ → ℕ
read_place s n words old = read_place_of (read_words_is s n words) old

-- ---- boc_write

abbrev pub written_length : Result BitCount ℕ → ℕ → ℕ
written_length (Ok n) old = n.0
written_length (Err k) old = old

-- a slice of words of another length than a record's gives 9, before anything else
unfoldable pub write_number : List ℕ → List ℕ → ℕ
write_number words out = pick (are_record (length words)) (written_number (write_is (record_from words) out)) 9

unfoldable pub write_out : List ℕ → List ℕ → List ℕ
write_out words out = pick (are_record (length words)) (out_is (record_from words) out) out

unfoldable pub write_bits : List ℕ → List ℕ → ℕ → ℕ
write_bits words out old = pick (are_record (length words)) (written_length (write_is (record_from words) out) old) old

-- ---- boc_empty, boc_capture and boc_contents

abbrev pub stored_length : Result ℕ Refusal → ℕ → ℕ
stored_length = told_value (λ n. n)

abbrev pub empty_number : ℕ → List ℕ → ℕ
empty_number home out = told_number (empty_is home (length out))

abbrev pub empty_length : ℕ → List ℕ → ℕ → ℕ
empty_length home out old = stored_length (empty_is home (length out)) old

-- what boc_capture answers
abbrev pub capture_answer : List ℕ → List ℕ → ℕ → ℕ → List ℕ → Result ℕ Refusal
capture_answer b s n day out = capture_is b s n day (length out)

-- ---- boc_entry

-- a key as words: network, SSI, part
abbrev pub key_words : Key → List ℕ
key_words k = k.network ∷ k.ssi ∷ k.part ∷ []

abbrev pub listed_key : Result Entry Refusal → List ℕ → List ℕ
listed_key = told_value (λ e. key_words e.key)

abbrev pub listed_length : Result Entry Refusal → ℕ → ℕ
listed_length = told_value (λ e. e.bits.0)

abbrev pub listed_day : Result Entry Refusal → ℕ → ℕ
listed_day = told_value (λ e. e.day)

-- 9 for another count of words than 3
unfoldable pub entry_answer : List ℕ → ℕ → ℕ → Result Entry Refusal
entry_answer b index words = guard (eqb words 3) (Err (plain 9)) (entry_is b index)

-- ---- boc_restore

abbrev pub restored_length : Result Restored Refusal → ℕ → ℕ
restored_length = told_value (λ r. r.bits.0)

abbrev pub restored_day : Result Restored Refusal → ℕ → ℕ
restored_day = told_value (λ r. r.day)

-- the user and part that the call names
abbrev pub key_of : ℕ → ℕ → ℕ → Key
key_of network ssi part = record { network = network; ssi = ssi; part = part }

abbrev pub restore_answer : List ℕ → ℕ → ℕ → ℕ → List ℕ → Result Restored Refusal
restore_answer b network ssi part out = restore_is b (key_of network ssi part) (length out)

-- ---- boc_reload and boc_reload_external

abbrev pub reloaded_length : Result BitCount Refusal → ℕ → ℕ
reloaded_length = told_value (λ n. n.0)

-- the definition that the call names
abbrev pub definition_of : ℕ → ℕ → ℕ → Definition
definition_of definition delivery acknowledgement = record { definition = definition; delivery = delivery; acknowledgement = acknowledgement }

abbrev pub reload_answer : List ℕ → ℕ → ℕ → ℕ → ℕ → ℕ → ℕ → List ℕ → Result BitCount Refusal
reload_answer b network ssi part definition delivery acknowledgement out =
    reload_is Define b (key_of network ssi part) (definition_of definition delivery acknowledgement) out

-- what boc_reload leaves in the buffer
abbrev pub reload_leaves : List ℕ → ℕ → ℕ → ℕ → ℕ → ℕ → ℕ → List ℕ → List ℕ
reload_leaves b network ssi part definition delivery acknowledgement out =
    reload_out Define b (key_of network ssi part) (definition_of definition delivery acknowledgement) out

-- what boc_reload_external answers of the number part, and leaves in the buffer
abbrev pub external_answer : List ℕ → ℕ → ℕ → ℕ → ℕ → ℕ → List ℕ → Result BitCount Refusal
external_answer b network ssi definition delivery acknowledgement out =
    reload_is DefineExternal b (key_of network ssi 2) (definition_of definition delivery acknowledgement) out

abbrev pub external_leaves : List ℕ → ℕ → ℕ → ℕ → ℕ → ℕ → List ℕ → List ℕ
external_leaves b network ssi definition delivery acknowledgement out =
    reload_out DefineExternal b (key_of network ssi 2) (definition_of definition delivery acknowledgement) out

-- ---- boc_decide

-- the decision's number; a refusal leaves the old one
abbrev pub decided_verdict : Result Decision Refusal → ℕ → ℕ
decided_verdict = told_value (λ d. verdict_of (Ok d))

-- 9 unless they are a request's words
unfoldable pub decide_answer : List ℕ → List ℕ → Result Decision Refusal
decide_answer b words = guard (is_request words) (Err (plain 9)) (decide_is b (request_from words))

-- ---- boc_contents

abbrev pub contents_answer : List ℕ → List ℕ → Result ℕ Refusal
contents_answer b out = list_is b (length out)
