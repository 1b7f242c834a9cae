-- Each number that a call for C can return is met, and the decisions of profile A, as antt computes them.
use Rattle.std.specs.Prelude.{◌≡◌, refl, List, [], ◌∷◌, ◌++◌, ℕ, take, drop, replicate, Result}
use Rattle.bits.specs.Bits.{bits}
use Rattle.bits.specs.Frame.{framed}
use Rattle.grammar.specs.Grammar.{grammar}
use Rattle.grammar.specs.ProfileRecords.{asking}
use Rattle.reader.specs.Read.{read_is}
use Rattle.reader.specs.Words.{read_words_is}
use Rattle.writer.specs.Write.{record_refusal, write_refusal, write_is}
use Rattle.rules.specs.Request.{requests}
use Rattle.rules.specs.Rule.{rules}
use Rattle.archive.specs.Model.{in_range}
use Rattle.archive.specs.Filing.{filing_of, body_agrees}
use Rattle.archive.specs.Restoring.{held_nth, entry_is, restore_is}
use Rattle.archive.specs.Listing.{two_items, first_line, lines, listing, list_is}
use Rattle.archive.specs.declared.refusal.Refusal.{Refusal}
use Rattle.text.specs.Decimal.{digits, decimal, item}
use Rattle.archive.specs.Examples.{calls, profile_a, bytes_a}
use Rattle.words.specs.RecordWords.{record_words, records}
use Rattle.words.specs.RequestWords as request
use Rattle.barring.specs.Decide.{part_for, decide_is}
use Rattle.boc.specs.Calls.{nowhere, read_number, read_place, write_number, write_bits, empty_number, empty_length}
use Rattle.boc.specs.Calls.{told_number, stored_length, told_entry, told_place, capture_answer, contents_answer}
use Rattle.reload.specs.Define.{is_definition, define_of, stands_in}
use Rattle.reload.specs.Reload.{reload_is}
use Rattle.boc.specs.Calls.{listed_key, listed_length, listed_day, entry_answer}
use Rattle.boc.specs.Calls.{restored_length, restored_day, restore_answer}
use Rattle.boc.specs.Calls.{reloaded_length, reload_answer, external_answer}
use Rattle.boc.specs.Calls.{decided_verdict, decide_answer}

-- the PDU of an INTERROGATE, one for the users 200 to 199, and so many zeros: 5 of them are an archive that holds nothing
abbrev asked : List ℕ
asked = 0x49 ∷ 0x62 ∷ 0x00 ∷ 0x00 ∷ 0x0a ∷ 0x40 ∷ []

abbrev reversed : List ℕ
reversed = 0x49 ∷ 0x72 ∷ 0x00 ∷ 0x01 ∷ 0x90 ∷ 0x00 ∷ 0x00 ∷ 0xc7 ∷ 0x00 ∷ []

abbrev lent : ℕ → List ℕ
lent n = replicate n 0

read-met : read_number asked 42 520 ∷ read_number [] 1 520 ∷ read_number [] 0 520 ∷ read_number (0x00 ∷ []) 6 520 ∷ read_number reversed 65 520
    ∷ read_number asked 43 520 ∷ read_number (0x48 ∷ 0x80 ∷ []) 11 520 ∷ read_number asked 42 519 ∷ [] ≡ 0 ∷ 1 ∷ 2 ∷ 3 ∷ 4 ∷ 5 ∷ 3 ∷ 9 ∷ []
unfolding grammar read_is framed bits read_words_is
read-met = refl

-- the place: as it was after a success; 1 and 9 have none
read-places : read_place asked 42 520 77 ∷ read_place [] 1 520 77 ∷ read_place [] 0 520 77 ∷ read_place (0x00 ∷ []) 6 520 77 ∷ read_place reversed 65 520 77
    ∷ read_place asked 43 520 77 ∷ read_place (0x48 ∷ 0x80 ∷ []) 11 520 77 ∷ read_place asked 42 519 77 ∷ []
    ≡ 77 ∷ nowhere ∷ 0 ∷ 0 ∷ 40 ∷ 42 ∷ 6 ∷ nowhere ∷ []
unfolding grammar read_is framed bits read_words_is
read-places = refl

-- the users 200 to 199 in words: PDU type, range type 9, SSI, extension present, extension, SSI; interrogation type
abbrev backwards : List ℕ
backwards = 11 ∷ 9 ∷ 200 ∷ 0 ∷ 0 ∷ 199 ∷ lent 20 ++ (1 ∷ lent 493)

write-met : write_number (record_words asking) (lent 6) ∷ write_number (lent 520) [] ∷ write_number backwards []
    ∷ write_number (record_words asking) (lent 5) ∷ write_number (lent 519) (lent 6) ∷ [] ≡ 0 ∷ 3 ∷ 4 ∷ 8 ∷ 9 ∷ []
unfolding grammar records write_is write_refusal record_refusal write_number
write-met = refl

-- the pointer's number after a success, and after a refusal
write-bits : write_bits (record_words asking) (lent 6) 77 ∷ write_bits (record_words asking) (lent 5) 77 ∷ write_bits (lent 519) (lent 6) 77 ∷ []
    ≡ 42 ∷ 77 ∷ 77 ∷ []
unfolding grammar records write_is write_refusal record_refusal write_bits
write-bits = refl

empty-met : empty_number 1 (lent 5) ∷ empty_number 16777216 (lent 5) ∷ empty_number 1 (lent 4) ∷ [] ≡ 0 ∷ 9 ∷ 8 ∷ []
unfolding calls
empty-met = refl

empty-length : empty_length 1 (lent 5) 77 ∷ empty_length 1 (lent 4) 77 ∷ [] ≡ 5 ∷ 77 ∷ []
unfolding calls
empty-length = refl

-- number, entry and place of what boc_capture, boc_entry, boc_restore, boc_reload, boc_reload_external, boc_contents and boc_decide answer; a success leaves 77
abbrev told : {A : Type 0} → Result A Refusal → List ℕ
told a = told_number a ∷ told_entry a 77 ∷ told_place a 77 ∷ []

-- profile A's archive with a bit of A's PDU type flipped, which is then 4, and with the entry of another user
abbrev damaged_a : List ℕ
damaged_a = take 16 bytes_a ++ (0x48 ∷ drop 17 bytes_a)

abbrev another_a : List ℕ
another_a = take 10 bytes_a ++ (0x06 ∷ drop 11 bytes_a)

capture-met : (told (capture_answer (lent 5) profile_a 138 300 (lent 34)) ≡ 0 ∷ 77 ∷ 77 ∷ [])
    × (told (capture_answer [] [] 0 65536 []) ≡ 9 ∷ nowhere ∷ nowhere ∷ [])
    × (told (capture_answer [] [] 0 300 []) ≡ 7 ∷ nowhere ∷ nowhere ∷ [])
    × (told (capture_answer damaged_a [] 0 300 []) ≡ 7 ∷ 0 ∷ 6 ∷ [])
    × (told (capture_answer another_a [] 0 300 []) ≡ 7 ∷ 0 ∷ nowhere ∷ [])
    × (told (capture_answer (lent 5) [] 1 300 []) ≡ 1 ∷ nowhere ∷ nowhere ∷ [])
    × (told (capture_answer (lent 5) [] 0 300 []) ≡ 2 ∷ nowhere ∷ 0 ∷ [])
    × (told (capture_answer (lent 5) (0x00 ∷ []) 6 300 []) ≡ 3 ∷ nowhere ∷ 0 ∷ [])
    × (told (capture_answer (lent 5) reversed 65 300 []) ≡ 4 ∷ nowhere ∷ 40 ∷ [])
    × (told (capture_answer (lent 5) asked 43 300 []) ≡ 5 ∷ nowhere ∷ 42 ∷ [])
    × (told (capture_answer (lent 5) (0x48 ∷ 0x80 ∷ []) 11 300 []) ≡ 3 ∷ nowhere ∷ 6 ∷ [])
    × (told (capture_answer (lent 5) asked 42 300 []) ≡ 6 ∷ nowhere ∷ nowhere ∷ [])
    × (told (capture_answer (lent 5) profile_a 138 300 (lent 33)) ≡ 8 ∷ nowhere ∷ nowhere ∷ [])
unfolding calls body_agrees filing_of
capture-met = (refl, refl, refl, refl, refl, refl, refl, refl, refl, refl, refl, refl, refl)

capture-length : stored_length (capture_answer (lent 5) profile_a 138 300 (lent 34)) 77 ∷ stored_length (capture_answer (lent 5) profile_a 138 300 (lent 33)) 77 ∷ []
    ≡ 34 ∷ 77 ∷ []
unfolding calls
capture-length = refl

entry-met : (told (entry_answer bytes_a 0 3) ≡ 0 ∷ 77 ∷ 77 ∷ [])
    × (told (entry_answer [] 1 4) ≡ 9 ∷ nowhere ∷ nowhere ∷ [])
    × (told (entry_answer [] 1 3) ≡ 7 ∷ nowhere ∷ nowhere ∷ [])
    × (told (entry_answer damaged_a 1 3) ≡ 7 ∷ 0 ∷ 6 ∷ [])
    × (told (entry_answer bytes_a 1 3) ≡ 11 ∷ nowhere ∷ nowhere ∷ [])
unfolding calls body_agrees filing_of entry_is held_nth entry_answer
entry-met = (refl, refl, refl, refl, refl)

-- its key, its bits and its day; a refusal leaves what was there
entry-told : let a = entry_answer bytes_a 0 3 in let none = entry_answer bytes_a 1 3 in
    (listed_key a (7 ∷ 7 ∷ 7 ∷ []) ≡ 1 ∷ 5 ∷ 1 ∷ []) × (listed_length a 77 ∷ listed_day a 77 ∷ [] ≡ 138 ∷ 300 ∷ [])
    × (listed_key none (7 ∷ 7 ∷ 7 ∷ []) ≡ 7 ∷ 7 ∷ 7 ∷ []) × (listed_length none 77 ∷ listed_day none 77 ∷ [] ≡ 77 ∷ 77 ∷ [])
unfolding calls body_agrees filing_of entry_is held_nth entry_answer
entry-told = (refl, refl, refl, refl)

restore-met : (told (restore_answer bytes_a 1 5 1 (lent 18)) ≡ 0 ∷ 77 ∷ 77 ∷ [])
    × (told (restore_answer bytes_a 1 5 3 (lent 18)) ≡ 9 ∷ nowhere ∷ nowhere ∷ [])
    × (told (restore_answer [] 1 5 1 (lent 18)) ≡ 7 ∷ nowhere ∷ nowhere ∷ [])
    × (told (restore_answer damaged_a 1 5 1 (lent 18)) ≡ 7 ∷ 0 ∷ 6 ∷ [])
    × (told (restore_answer bytes_a 1 5 2 (lent 18)) ≡ 11 ∷ nowhere ∷ nowhere ∷ [])
    × (told (restore_answer bytes_a 1 5 1 (lent 17)) ≡ 8 ∷ nowhere ∷ nowhere ∷ [])
unfolding calls body_agrees filing_of restore_is in_range
restore-met = (refl, refl, refl, refl, refl, refl)

restore-bits : restored_length (restore_answer bytes_a 1 5 1 (lent 18)) 77 ∷ restored_length (restore_answer bytes_a 1 5 2 (lent 18)) 77 ∷ [] ≡ 138 ∷ 77 ∷ []
unfolding calls body_agrees filing_of restore_is in_range
restore-bits = refl

restore-day : restored_day (restore_answer bytes_a 1 5 1 (lent 18)) 77 ∷ restored_day (restore_answer bytes_a 1 5 2 (lent 18)) 77 ∷ [] ≡ 300 ∷ 77 ∷ []
unfolding calls body_agrees filing_of restore_is in_range
restore-day = refl

-- 9: part 3, a reserved definition type, an acknowledgement without delivery; 12: profile A's lists under removal
reload-met : (told (reload_answer bytes_a 1 5 1 1 1 1 (lent 18)) ≡ 0 ∷ 77 ∷ 77 ∷ [])
    × (told (reload_answer bytes_a 1 5 3 1 1 1 (lent 18)) ≡ 9 ∷ nowhere ∷ nowhere ∷ [])
    × (told (reload_answer bytes_a 1 5 1 3 1 1 (lent 18)) ≡ 9 ∷ nowhere ∷ nowhere ∷ [])
    × (told (reload_answer bytes_a 1 5 1 1 0 1 (lent 18)) ≡ 9 ∷ nowhere ∷ nowhere ∷ [])
    × (told (reload_answer [] 1 5 1 1 1 1 (lent 18)) ≡ 7 ∷ nowhere ∷ nowhere ∷ [])
    × (told (reload_answer damaged_a 1 5 1 1 1 1 (lent 18)) ≡ 7 ∷ 0 ∷ 6 ∷ [])
    × (told (reload_answer bytes_a 1 5 2 1 1 1 (lent 18)) ≡ 11 ∷ nowhere ∷ nowhere ∷ [])
    × (told (reload_answer bytes_a 1 5 1 2 1 1 (lent 18)) ≡ 12 ∷ nowhere ∷ nowhere ∷ [])
    × (told (reload_answer bytes_a 1 5 1 1 1 1 (lent 17)) ≡ 8 ∷ nowhere ∷ nowhere ∷ [])
unfolding calls body_agrees filing_of in_range write_is write_refusal record_refusal is_definition define_of stands_in reload_is
reload-met = (refl, refl, refl, refl, refl, refl, refl, refl, refl)

reload-bits : reloaded_length (reload_answer bytes_a 1 5 1 1 1 1 (lent 18)) 77 ∷ reloaded_length (reload_answer bytes_a 1 5 1 2 1 1 (lent 18)) 77 ∷ []
    ≡ 137 ∷ 77 ∷ []
unfolding calls body_agrees filing_of in_range write_is write_refusal record_refusal is_definition define_of stands_in reload_is
reload-bits = refl

-- an archive with the number part of user 1/5 that restricts 112
abbrev numbered : List ℕ
numbered =
    0x00 ∷ 0x00 ∷ 0x01 ∷ 0x00 ∷ 0x01 ∷ 0x00 ∷ 0x00 ∷ 0x01 ∷ 0x00 ∷ 0x00 ∷ 0x05 ∷ 0x02 ∷ 0x00 ∷ 0x50 ∷ 0x01 ∷ 0x2c
    ∷ 0x49 ∷ 0x82 ∷ 0x00 ∷ 0x00 ∷ 0x0a ∷ 0x41 ∷ 0x20 ∷ 0x23 ∷ 0x11 ∷ 0x20 ∷ []

-- 9: a network, a reserved definition type, an acknowledgement without delivery; 11: an identity part alone; 12: the number under removal
external-met : (told (external_answer numbered 1 5 1 1 1 (lent 10)) ≡ 0 ∷ 77 ∷ 77 ∷ [])
    × (told (external_answer numbered 16777216 5 1 1 1 (lent 10)) ≡ 9 ∷ nowhere ∷ nowhere ∷ [])
    × (told (external_answer numbered 1 5 3 1 1 (lent 10)) ≡ 9 ∷ nowhere ∷ nowhere ∷ [])
    × (told (external_answer numbered 1 5 1 0 1 (lent 10)) ≡ 9 ∷ nowhere ∷ nowhere ∷ [])
    × (told (external_answer [] 1 5 1 1 1 (lent 10)) ≡ 7 ∷ nowhere ∷ nowhere ∷ [])
    × (told (external_answer damaged_a 1 5 1 1 1 (lent 10)) ≡ 7 ∷ 0 ∷ 6 ∷ [])
    × (told (external_answer bytes_a 1 5 1 1 1 (lent 10)) ≡ 11 ∷ nowhere ∷ nowhere ∷ [])
    × (told (external_answer numbered 1 5 2 1 1 (lent 10)) ≡ 12 ∷ nowhere ∷ nowhere ∷ [])
    × (told (external_answer numbered 1 5 1 1 1 (lent 9)) ≡ 8 ∷ nowhere ∷ nowhere ∷ [])
unfolding calls body_agrees filing_of in_range write_is write_refusal record_refusal is_definition define_of stands_in reload_is
external-met = (refl, refl, refl, refl, refl, refl, refl, refl, refl)

external-bits : reloaded_length (external_answer numbered 1 5 1 1 1 (lent 10)) 77 ∷ reloaded_length (external_answer numbered 1 5 2 1 1 (lent 10)) 77 ∷ []
    ≡ 79 ∷ 77 ∷ []
unfolding calls body_agrees filing_of in_range write_is write_refusal record_refusal is_definition define_of stands_in reload_is
external-bits = refl

-- speech of user 1/5 to an identity of network 1, and to the number 112
abbrev to : ℕ → List ℕ
to ssi = 1 ∷ 5 ∷ 1 ∷ 1 ∷ 1 ∷ ssi ∷ lent 28

abbrev to112 : List ℕ
to112 = 1 ∷ 5 ∷ 1 ∷ 2 ∷ 0 ∷ 0 ∷ 3 ∷ 1 ∷ 1 ∷ 2 ∷ lent 24

-- 9: an SSI out of its range, 33 words, a kind of destination that is none
decide-met : (told (decide_answer bytes_a (to 100)) ≡ 0 ∷ 77 ∷ 77 ∷ [])
    × (told (decide_answer bytes_a (to 16777216)) ≡ 9 ∷ nowhere ∷ nowhere ∷ [])
    × (told (decide_answer bytes_a (1 ∷ 5 ∷ 1 ∷ 1 ∷ 1 ∷ 100 ∷ lent 27)) ≡ 9 ∷ nowhere ∷ nowhere ∷ [])
    × (told (decide_answer bytes_a (1 ∷ 5 ∷ 1 ∷ 3 ∷ 1 ∷ 100 ∷ lent 28)) ≡ 9 ∷ nowhere ∷ nowhere ∷ [])
    × (told (decide_answer [] (to 100)) ≡ 7 ∷ nowhere ∷ nowhere ∷ [])
    × (told (decide_answer another_a (to 100)) ≡ 7 ∷ 0 ∷ nowhere ∷ [])
unfolding calls body_agrees filing_of requests rules request.requests part_for decide_is decide_answer
decide-met = (refl, refl, refl, refl, refl, refl)

-- A held: barred 2 for 1/100, allowed for 1/200, not held for a number; a refusal leaves what was there
decide_decision : decided_verdict (decide_answer bytes_a (to 100)) 77 ∷ decided_verdict (decide_answer bytes_a (to 200)) 77
    ∷ decided_verdict (decide_answer bytes_a to112) 77 ∷ decided_verdict (decide_answer [] (to 100)) 77 ∷ [] ≡ 2 ∷ 3 ∷ 4 ∷ 77 ∷ []
unfolding calls body_agrees filing_of requests rules request.requests part_for decide_is decide_answer
decide_decision = refl

contents-met : (told (contents_answer (lent 5) (lent 17)) ≡ 0 ∷ 77 ∷ 77 ∷ [])
    × (told (contents_answer [] (lent 17)) ≡ 7 ∷ nowhere ∷ nowhere ∷ [])
    × (told (contents_answer damaged_a (lent 17)) ≡ 7 ∷ 0 ∷ 6 ∷ [])
    × (told (contents_answer (lent 5) (lent 16)) ≡ 8 ∷ nowhere ∷ nowhere ∷ [])
unfolding calls body_agrees filing_of list_is listing two_items first_line lines item decimal digits
contents-met = (refl, refl, refl, refl)

contents-length : stored_length (contents_answer (lent 5) (lent 17)) 77 ∷ stored_length (contents_answer (lent 5) (lent 16)) 77 ∷ [] ≡ 17 ∷ 77 ∷ []
unfolding calls list_is listing two_items first_line lines item decimal digits
contents-length = refl
