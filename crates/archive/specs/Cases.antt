-- Worked cases with several entries: the bytes of numbers, limits, a PDU put in its place, a history of offers, what breaks a
-- rule, and the listing.
use Rattle.std.specs.Prelude.{◌≡◌, refl, true, false, List, [], ◌∷◌, ◌++◌, ℕ, take, replicate, Err, Ok, None, Some}
use Rattle.archive.specs.Model.{Held, header_bytes, entry_bytes, length_of, within_limits, in_range}
use Rattle.archive.specs.Filing.{filing_of, body_agrees}
use Rattle.archive.specs.Reading.{home_of, count_of, entry_at, is_archive}
use Rattle.archive.specs.Refusals.{plain, of_body}
use Rattle.archive.specs.Checking.{check_is}
use Rattle.archive.specs.Keeping.{empty_is, put}
use Rattle.archive.specs.Restoring.{held_nth, entry_is, fetch_is, restore_is, restore_out}
use Rattle.archive.specs.History.{Offer, after, after_all, last_accepted}
use Rattle.text.specs.Decimal.{digits, decimal, item}
use Rattle.archive.specs.Listing.{two_items, first_line, line, lines, listing, fault_text, told_of}
use Rattle.archive.specs.Examples.{calls}
use Rattle.archive.specs.declared.contents.Key.{Key}
use Rattle.archive.specs.declared.contents.Entry.{Entry}

-- a user and part, and an entry
abbrev key : ℕ → ℕ → ℕ → Key
key network ssi part = record { network = network; ssi = ssi; part = part }

abbrev entry_on : ℕ → ℕ → ℕ → ℕ → ℕ → Entry
entry_on day network ssi part bits = record { key = key network ssi part; bits = record { 0 = bits }; day = day }

abbrev entry : ℕ → ℕ → ℕ → ℕ → Entry
entry = entry_on 300

-- ---- bytes and limits

-- each number in its place, the most significant byte first, and back
header : (header_bytes 0x010203 0x0102 ≡ 1 ∷ 2 ∷ 3 ∷ 1 ∷ 2 ∷ [])
    × (home_of (1 ∷ 2 ∷ 3 ∷ 4 ∷ 5 ∷ []) ≡ 0x010203) × (count_of (1 ∷ 2 ∷ 3 ∷ 4 ∷ 5 ∷ []) ≡ 0x0405)
unfolding header_bytes home_of
header = (refl, refl, refl)

contents : (entry_bytes (entry_on 0x0a0b 0x010203 0x040506 7 0x0809) ≡ 1 ∷ 2 ∷ 3 ∷ 4 ∷ 5 ∷ 6 ∷ 7 ∷ 8 ∷ 9 ∷ 10 ∷ 11 ∷ [])
    × (entry_at (0 ∷ 1 ∷ 2 ∷ 3 ∷ 4 ∷ 5 ∷ 6 ∷ 7 ∷ 8 ∷ 9 ∷ 10 ∷ 11 ∷ []) 1 ≡ entry_on 0x0a0b 0x010203 0x040506 7 0x0809)
unfolding entry_bytes
contents = (refl, refl)

limits : (within_limits 512 65536 ≡ true) × (within_limits 513 65536 ≡ false) × (within_limits 512 65537 ≡ false)
limits = (refl, refl, refl)

-- home networks and lent buffers from both sides
empties : (empty_is 16777215 5 ≡ Ok 5) × (empty_is 16777216 5 ≡ Err (plain 9)) × (empty_is 0 4 ≡ Err (plain 8))
unfolding empty_is
empties = (refl, refl, refl)

-- users and parts from both sides
ranges : (in_range (key 16777215 16777215 1) ≡ true)
    × (in_range (key 0 0 2) ≡ true)
    × (in_range (key 16777216 0 1) ≡ false)
    × (in_range (key 0 16777216 1) ≡ false)
    × (in_range (key 0 0 0) ≡ false)
    × (in_range (key 0 0 3) ≡ false)
unfolding in_range
ranges = (refl, refl, refl, refl, refl, refl)

-- ---- a PDU put in its place

-- a PDU of n bits in n bytes of 0 for a user and part
abbrev holding : ℕ → ℕ → ℕ → ℕ → Held
holding network ssi part bits = record { entry = entry network ssi part bits; body = replicate bits 0 }

abbrev three : List Held
three = holding 1 5 1 8 ∷ holding 1 5 2 8 ∷ holding 2 0 1 8 ∷ []

-- before, between and after the others: by network, then SSI, then part
in_place : (put (holding 0 9 2 8) three ≡ holding 0 9 2 8 ∷ holding 1 5 1 8 ∷ holding 1 5 2 8 ∷ holding 2 0 1 8 ∷ [])
    × (put (holding 1 4 2 8) three ≡ holding 1 4 2 8 ∷ holding 1 5 1 8 ∷ holding 1 5 2 8 ∷ holding 2 0 1 8 ∷ [])
    × (put (holding 1 6 1 8) three ≡ holding 1 5 1 8 ∷ holding 1 5 2 8 ∷ holding 1 6 1 8 ∷ holding 2 0 1 8 ∷ [])
    × (put (holding 2 0 2 8) three ≡ holding 1 5 1 8 ∷ holding 1 5 2 8 ∷ holding 2 0 1 8 ∷ holding 2 0 2 8 ∷ [])
in_place = (refl, refl, refl, refl)

-- instead of the one for the same user and part; the others stay
replaced : put (holding 1 5 2 16) three ≡ holding 1 5 1 8 ∷ holding 1 5 2 16 ∷ holding 2 0 1 8 ∷ []
replaced = refl

-- header, 11 bytes an entry, and bodies of 1, 2 and 1 bytes
length-3 : length_of (record { home = 0; held = holding 1 5 1 8 ∷ holding 1 5 2 9 ∷ holding 2 0 1 1 ∷ [] }) ≡ 42
length-3 = refl

-- ---- a history: each PDU lists no groups and restricts nothing

abbrev offer : List ℕ → ℕ → ℕ → Offer
offer s n day = record { pdu = s; bits = n; day = day; lent = replicate 60 0 }

-- user 5: service 1; then services 2 and 3, of a day before the first's; and a failed interrogation
abbrev first : Offer
first = offer (0x49 ∷ 0x82 ∷ 0x00 ∷ 0x00 ∷ 0x0a ∷ 0x21 ∷ 0x20 ∷ 0x00 ∷ []) 63 300

abbrev second : Offer
second = offer (0x49 ∷ 0x82 ∷ 0x00 ∷ 0x00 ∷ 0x0a ∷ 0x22 ∷ 0x4c ∷ 0x00 ∷ 0x00 ∷ []) 66 299

abbrev failed : Offer
failed = offer (0x49 ∷ 0x82 ∷ 0x00 ∷ 0x00 ∷ 0x0a ∷ 0x61 ∷ 0x20 ∷ []) 51 301

-- the first once more, of a day that is none
abbrev too_late : Offer
too_late = offer first.pdu 63 65536

-- user 7/4, numbers, of the last day
abbrev visitor : Offer
visitor = offer (0x49 ∷ 0x82 ∷ 0x00 ∷ 0x00 ∷ 0x09 ∷ 0x00 ∷ 0x00 ∷ 0x07 ∷ 0x41 ∷ 0x60 ∷ 0x00 ∷ []) 87 65535

abbrev nothing : List ℕ
nothing = 0x00 ∷ 0x00 ∷ 0x01 ∷ 0x00 ∷ 0x00 ∷ []

abbrev offers : List Offer
offers = first ∷ visitor ∷ second ∷ failed ∷ too_late ∷ []

-- 47 bytes: the second PDU of user 1/5, part 1, of 66 bits, and the visitor's
abbrev kept : List ℕ
kept =
    0x00 ∷ 0x00 ∷ 0x01 ∷ 0x00 ∷ 0x02 ∷
    0x00 ∷ 0x00 ∷ 0x01 ∷ 0x00 ∷ 0x00 ∷ 0x05 ∷ 0x01 ∷ 0x00 ∷ 0x42 ∷ 0x01 ∷ 0x2b ∷
    0x00 ∷ 0x00 ∷ 0x07 ∷ 0x00 ∷ 0x00 ∷ 0x04 ∷ 0x02 ∷ 0x00 ∷ 0x57 ∷ 0xff ∷ 0xff ∷
    0x49 ∷ 0x82 ∷ 0x00 ∷ 0x00 ∷ 0x0a ∷ 0x22 ∷ 0x4c ∷ 0x00 ∷ 0x00 ∷
    0x49 ∷ 0x82 ∷ 0x00 ∷ 0x00 ∷ 0x09 ∷ 0x00 ∷ 0x00 ∷ 0x07 ∷ 0x41 ∷ 0x60 ∷ 0x00 ∷ []

history : after_all nothing offers ≡ kept
unfolding calls body_agrees filing_of after after_all
history = refl

-- the last accepted of user 1/5 is the second, not the first, nor the failed one, nor the one of no day; the visitor's stays; no other user or
-- part has one
last-accepted : (last_accepted (key 1 5 1) nothing None offers ≡ Some second)
    × (last_accepted (key 7 4 2) nothing None offers ≡ Some visitor)
    × (last_accepted (key 1 5 2) nothing None offers ≡ None)
    × (last_accepted (key 1 4 2) nothing None offers ≡ None)
unfolding calls body_agrees filing_of after after_all last_accepted
last-accepted = (refl, refl, refl, refl)

-- where their bodies begin, and their days; nothing is held for another part, or in an empty archive; one byte more or less, and no header, is no archive
fetched : (fetch_is kept (key 1 5 1) ≡ Ok (Some (record { off = 27; bits = record { 0 = 66 }; day = 299 })))
    × (fetch_is kept (key 7 4 2) ≡ Ok (Some (record { off = 36; bits = record { 0 = 87 }; day = 65535 })))
    × (fetch_is kept (key 7 4 1) ≡ Ok None)
    × (fetch_is nothing (key 1 5 1) ≡ Ok None)
    × (fetch_is (kept ++ (0x00 ∷ [])) (key 1 5 1) ≡ Err (plain 7))
    × (fetch_is (take 46 kept) (key 1 5 1) ≡ Err (plain 7))
    × (fetch_is [] (key 1 5 1) ≡ Err (plain 7))
unfolding calls body_agrees filing_of fetch_is in_range
fetched = (refl, refl, refl, refl, refl, refl, refl)

-- the entries by their index, and none beyond the last; what is no archive has none
entries : (entry_is kept 0 ≡ Ok (entry_on 299 1 5 1 66))
    × (entry_is kept 1 ≡ Ok (entry_on 65535 7 4 2 87))
    × (entry_is kept 2 ≡ Err (plain 11))
    × (entry_is nothing 0 ≡ Err (plain 11))
    × (entry_is (take 46 kept) 2 ≡ Err (plain 7))
unfolding calls body_agrees filing_of entry_is held_nth
entries = (refl, refl, refl, refl, refl)

-- what is restored, and the byte after it stays

restored-visitor : (restore_is kept (key 7 4 2) 11 ≡ Ok (record { bits = record { 0 = 87 }; day = 65535 }))
    × (restore_out kept (key 7 4 2) (replicate 12 0xff)
    ≡ 0x49 ∷ 0x82 ∷ 0x00 ∷ 0x00 ∷ 0x09 ∷ 0x00 ∷ 0x00 ∷ 0x07 ∷ 0x41 ∷ 0x60 ∷ 0x00 ∷ 0xff ∷ [])
unfolding calls body_agrees filing_of restore_is restore_out in_range
restored-visitor = (refl, refl)

-- ---- what breaks a rule, each in an archive of one or two PDUs of home network 1

abbrev of_two : List ℕ → List ℕ → List ℕ
of_two contents bodies = (0x00 ∷ 0x00 ∷ 0x01 ∷ 0x00 ∷ 0x02 ∷ []) ++ (contents ++ bodies)

abbrev of_one : List ℕ → List ℕ → List ℕ
of_one contents body = (0x00 ∷ 0x00 ∷ 0x01 ∷ 0x00 ∷ 0x01 ∷ []) ++ (contents ++ body)

-- user 5 and the visitor in their order, and the other way round; user 5 twice; a body of another part, SSI, network or length than its entry; a
-- failed interrogation
rules : (is_archive (of_two (entry_bytes (entry 1 5 1 63) ++ entry_bytes (entry 7 4 2 87)) (first.pdu ++ visitor.pdu)) ≡ true)
    × (is_archive (of_two (entry_bytes (entry 7 4 2 87) ++ entry_bytes (entry 1 5 1 63)) (visitor.pdu ++ first.pdu)) ≡ false)
    × (is_archive (of_two (entry_bytes (entry 1 5 1 63) ++ entry_bytes (entry 1 5 1 63)) (first.pdu ++ first.pdu)) ≡ false)
    × (is_archive (of_one (entry_bytes (entry 1 5 1 63)) first.pdu) ≡ true)
    × (is_archive (of_one (entry_bytes (entry 1 5 2 63)) first.pdu) ≡ false)
    × (is_archive (of_one (entry_bytes (entry 1 6 1 63)) first.pdu) ≡ false)
    × (is_archive (of_one (entry_bytes (entry 2 5 1 63)) first.pdu) ≡ false)
    × (is_archive (of_one (entry_bytes (entry 1 5 1 62)) first.pdu) ≡ false)
    × (is_archive (of_one (entry_bytes (entry 1 5 3 51)) failed.pdu) ≡ false)
unfolding calls body_agrees filing_of
rules = (refl, refl, refl, refl, refl, refl, refl, refl, refl)

-- ---- what the check says

abbrev damaged : List ℕ
damaged = 0x00 ∷ 0x82 ∷ 0x00 ∷ 0x00 ∷ 0x09 ∷ 0x00 ∷ 0x00 ∷ 0x07 ∷ 0x41 ∷ 0x60 ∷ 0x00 ∷ []

-- the contents of user 5 and the visitor, and the other way round
abbrev rising : List ℕ
rising = entry_bytes (entry 1 5 1 63) ++ entry_bytes (entry 7 4 2 87)

abbrev falling : List ℕ
falling = entry_bytes (entry 7 4 2 87) ++ entry_bytes (entry 1 5 1 63)

-- 7 with an entry and a place: an SS type that is not 6, at 0, in the second body; in both, the first counts; no bits, which end before the
-- SS type; a service that is missing, at 48
bodies-refused : (check_is (of_two rising (first.pdu ++ damaged)) ≡ Err (of_body 1 (Some 0)))
    × (check_is (of_two rising ((0x49 ∷ 0x80 ∷ replicate 6 0) ++ damaged)) ≡ Err (of_body 0 (Some 11)))
    × (check_is (of_one (entry_bytes (entry 1 5 1 0)) []) ≡ Err (of_body 0 (Some 0)))
    × (check_is (of_one (entry_bytes (entry 1 5 1 48)) (take 6 first.pdu)) ≡ Err (of_body 0 (Some 48)))
unfolding calls body_agrees filing_of
bodies-refused = (refl, refl, refl, refl)

-- 7 with an entry and no place: a legal body of another user; a failed interrogation; a nonzero unused bit; 4,097 bits
bodies-unfit : (check_is (of_one (entry_bytes (entry 1 6 1 63)) first.pdu) ≡ Err (of_body 0 None))
    × (check_is (of_one (entry_bytes (entry 1 5 1 51)) failed.pdu) ≡ Err (of_body 0 None))
    × (check_is (of_one (entry_bytes (entry 1 5 1 62)) (take 7 first.pdu ++ (0x03 ∷ []))) ≡ Err (of_body 0 None))
    × (check_is (of_one (entry_bytes (entry 1 5 1 4097)) (replicate 513 0)) ≡ Err (of_body 0 None))
unfolding calls body_agrees filing_of
bodies-unfit = (refl, refl, refl, refl)

-- 7 with neither, though a body is at fault too: keys that fall, a key twice, part 3, a byte more or less, an entry too many in the header
shapes : (check_is (of_two falling (damaged ++ first.pdu)) ≡ Err (plain 7))
    × (check_is (of_two (entry_bytes (entry 7 4 2 87) ++ entry_bytes (entry 7 4 2 87)) (damaged ++ damaged)) ≡ Err (plain 7))
    × (check_is (of_one (entry_bytes (entry 1 5 3 51)) failed.pdu) ≡ Err (plain 7))
    × (check_is (of_two rising (damaged ++ (first.pdu ++ (0x00 ∷ [])))) ≡ Err (plain 7))
    × (check_is (of_two rising (first.pdu ++ take 10 damaged)) ≡ Err (plain 7))
    × (check_is (of_two (entry_bytes (entry 1 5 1 63)) first.pdu) ≡ Err (plain 7))
unfolding calls body_agrees filing_of
shapes = (refl, refl, refl, refl, refl, refl)

-- and where `contents` says it is: `entry 1 bit 0`, `entry 0`, nothing
told : (told_of (of_two rising (first.pdu ++ damaged)) ≡ 101 ∷ 110 ∷ 116 ∷ 114 ∷ 121 ∷ 32 ∷ 49 ∷ 32 ∷ 98 ∷ 105 ∷ 116 ∷ 32 ∷ 48 ∷ 10 ∷ [])
    × (told_of (of_one (entry_bytes (entry 1 6 1 63)) first.pdu) ≡ 101 ∷ 110 ∷ 116 ∷ 114 ∷ 121 ∷ 32 ∷ 48 ∷ 10 ∷ [])
    × (told_of (of_two falling (damaged ++ first.pdu)) ≡ [])
unfolding calls body_agrees filing_of told_of fault_text two_items item decimal digits
told = (refl, refl, refl)

-- ---- the listing of the least and the greatest numbers

abbrev lined_up : ℕ → ℕ → ℕ → ℕ → ℕ → Held
lined_up day network ssi part bits = record { entry = entry_on day network ssi part bits; body = [] }

-- `home 0 entries 2`, `0 0 part 1 bits 63 day 0`, `16777215 16777215 part 2 bits 2456 day 65535`
listing-2 : listing (record { home = 0; held = lined_up 0 0 0 1 63 ∷ lined_up 65535 16777215 16777215 2 2456 ∷ [] }) ≡
    104 ∷ 111 ∷ 109 ∷ 101 ∷ 32 ∷ 48 ∷ 32 ∷ 101 ∷ 110 ∷ 116 ∷ 114 ∷ 105 ∷ 101 ∷ 115 ∷ 32 ∷ 50 ∷ 10 ∷
    48 ∷ 32 ∷ 48 ∷ 32 ∷ 112 ∷ 97 ∷ 114 ∷ 116 ∷ 32 ∷ 49 ∷ 32 ∷ 98 ∷ 105 ∷ 116 ∷ 115 ∷ 32 ∷ 54 ∷ 51 ∷ 32 ∷ 100 ∷ 97 ∷ 121 ∷ 32 ∷ 48 ∷ 10 ∷
    49 ∷ 54 ∷ 55 ∷ 55 ∷ 55 ∷ 50 ∷ 49 ∷ 53 ∷ 32 ∷ 49 ∷ 54 ∷ 55 ∷ 55 ∷ 55 ∷ 50 ∷ 49 ∷ 53 ∷
    32 ∷ 112 ∷ 97 ∷ 114 ∷ 116 ∷ 32 ∷ 50 ∷ 32 ∷ 98 ∷ 105 ∷ 116 ∷ 115 ∷ 32 ∷ 50 ∷ 52 ∷ 53 ∷ 54 ∷
    32 ∷ 100 ∷ 97 ∷ 121 ∷ 32 ∷ 54 ∷ 53 ∷ 53 ∷ 51 ∷ 53 ∷ 10 ∷ []
unfolding listing two_items first_line lines line item decimal digits
listing-2 = refl
