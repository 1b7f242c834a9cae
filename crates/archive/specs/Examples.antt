-- The 34-byte example of documents 01 and 02: profile A captured at home network 1, on day 300.
use Rattle.std.specs.Prelude.{◌≡◌, refl, List, [], ◌∷◌, ℕ, length, replicate, Ok, None, Some}
use Rattle.bits.specs.Bits.{bits}
use Rattle.bits.specs.Frame.{framed}
use Rattle.grammar.specs.Grammar.{grammar, network_of}
use Rattle.reader.specs.Read.{read_is}
use Rattle.archive.specs.Model.{Held, Archive, in_range, header_bytes, entry_bytes, bytes_of, length_of}
use Rattle.archive.specs.Reading.{held_from, bodies_at, reading, is_archive}
use Rattle.archive.specs.Checking.{in_order, has_shape, bodies_from, check_is}
use Rattle.archive.specs.Keeping.{empty_of, empty_is, empty_out, with, captured, placed, capture_is, capture_out}
use Rattle.archive.specs.Filing.{filing_of, body_agrees, well_formed, keeps_rules}
use Rattle.archive.specs.Restoring.{body_from, lookup}
use Rattle.text.specs.Decimal.{digits, decimal, item}
use Rattle.archive.specs.Listing.{two_items, first_line, line, lines, listing, report_of, fault_text, told_of, report_is, report_out}
use Rattle.archive.specs.declared.contents.Key.{Key}

-- profile A as a PDU of 138 bits
abbrev pub profile_a : List ℕ
profile_a =
    0x49 ∷ 0x82 ∷ 0x00 ∷ 0x00 ∷ 0x0a ∷ 0x21 ∷ 0x21 ∷ 0x20 ∷ 0x00 ∷ 0x0c ∷ 0x80 ∷ 0x00 ∷ 0x0c ∷ 0x70 ∷ 0x80 ∷ 0x00 ∷ 0x4b ∷ 0x00 ∷ []

-- a part of user 1/5
abbrev pub part_of5 : ℕ → Key
part_of5 part = record { network = 1; ssi = 5; part = part }

-- held as its part 1
abbrev pub held_a : Held
held_a = record { entry = record { key = part_of5 1; bits = record { 0 = 138 }; day = 300 }; body = profile_a }

abbrev pub holding_a : Archive
holding_a = record { home = 1; held = held_a ∷ [] }

abbrev pub bytes_a : List ℕ
bytes_a =
    0x00 ∷ 0x00 ∷ 0x01 ∷ 0x00 ∷ 0x01 ∷
    0x00 ∷ 0x00 ∷ 0x01 ∷ 0x00 ∷ 0x00 ∷ 0x05 ∷ 0x01 ∷ 0x00 ∷ 0x8a ∷ 0x01 ∷ 0x2c ∷ profile_a

written_a : bytes_of holding_a ≡ bytes_a
unfolding header_bytes entry_bytes
written_a = refl

read_a : reading bytes_a ≡ holding_a
unfolding reading held_from
read_a = refl

length_a : length bytes_a ≡ 34
length_a = refl

as_long : length_of holding_a ≡ 34
as_long = refl

-- captured into the empty archive, and once more: the same bytes
captured_a : with (empty_of 1) held_a ≡ holding_a
captured_a = refl

captured_again : with holding_a held_a ≡ holding_a
captured_again = refl

-- held for its user and part, and for no other part
found_a : lookup (part_of5 1) holding_a.held ≡ Some held_a
found_a = refl

other-part : lookup (part_of5 2) holding_a.held ≡ None
other-part = refl

-- its body begins after the header and the one entry
place_a : body_from (part_of5 1) (bodies_at bytes_a) holding_a.held ≡ Some (record { off = 16; bits = record { 0 = 138 }; day = 300 })
place_a = refl

-- ---- the calls themselves

-- `unfolding calls` opens all of them, down to the PDU's bits
unfoldable pub calls : Unit {0}
unfolding grammar read_is framed bits empty_is empty_out capture_is capture_out captured placed is_archive reading held_from
    well_formed keeps_rules header_bytes entry_bytes network_of in_range in_order has_shape bodies_from check_is
calls = tt

-- an empty archive of home network 1; the bytes after it stay
empty-1 : empty_out 1 (replicate 6 0xff) ≡ 0x00 ∷ 0x00 ∷ 0x01 ∷ 0x00 ∷ 0x00 ∷ 0xff ∷ []
unfolding calls
empty-1 = refl

-- capturing A into it on day 300 writes the 34 bytes
capture_a : capture_is (0x00 ∷ 0x00 ∷ 0x01 ∷ 0x00 ∷ 0x00 ∷ []) profile_a 138 300 34 ≡ Ok 34
unfolding calls
capture_a = refl

capture_a_out : capture_out (0x00 ∷ 0x00 ∷ 0x01 ∷ 0x00 ∷ 0x00 ∷ []) profile_a 138 300 (replicate 34 0xff) ≡ bytes_a
unfolding calls
capture_a_out = refl

-- ---- the listing

decimal-0 : decimal 0 ≡ 48 ∷ []
unfolding decimal digits
decimal-0 = refl

decimal-9 : decimal 9 ≡ 57 ∷ []
unfolding decimal digits
decimal-9 = refl

decimal-10 : decimal 10 ≡ 49 ∷ 48 ∷ []
unfolding decimal digits
decimal-10 = refl

decimal-most : decimal 16777215 ≡ 49 ∷ 54 ∷ 55 ∷ 55 ∷ 55 ∷ 50 ∷ 49 ∷ 53 ∷ []
unfolding decimal digits
decimal-most = refl

-- `home 1 entries 1` and `1 5 part 1 bits 138 day 300`, each on its line
abbrev pub text_a : List ℕ
text_a =
    104 ∷ 111 ∷ 109 ∷ 101 ∷ 32 ∷ 49 ∷ 32 ∷ 101 ∷ 110 ∷ 116 ∷ 114 ∷ 105 ∷ 101 ∷ 115 ∷ 32 ∷ 49 ∷ 10 ∷
    49 ∷ 32 ∷ 53 ∷ 32 ∷ 112 ∷ 97 ∷ 114 ∷ 116 ∷ 32 ∷ 49 ∷ 32 ∷ 98 ∷ 105 ∷ 116 ∷ 115 ∷ 32 ∷ 49 ∷ 51 ∷ 56 ∷
    32 ∷ 100 ∷ 97 ∷ 121 ∷ 32 ∷ 51 ∷ 48 ∷ 48 ∷ 10 ∷ []

listing_a : listing holding_a ≡ text_a
unfolding listing two_items first_line lines line item decimal digits
listing_a = refl

-- ---- the report

report_a : report_of bytes_a ≡ text_a
unfolding calls filing_of body_agrees report_of listing two_items first_line lines line item decimal digits
report_a = refl

-- `refused 7` on its line; the bytes after it stay
report-none : (report_is [] 12 0 ≡ record { printed = 10; told = 0 })
    × (report_out [] (replicate 12 0xff) ≡ 114 ∷ 101 ∷ 102 ∷ 117 ∷ 115 ∷ 101 ∷ 100 ∷ 32 ∷ 55 ∷ 10 ∷ 0xff ∷ 0xff ∷ [])
unfolding calls report_of told_of fault_text report_is report_out
report-none = (refl, refl)

-- a buffer of 9 bytes is too short for it
report-short : (report_is [] 9 0 ≡ record { printed = 0; told = 0 }) × (report_out [] (replicate 9 0xff) ≡ replicate 9 0xff)
unfolding calls report_of told_of fault_text report_is report_out
report-short = (refl, refl)
