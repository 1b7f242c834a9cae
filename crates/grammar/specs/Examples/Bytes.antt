-- The order of elements: PDUs of each type in which they differ, as bytes and as records, both ways; and the PDUs of document 01's P13 and P14.
use Rattle.std.specs.Prelude.{◌≡◌, refl, List, [], ◌∷◌, ℕ, length}
use Rattle.bits.specs.Bits.{bits}
use Rattle.bits.specs.Frame.{bits_in}
use Rattle.codec.specs.Codec.{ok}
use Rattle.codec.specs.Whole.{whole_parse}
use Rattle.grammar.specs.Grammar.{pdu, grammar}
use Rattle.grammar.specs.Zero.{zero_lists}
use Rattle.grammar.specs.ProfileRecords.{A, asking}
use Rattle.grammar.specs.Samples.{near, far, list, digits, numbers, services, identity_lists, number_lists}
use Rattle.grammar.specs.Samples as a
use Rattle.grammar.specs.declared.record.Identities.{Identities}
use Rattle.grammar.specs.declared.record.Record.{Record}

-- a record is written as the first so many bits of these bytes, and read from them
abbrev BothWays : Record → ℕ → List ℕ → Type 0
BothWays r n bytes = (pdu.print r ≡ bits_in n bytes) × (whole_parse pdu (bits_in n bytes) ≡ ok r n [])

-- ---- P13 and P14

p13 : length (pdu.print A) ≡ 138
unfolding grammar
p13 = refl

p14 : length (pdu.print asking) ≡ 42
unfolding grammar
p14 = refl

p13-read : whole_parse pdu (pdu.print A) ≡ ok A 138 []
unfolding grammar
p13-read = refl

-- ---- DEFINE: delivery and acknowledgement, addition, services 3 and 0, groups 4 and 6/5, restricted 7 to 8, exception 10/9

-- users 1 and 3/2, here and below
abbrev users : Identities
users = list 2 (near 1 ∷ far 3 2 ∷ [])

abbrev groups : Identities
groups = list 2 (near 4 ∷ far 6 5 ∷ [])

addition-define : BothWays
    (a.define users 1 1 0 (services (3 ∷ 0 ∷ [])) (identity_lists groups (list 9 (near 7 ∷ near 8 ∷ [])) (list 1 (far 10 9 ∷ [])))) 287 (
    0x48 ∷ 0xa4 ∷ 0x00 ∷ 0x00 ∷ 0x02 ∷ 0x00 ∷ 0x00 ∷ 0x02 ∷ 0x80 ∷ 0x00 ∷ 0x01 ∷ 0xe2 ∷ 0x60 ∷ 0x80 ∷ 0x00 ∷ 0x01 ∷ 0x00 ∷ 0x00 ∷ 0x00 ∷ 0xb0 ∷
    0x00 ∷ 0x00 ∷ 0x69 ∷ 0x00 ∷ 0x00 ∷ 0x07 ∷ 0x00 ∷ 0x00 ∷ 0x04 ∷ 0x04 ∷ 0x00 ∷ 0x00 ∷ 0x26 ∷ 0x00 ∷ 0x00 ∷ 0x14 ∷ [])
unfolding grammar bits
addition-define = (refl, refl)

-- removal of service 2 for user 5, with delivery
removal-define : BothWays (a.define (list 1 (near 5 ∷ [])) 1 0 2 (services (2 ∷ [])) zero_lists) 50 (
    0x48 ∷ 0xa2 ∷ 0x00 ∷ 0x00 ∷ 0x0a ∷ 0xa2 ∷ 0x80 ∷ [])
unfolding grammar bits
removal-define = (refl, refl)

-- ---- DEFINE ACK: definition result 6

define-ack : BothWays (a.define_ack users 6) 92 (
    0x48 ∷ 0xc4 ∷ 0x00 ∷ 0x00 ∷ 0x02 ∷ 0x00 ∷ 0x00 ∷ 0x02 ∷ 0x80 ∷ 0x00 ∷ 0x01 ∷ 0xe0 ∷ [])
unfolding grammar bits
define-ack = (refl, refl)

-- ---- DEFINE EXTERNAL: delivery, replacement, services 2 1 3, groups 4 and 6/5, numbers 123 and *#+9, excepted 45

external-define : BothWays
    (a.define_external users 1 0 1 (services (2 ∷ 1 ∷ 3 ∷ [])) (number_lists groups
    (numbers 2 (digits (1 ∷ 2 ∷ 3 ∷ []) ∷ digits (10 ∷ 11 ∷ 12 ∷ 9 ∷ []) ∷ [])) (numbers 1 (digits (4 ∷ 5 ∷ []) ∷ [])))) 242 (
    0x48 ∷ 0xe4 ∷ 0x00 ∷ 0x00 ∷ 0x02 ∷ 0x00 ∷ 0x00 ∷ 0x02 ∷ 0x80 ∷ 0x00 ∷ 0x01 ∷ 0xcb ∷ 0x45 ∷ 0x90 ∷ 0x00 ∷ 0x00 ∷ 0x20 ∷ 0x00 ∷ 0x00 ∷ 0x16 ∷
    0x00 ∷ 0x00 ∷ 0x0c ∷ 0x43 ∷ 0x12 ∷ 0x32 ∷ 0x55 ∷ 0xe4 ∷ 0x88 ∷ 0x91 ∷ 0x40 ∷ [])
unfolding grammar bits
external-define = (refl, refl)

-- ---- DEFINE USER: acknowledgement, addition, services 2 1 3, groups 4 and 6/5, restricted 9/7 to 9/8, exception 10

define-user : BothWays
    (a.define_user 1 0 (services (2 ∷ 1 ∷ 3 ∷ [])) (identity_lists groups (list 9 (far 9 7 ∷ far 9 8 ∷ [])) (list 1 (near 10 ∷ [])))) 235 (
    0x49 ∷ 0x11 ∷ 0xa2 ∷ 0xc8 ∷ 0x00 ∷ 0x00 ∷ 0x10 ∷ 0x00 ∷ 0x00 ∷ 0x0b ∷ 0x00 ∷ 0x00 ∷ 0x06 ∷ 0x90 ∷ 0x00 ∷ 0x00 ∷ 0x78 ∷ 0x00 ∷ 0x00 ∷ 0x48 ∷
    0x00 ∷ 0x00 ∷ 0x44 ∷ 0x00 ∷ 0x00 ∷ 0x24 ∷ 0x40 ∷ 0x00 ∷ 0x02 ∷ 0x80 ∷ [])
unfolding grammar bits
define-user = (refl, refl)

-- ---- DEFINE USER ACK: distribution result 6

user-ack : BothWays (a.define_user_ack 6) 14 (0x49 ∷ 0x38 ∷ [])
unfolding grammar bits
user-ack = (refl, refl)

-- ---- DEFINE EXTERNAL USER: replacement, services 1 and 0; all three lists are ranges, of identities: groups 1 to 2, 5/3 to 5/4, 6 to 7

external-user : BothWays
    (a.define_external_user 0 1 (services (1 ∷ 0 ∷ []))
    (identity_lists (list 9 (near 1 ∷ near 2 ∷ [])) (list 9 (far 5 3 ∷ far 5 4 ∷ [])) (list 9 (near 6 ∷ near 7 ∷ [])))) 233 (
    0x49 ∷ 0x45 ∷ 0x11 ∷ 0x20 ∷ 0x00 ∷ 0x00 ∷ 0x20 ∷ 0x00 ∷ 0x00 ∷ 0x24 ∷ 0x80 ∷ 0x00 ∷ 0x01 ∷ 0xc0 ∷ 0x00 ∷ 0x01 ∷ 0x40 ∷ 0x00 ∷ 0x01 ∷ 0x20 ∷
    0x00 ∷ 0x00 ∷ 0xb2 ∷ 0x00 ∷ 0x00 ∷ 0x0c ∷ 0x00 ∷ 0x00 ∷ 0x07 ∷ 0x00 ∷ [])
unfolding grammar bits
external-user = (refl, refl)

-- ---- INTERROGATE for user 9/7, interrogation type 2

visitor-asked : BothWays (a.interrogate (list 1 (far 9 7 ∷ [])) 2) 66 (0x49 ∷ 0x62 ∷ 0x00 ∷ 0x00 ∷ 0x0f ∷ 0x00 ∷ 0x00 ∷ 0x09 ∷ 0x80 ∷ [])
unfolding grammar bits
visitor-asked = (refl, refl)

-- ---- INTERROGATE ACK

-- result 1, delivery status 2, services 1 2 3 0, group 5/4, restricted 7/6 to 7/8, exceptions 9, 11/10 and 12
identity-ack : BothWays
    (a.interrogate_ack users 1 2 (services (1 ∷ 2 ∷ 3 ∷ 0 ∷ []))
    (identity_lists (list 1 (far 5 4 ∷ [])) (list 9 (far 7 6 ∷ far 7 8 ∷ [])) (list 3 (near 9 ∷ far 11 10 ∷ near 12 ∷ [])))) 367 (
    0x49 ∷ 0x84 ∷ 0x00 ∷ 0x00 ∷ 0x02 ∷ 0x00 ∷ 0x00 ∷ 0x02 ∷ 0x80 ∷ 0x00 ∷ 0x01 ∷ 0x9a ∷ 0x14 ∷ 0xc0 ∷ 0x80 ∷ 0x00 ∷ 0x02 ∷ 0x40 ∷ 0x00 ∷ 0x01 ∷
    0x64 ∷ 0x00 ∷ 0x00 ∷ 0x1a ∷ 0x00 ∷ 0x00 ∷ 0x0e ∷ 0x00 ∷ 0x00 ∷ 0x11 ∷ 0x00 ∷ 0x00 ∷ 0x07 ∷ 0x30 ∷ 0x00 ∷ 0x00 ∷ 0x90 ∷ 0x00 ∷ 0x00 ∷ 0x54 ∷
    0x00 ∷ 0x00 ∷ 0x2c ∷ 0x00 ∷ 0x00 ∷ 0x30 ∷ [])
unfolding grammar bits
identity-ack = (refl, refl)

-- users 1 to 2, result 2, delivery status 1, service 3, groups 3 and 5/4, numbers 123 and *#+9, excepted a number of 24 digits
number-ack : BothWays
    (a.interrogate_ack (list 9 (near 1 ∷ near 2 ∷ [])) 2 1 (services (3 ∷ [])) (number_lists (list 2 (near 3 ∷ far 5 4 ∷ []))
    (numbers 2 (digits (1 ∷ 2 ∷ 3 ∷ []) ∷ digits (10 ∷ 11 ∷ 12 ∷ 9 ∷ []) ∷ []))
    (numbers 1 (digits (0 ∷ 1 ∷ 2 ∷ 3 ∷ 4 ∷ 5 ∷ 6 ∷ 7 ∷ 8 ∷ 9 ∷ 10 ∷ 11 ∷ 12 ∷ 0 ∷ 1 ∷ 2 ∷ 3 ∷ 4 ∷ 5 ∷ 6 ∷ 7 ∷ 8 ∷ 9 ∷ 10 ∷ []) ∷ [])))) 301 (
    0x49 ∷ 0x92 ∷ 0x00 ∷ 0x00 ∷ 0x02 ∷ 0x00 ∷ 0x00 ∷ 0x02 ∷ 0x24 ∷ 0xb2 ∷ 0x00 ∷ 0x00 ∷ 0x03 ∷ 0x00 ∷ 0x00 ∷ 0x02 ∷ 0x40 ∷ 0x00 ∷ 0x01 ∷ 0x48 ∷
    0x62 ∷ 0x46 ∷ 0x4a ∷ 0xbc ∷ 0x91 ∷ 0xc0 ∷ 0x09 ∷ 0x1a ∷ 0x2b ∷ 0x3c ∷ 0x4d ∷ 0x5e ∷ 0x00 ∷ 0x91 ∷ 0xa2 ∷ 0xb3 ∷ 0xc4 ∷ 0xd0 ∷ [])
unfolding grammar bits
number-ack = (refl, refl)

-- result 3: nothing after the services 2 and 1
failed-ack : BothWays (a.interrogate_ack (list 1 (near 5 ∷ [])) 3 1 (services (2 ∷ 1 ∷ [])) zero_lists) 54 (
    0x49 ∷ 0x82 ∷ 0x00 ∷ 0x00 ∷ 0x0a ∷ 0x6a ∷ 0x44 ∷ [])
unfolding grammar bits
failed-ack = (refl, refl)

-- ---- CALL BARRED: rejection cause 2

call-barred : BothWays (a.call_barred 2) 13 (0x49 ∷ 0xb0 ∷ [])
unfolding grammar bits
call-barred = (refl, refl)
