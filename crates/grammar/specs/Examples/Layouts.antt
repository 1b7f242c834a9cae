-- Every element in its place, as tables 10 to 18 have it: each as its width and its value.
use Rattle.std.specs.Prelude.{◌≡◌, refl, Bool, List, [], ◌∷◌, ◌++◌, ℕ}
use Rattle.bits.specs.Bits.{bits_of}
use Rattle.grammar.specs.Grammar.{pdu, grammar}
use Rattle.grammar.specs.Zero.{zero_lists}
use Rattle.grammar.specs.Samples.{near, far, list, digits, numbers, services, identity_lists, number_lists}
use Rattle.grammar.specs.Samples as a
use Rattle.grammar.specs.declared.record.Identities.{Identities}
use Rattle.grammar.specs.declared.record.Services.{Services}
use Rattle.grammar.specs.declared.record.Lists.{Lists}

-- elements, each as its width and its value
abbrev pub Elements : Type 0
Elements = List (ℕ × ℕ)

abbrev pub in_turn : Elements → List Bool
in_turn [] = []
in_turn ((width, v) ∷ l) = bits_of width v ++ in_turn l

-- SS type and PDU type
abbrev pub head : ℕ → Elements
head kind = (6, 18) ∷ (5, kind) ∷ []

-- ---- the parts of these PDUs, as values and as elements

-- user 7/5
abbrev user : Identities
user = list 1 (far 7 5 ∷ [])

-- range type, SSI, extension present, extension
abbrev user_laid : Elements
user_laid = (4, 1) ∷ (24, 5) ∷ (1, 1) ∷ (24, 7) ∷ []

-- the services 1 and 3
abbrev covered : Services
covered = services (1 ∷ 3 ∷ [])

-- number of services, services
abbrev covered_laid : Elements
covered_laid = (3, 2) ∷ (3, 1) ∷ (3, 3) ∷ []

-- delivery, acknowledgement, definition type; acknowledgement, definition type
abbrev pub definition : ℕ → ℕ → ℕ → Elements
definition delivery acknowledgement type = (1, delivery) ∷ (1, acknowledgement) ∷ (2, type) ∷ []

abbrev pub user_definition : ℕ → ℕ → Elements
user_definition acknowledgement type = (1, acknowledgement) ∷ (2, type) ∷ []

-- group 500, restricted the range 7/100 to 7/199, exceptions 150 and 8/151
abbrev identity_part : Lists
identity_part = identity_lists (list 1 (near 500 ∷ [])) (list 9 (far 7 100 ∷ far 7 199 ∷ [])) (list 2 (near 150 ∷ far 8 151 ∷ []))

abbrev identity_part_laid : Elements
identity_part_laid =
    (4, 1) ∷ (24, 500) ∷ (1, 0)
    ∷ (4, 9) ∷ (24, 100) ∷ (1, 1) ∷ (24, 7) ∷ (24, 199) ∷ (1, 1) ∷ (24, 7)
    ∷ (4, 2) ∷ (24, 150) ∷ (1, 0) ∷ (24, 151) ∷ (1, 1) ∷ (24, 8) ∷ []

-- group 500, restricted 112 and *, excepted 9
abbrev number_part : Lists
number_part = number_lists (list 1 (near 500 ∷ [])) (numbers 2 (digits (1 ∷ 1 ∷ 2 ∷ []) ∷ digits (10 ∷ []) ∷ [])) (numbers 1 (digits (9 ∷ []) ∷ []))

abbrev number_part_laid : Elements
number_part_laid =
    (4, 1) ∷ (24, 500) ∷ (1, 0)
    ∷ (4, 2) ∷ (5, 3) ∷ (4, 1) ∷ (4, 1) ∷ (4, 2) ∷ (5, 1) ∷ (4, 10)
    ∷ (4, 1) ∷ (5, 1) ∷ (4, 9) ∷ []

-- three range types, and no entry
abbrev pub empty_part_laid : Elements
empty_part_laid = (4, 0) ∷ (4, 0) ∷ (4, 0) ∷ []

-- ---- table 10: a replacement; an addition has its range types though all lists are empty; a removal has none

replacement-bits : pdu.print (a.define user 1 0 1 covered identity_part)
    ≡ in_turn (head 5 ++ user_laid ++ definition 1 0 1 ++ covered_laid ++ identity_part_laid)
unfolding grammar
replacement-bits = refl

addition-bits : pdu.print (a.define user 1 1 0 covered zero_lists)
    ≡ in_turn (head 5 ++ user_laid ++ definition 1 1 0 ++ covered_laid ++ empty_part_laid)
unfolding grammar
addition-bits = refl

removal-bits : pdu.print (a.define user 0 0 2 covered zero_lists) ≡ in_turn (head 5 ++ user_laid ++ definition 0 0 2 ++ covered_laid)
unfolding grammar
removal-bits = refl

-- ---- table 11: the definition result last

define_ack-bits : pdu.print (a.define_ack user 6) ≡ in_turn (head 6 ++ user_laid ++ (3, 6) ∷ [])
unfolding grammar
define_ack-bits = refl

-- ---- table 12

external_replacement-bits : pdu.print (a.define_external user 1 0 1 covered number_part)
    ≡ in_turn (head 7 ++ user_laid ++ definition 1 0 1 ++ covered_laid ++ number_part_laid)
unfolding grammar
external_replacement-bits = refl

external_addition-bits : pdu.print (a.define_external user 1 1 0 covered zero_lists)
    ≡ in_turn (head 7 ++ user_laid ++ definition 1 1 0 ++ covered_laid ++ empty_part_laid)
unfolding grammar
external_addition-bits = refl

external-removal-bits : pdu.print (a.define_external user 0 0 2 covered zero_lists)
    ≡ in_turn (head 7 ++ user_laid ++ definition 0 0 2 ++ covered_laid)
unfolding grammar
external-removal-bits = refl

-- ---- tables 13 and 15: to the affected user itself, so that it is not named

user_replacement-bits :
    (pdu.print (a.define_user 1 1 covered identity_part) ≡ in_turn (head 8 ++ user_definition 1 1 ++ covered_laid ++ identity_part_laid))
    × (pdu.print (a.define_external_user 1 1 covered identity_part) ≡ in_turn (head 10 ++ user_definition 1 1 ++ covered_laid ++ identity_part_laid))
unfolding grammar
user_replacement-bits = (refl, refl)

user_addition-bits :
    (pdu.print (a.define_user 1 0 covered zero_lists) ≡ in_turn (head 8 ++ user_definition 1 0 ++ covered_laid ++ empty_part_laid))
    × (pdu.print (a.define_external_user 1 0 covered zero_lists) ≡ in_turn (head 10 ++ user_definition 1 0 ++ covered_laid ++ empty_part_laid))
unfolding grammar
user_addition-bits = (refl, refl)

user-removal-bits : (pdu.print (a.define_user 0 2 covered zero_lists) ≡ in_turn (head 8 ++ user_definition 0 2 ++ covered_laid))
    × (pdu.print (a.define_external_user 0 2 covered zero_lists) ≡ in_turn (head 10 ++ user_definition 0 2 ++ covered_laid))
unfolding grammar
user-removal-bits = (refl, refl)

-- ---- tables 14 and 18: the distribution result, the rejection cause

user-ack-bits : pdu.print (a.define_user_ack 7) ≡ in_turn (head 9 ++ (3, 7) ∷ [])
unfolding grammar
user-ack-bits = refl

call_barred-bits : pdu.print (a.call_barred 2) ≡ in_turn (head 13 ++ (2, 2) ∷ [])
unfolding grammar
call_barred-bits = refl

-- ---- table 16: the interrogation type last

interrogate-bits : pdu.print (a.interrogate (list 2 (near 5 ∷ far 7 6 ∷ [])) 2)
    ≡ in_turn (head 11 ++ (4, 2) ∷ (24, 5) ∷ (1, 0) ∷ (24, 6) ∷ (1, 1) ∷ (24, 7) ∷ (2, 2) ∷ [])
unfolding grammar
interrogate-bits = refl

-- ---- table 17: interrogation result, delivery status; the lists as the result has them

identity_part-bits : pdu.print (a.interrogate_ack user 1 2 covered identity_part)
    ≡ in_turn (head 12 ++ user_laid ++ (3, 1) ∷ (2, 2) ∷ covered_laid ++ identity_part_laid)
unfolding grammar
identity_part-bits = refl

number_part-bits : pdu.print (a.interrogate_ack user 2 2 covered number_part)
    ≡ in_turn (head 12 ++ user_laid ++ (3, 2) ∷ (2, 2) ∷ covered_laid ++ number_part_laid)
unfolding grammar
number_part-bits = refl
